use Rattle.assumed_texts.proofs.ConstructorLaws.{one-sort}
use Rattle.assumed_texts.proofs.constructors.have_one_sort.Goals as goal

pub returns-in-Sort-Sort : goal.returns-in-Sort-Sort
returns-in-Sort-Sort c =
    one-sort c.args.one.now c.args.other.now c.in-Sort-Sort.a.0 c.in-Sort-Sort.b.0 c.eq.result
    c.in-Sort-Sort.is-0 c.in-Sort-Sort.is-1 c.eq.ensures
