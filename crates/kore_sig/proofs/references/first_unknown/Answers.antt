use Rattle.std.proofs.Common.{◌≡◌, [], List, ap, sym, ◌∙◌, arith, drop, map}
use Rattle.std.specs.Prelude.{flat_map}
use Rattle.std.proofs.lemmas.List.{drop_all}
use Rattle.kore_ast.specs.declared.tree.Sort.{Sort}
use Rattle.kore_ast.specs.Plain.{plain_sort}
use Rattle.kore_sig.specs.Noted.{noted, leads_by_number}
use Rattle.kore_sig.specs.SignatureFaults.{reference_faults}
use Rattle.kore_sig.specs.UnknownSorts.{unknown_sort_at}
use Rattle.kore_sig.proofs.NotedLaws.{first_flat}
use Rattle.kore_sig.proofs.references.first_unknown.Goals as goal

pub returns : goal.returns
returns c =
    let F = reference_faults c.args.sorts.now c.args.params.now in
    let over : drop c.loop-arg.arg-index c.args.args.now ≡ [] =
    drop_all c.loop-arg.arg-index c.args.args.now (omega arith) in
    c.note_unknown-2.ensures
    ∙ first_flat F (map plain_sort c.args.args.now) (plain_sort c.args.value.now)
    (unknown_sort_at c.loop-arg.first)
    (ap (λ (ss : List Sort). noted leads_by_number (unknown_sort_at c.loop-arg.first)
    (flat_map F (map plain_sort ss))) (sym over) ∙ c.loop-arg.invariant)
