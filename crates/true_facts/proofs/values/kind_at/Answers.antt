use Rattle.std.proofs.Common.{sym, refl}
use Rattle.true_facts.proofs.TokenLaws.{value_there}
use Rattle.true_facts.proofs.values.kind_at.Goals as goal

pub returns : goal.returns
returns c =
    let there = value_there c.args.sig.now.sorts c.args.place c.in-Some.info.now
    (sym c.in-Some.ensures) in
    (there.0, c.in-Some.info.now, there.1, refl)
