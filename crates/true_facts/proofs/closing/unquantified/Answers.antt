use Rattle.std.proofs.Common.{sym, ◌∙◌}
use Rattle.true_facts.proofs.ClosingLaws.{unquantified-same}
use Rattle.true_facts.proofs.closing.unquantified.Goals as goal

pub returns : goal.returns
returns c =
    sym (unquantified-same c.loop-inner.body.now c.in_default.ensures) ∙ c.loop-inner.invariant
