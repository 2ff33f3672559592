use Rattle.std.proofs.Common.{sym, subst}
use Rattle.std.specs.Prelude.{option_copied}
use Rattle.refute.specs.Bindings.{IsOther}
use Rattle.refute.proofs.Findings.{found_here}
use Rattle.refute.proofs.bindings.other_than.Goals as goal

pub returns-then-is_other : goal.returns-then-is_other
returns-then-is_other c =
    λ pairs. (
      found_here pairs c.args.x c.args.y c.args.term.now c.in_ok-share.field-0 c.if-x-y.false
          c.in_ok-share.ensures.same,
      subst (IsOther (option_copied c.args.but)) (sym c.in_ok-share.ensures.same)
          (c.is_other.ensures.0 c.if-is_other.true),
    )
