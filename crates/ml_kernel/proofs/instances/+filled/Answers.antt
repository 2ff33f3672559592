use Rattle.std.proofs.Common.{◌≡◌, ◌++◌, ◌∷◌, [], List, Bor, Some, ◌∙◌, ap, sym, subst, arith}
use Rattle.std.proofs.Common.{rules}
use Rattle.ml_pat.specs.Patterns.{Pattern}
use Rattle.ml_pat.specs.SpinePart.{spine_part}
use Rattle.ml_pat.specs.Spines.{LeadsTo}
use Rattle.ml_pat.proofs.SpineLaws.{LeadsTo-push, LeadsTo-pop, LeadsTo-smaller}
use Rattle.ml_kernel.specs.Spines.{around}
use Rattle.ml_kernel.proofs.SpineLaws.{around-instance}
use Rattle.ml_kernel.proofs.instances.+filled.Goals as goal

pub filled-loop-part-preserved : goal.filled-loop-part-preserved
filled-loop-part-preserved t c =
    subst (λ (rs : List (Bor Pattern)). LeadsTo c.args.pat.now rs c.in-Some.part.now)
    (sym c.in_ok-push.ensures.items)
    (LeadsTo-push c.args.pat.now c.loop-part.above.items c.loop-part.lowest c.in-Some.part.now
    c.loop-part.invariant (search rules))

pub filled-filled_around-requires : goal.filled-filled_around-requires
filled-filled_around-requires t c =
    (omega (arith, LeadsTo-smaller _ _ _ c.loop-part.invariant, c.decreases), tt)

pub filled-filled_around-requires-in-Some-pop : goal.filled-filled_around-requires-in-Some-pop
filled-filled_around-requires-in-Some-pop t c =
    let way : LeadsTo c.args.pat.now (c.pop.new.self.items ++ c.in-Some-pop.whole ∷ [])
    c.loop-whole.invariant.0 =
    subst (λ (rs : List (Bor Pattern)). LeadsTo c.args.pat.now rs c.loop-whole.invariant.0)
    c.in-Some-pop.ensures.items c.loop-whole.invariant.1.0 in
    (omega (arith, LeadsTo-smaller _ _ _ (LeadsTo-pop _ _ _ _ way).0, c.decreases), tt)

pub filled-loop-whole-preserved : goal.filled-loop-whole-preserved
filled-loop-whole-preserved t c =
    let way : LeadsTo c.args.pat.now (c.pop.new.self.items ++ c.in-Some-pop.whole ∷ [])
    c.loop-whole.invariant.0 =
    subst (λ (rs : List (Bor Pattern)). LeadsTo c.args.pat.now rs c.loop-whole.invariant.0)
    c.in-Some-pop.ensures.items c.loop-whole.invariant.1.0 in
    let above : LeadsTo c.args.pat.now c.pop.new.self.items c.in-Some-pop.whole.now ×
    (spine_part c.in-Some-pop.whole.now ≡ Some c.loop-whole.invariant.0) =
    LeadsTo-pop _ _ _ _ way in (
      c.in-Some-pop.whole.now,
      (
        above.0,
        c.in_ok-made-2.ensures
            ∙ ap (λ (p : Pattern). around c.args.metas.now p c.in-Some-pop.whole.now)
            c.loop-whole.invariant.1.1
            ∙ around-instance c.args.metas.now c.in-Some-pop.whole.now c.loop-whole.invariant.0
            above.1,
      ),
    )
