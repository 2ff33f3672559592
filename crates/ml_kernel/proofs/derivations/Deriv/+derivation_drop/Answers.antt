use Rattle.std.proofs.Common.{rules, ◌≡◌, ◌+◌, ◌*◌, ◌≤◌, arith}
use Rattle.std.specs.Result.{is_ok}
use denote.Param.Weighed.{most, w_this}
use Rattle.ml_kernel.specs.declared.derivations.Deriv.{Deriv}
use Rattle.ml_kernel.specs.declared.derivations.Deriv.TheDeep.{size-Deriv}
use Rattle.ml_kernel.specs.Theorems.{derivations}
use Rattle.ml_kernel.specs.StepsIn.{steps_in, all_steps}
use Rattle.ml_kernel.proofs.StepLaws.{steps_in-positive, all_steps-push, all_steps-grown}
use Rattle.ml_kernel.proofs.StepLaws.{all_steps-left, most-weights}
use Rattle.ml_kernel.proofs.derivations.Deriv.+derivation_drop.Goals as goal

pub loop-part-smaller-in_default-into_parts : goal.loop-part-smaller-in_default-into_parts
loop-part-smaller-in_default-into_parts t c =
    let left : all_steps (derivations c.loop-part.pending.items) ≡ all_steps
    (derivations c.pop.new.self.items) + steps_in c.in-Some-pop.part =
    all_steps-push _ _ _ c.in-Some-pop.ensures.items in
    omega (arith, left, steps_in-positive c.in-Some-pop.part)

pub loop-part-preserved-in_default-into_parts : goal.loop-part-preserved-in_default-into_parts
loop-part-preserved-in_default-into_parts t c =
    let left : all_steps (derivations c.loop-part.pending.items) ≡ all_steps
    (derivations c.pop.new.self.items) + steps_in c.in-Some-pop.part =
    all_steps-push _ _ _ c.in-Some-pop.ensures.items in
    omega (arith, left, c.loop-part.invariant)

pub drop-parts-requires : goal.drop-parts-requires
drop-parts-requires t c κs =
    let left : all_steps (derivations c.loop-part.pending.items) ≡ all_steps
    (derivations c.pop.new.self.items) + steps_in c.in-Some-pop.part =
    all_steps-push _ _ _ c.in-Some-pop.ensures.items in
    let rest : all_steps (derivations c.append-appended.new.other.items) ≤ all_steps
    (derivations c.in-Some-into_parts.parts.items) =
    all_steps-left (is_ok c.append-appended.result) _ _ c.append-appended.ensures.other_items in
    let most : most (w_this.weight Deriv size-Deriv) c.append-appended.new.other.items ≤ all_steps
    (derivations c.append-appended.new.other.items) * 2 + 2 =
    most-weights c.append-appended.new.other.items in (
      (
        (
          omega (
            arith,
            left,
            rest,
            most,
            c.loop-part.invariant,
            c.in-Some-into_parts.ensures,
            c.decreases,
          ),
          tt,
        ),
        tt,
      ),
      (λ a m. search rules, λ a m. search rules),
    )

pub loop-part-smaller : goal.loop-part-smaller
loop-part-smaller t c =
    let left : all_steps (derivations c.loop-part.pending.items) ≡ all_steps
    (derivations c.pop.new.self.items) + steps_in c.in-Some-pop.part =
    all_steps-push _ _ _ c.in-Some-pop.ensures.items in
    let grown : all_steps (derivations c.append-appended.new.self.items) ≤ all_steps
    (derivations c.pop.new.self.items) + all_steps
    (derivations c.in-Some-into_parts.parts.items) =
    all_steps-grown (is_ok c.append-appended.result) _ _ _ c.append-appended.ensures.items in
    omega (arith, left, grown, c.in-Some-into_parts.ensures)

pub loop-part-preserved : goal.loop-part-preserved
loop-part-preserved t c =
    let left : all_steps (derivations c.loop-part.pending.items) ≡ all_steps
    (derivations c.pop.new.self.items) + steps_in c.in-Some-pop.part =
    all_steps-push _ _ _ c.in-Some-pop.ensures.items in
    let grown : all_steps (derivations c.append-appended.new.self.items) ≤ all_steps
    (derivations c.pop.new.self.items) + all_steps
    (derivations c.in-Some-into_parts.parts.items) =
    all_steps-grown (is_ok c.append-appended.result) _ _ _ c.append-appended.ensures.items in
    omega (arith, left, grown, c.in-Some-into_parts.ensures, c.loop-part.invariant)
