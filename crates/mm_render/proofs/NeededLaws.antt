-- The variables of a derivation, as they are found step by step.
use Rattle.std.proofs.Common.{◌≡◌, ◌+◌, ◌<◌, Bool, true, false, List, [], ◌∷◌, ◌++◌, refl, ap, ◌∙◌}
use Rattle.std.proofs.Common.{sym, arith, append_assoc, append-nil}
use Rattle.std.specs.Prelude.{◌||◌}
use Rattle.std.specs.Borrow.{Bor}
use Rattle.ml_pat.specs.Patterns.{Pattern}
use Rattle.ml_kernel.specs.StepsIn.{steps_in, all_steps}
use Rattle.ml_kernel.specs.Theorems.{Derivation, Derivations, more_derivations}
use Rattle.mm_claims.specs.Variables.{Variable, has_variable, AreNumbered}
use Rattle.mm_render.specs.VariablesView.{HaveNumbers}
use Rattle.mm_claims.specs.Blocks.{Stated}
use Rattle.mm_claims.specs.AddedVariables.{added}
use Rattle.mm_claims.specs.OpenVariables.{variables_of, all_variables_of}
use Rattle.mm_render.specs.NeededView.{stack_needs, stack_steps, PutsDerivations, StepIsTaken}
use Rattle.mm_claims.proofs.AddedVariables.{added-append, among_added}
use Rattle.mm_render.proofs.StackedVariables.{are_numbered}

-- derivations on a stack

stack_needs-push : (find : List Pattern → Pattern → Stated) (ds : List (Bor Derivation))
    (d : Bor Derivation)
    → stack_needs find (ds ++ d ∷ []) ≡ variables_of find d.now ++ stack_needs find ds
stack_needs-push find [] d = sym (append-nil (variables_of find d.now))
stack_needs-push find (e ∷ ds) d =
    ap (λ (vs : List Variable). vs ++ variables_of find e.now) (stack_needs-push find ds d)
    ∙ append_assoc (variables_of find d.now) (stack_needs find ds) (variables_of find e.now)

stack_steps-push : (ds : List (Bor Derivation)) (d : Bor Derivation)
    → stack_steps (ds ++ d ∷ []) ≡ stack_steps ds + steps_in d.now
stack_steps-push [] d = omega arith
stack_steps-push (e ∷ ds) d = omega (arith, stack_steps-push ds d)

-- one more derivation before those that were put on the stack
pub derivation_put : (d : Bor Derivation) (ds all : Derivations)
    (old mid new : List (Bor Derivation)) → PutsDerivations ds old mid → new ≡ mid ++ d ∷ []
    → all ≡ more_derivations d.now ds → PutsDerivations all old new
derivation_put d ds all old mid new put pushed whole =
    let heavier : stack_steps new ≡ stack_steps mid + steps_in d.now =
    ap stack_steps pushed ∙ stack_steps-push mid d in
    let light : all_steps all ≡ steps_in d.now + all_steps ds = ap all_steps whole in
    record {
      needs = λ find.
          ap (stack_needs find) pushed ∙ stack_needs-push find mid d
          ∙ ap (λ (vs : List Variable). variables_of find d.now ++ vs) (put.needs find)
          ∙
          sym (append_assoc (variables_of find
          d.now) (all_variables_of find ds) (stack_needs find old))
          ∙ ap (λ (es : Derivations). all_variables_of find es ++ stack_needs find old) (sym whole);
      steps = omega (arith, put.steps, heavier, light);
    }

-- a step without derivations below it
pub leaf_needed : (find : List Pattern → Pattern → Stated) (d : Derivation) (us : List Variable)
    (old : List (Bor Derivation)) (vs vs' : List Variable) → variables_of find d ≡ us
    → steps_in d ≡ 1 → vs' ≡ added vs us → StepIsTaken find d old old vs vs'
leaf_needed find d us old vs vs' whole light is = record {
  needs =
      ap (λ (xs : List Variable). added xs (stack_needs find old)) is
      ∙ added-append vs us (stack_needs find old)
      ∙ ap (λ (xs : List Variable). added vs (xs ++ stack_needs find old)) (sym whole);
  steps = omega (arith, light);
}

-- a step with derivations below it
pub step_needed : (find : List Pattern → Pattern → Stated) (d : Derivation) (us : List Variable)
    (ds : Derivations) (old new : List (Bor Derivation)) (vs vs' : List Variable)
    → variables_of find d ≡ us ++ all_variables_of find ds → all_steps ds < steps_in d
    → vs' ≡ added vs us → PutsDerivations ds old new → StepIsTaken find d old new vs vs'
step_needed find d us ds old new vs vs' whole light is put = record {
  needs =
      ap (λ (xs : List Variable). added xs (stack_needs find new)) is
      ∙ ap (added (added vs us)) (put.needs find)
      ∙ added-append vs us (all_variables_of find ds ++ stack_needs find old)
      ∙ ap (added vs) (sym (append_assoc us (all_variables_of find ds) (stack_needs find old))
      ∙ ap (λ (xs : List Variable). xs ++ stack_needs find old) (sym whole));
  steps = omega (arith, put.steps, light);
}

-- if no patterns are given, each variable is its own instance

-- one more derivation
pub step_added : (find : List Pattern → Pattern → Stated) (d : Bor Derivation)
    (before popped new : List (Bor Derivation)) (vs vs' whole : List Variable)
    → before ≡ popped ++ d ∷ [] → StepIsTaken find d.now popped new vs vs'
    → added vs (stack_needs find before) ≡ whole → added vs' (stack_needs find new) ≡ whole
step_added find d before popped new vs vs' whole is taken invariant =
    taken.needs ∙ ap (added vs) (sym (stack_needs-push find popped d))
    ∙ ap (λ (ds : List (Bor Derivation)). added vs (stack_needs find ds)) (sym is) ∙ invariant

pub step_smaller : (find : List Pattern → Pattern → Stated) (d : Bor Derivation)
    (before popped new : List (Bor Derivation)) (vs vs' : List Variable)
    → before ≡ popped ++ d ∷ [] → StepIsTaken find d.now popped new vs vs'
    → stack_steps new < stack_steps before
step_smaller find d before popped new vs vs' is taken =
    let e : stack_steps before ≡ stack_steps popped + steps_in d.now =
    ap stack_steps is ∙ stack_steps-push popped d in
    omega (arith, e, taken.steps)

-- if all variables have numbers of 64 bits after adding, then those that were added have such
-- numbers
pub added_numbered : (vs us all : List Variable) → all ≡ added vs us → HaveNumbers all
    → AreNumbered us
added_numbered vs us all is small =
    are_numbered us (λ v there. small v (ap (λ (xs : List Variable). has_variable xs v) is
    ∙ among_added vs us v ∙ either (has_variable vs v) (has_variable us v) there))
  where
    either : (a b : Bool) → b ≡ true → (a || b) ≡ true
    either true b h = refl
    either false b h = h
