-- The variables of the patterns on a stack, as a list gets them one by one.
use Rattle.std.proofs.Common.{◌≡◌, ◌+◌, ◌<◌, List, [], ◌∷◌, ◌++◌, ap, ◌∙◌, sym, arith, append_assoc}
use Rattle.std.proofs.Common.{append-nil}
use Rattle.std.specs.Prelude.{flat_map}
use Rattle.std.proofs.lemmas.Grind.{flat_map-append}
use Rattle.std.specs.Borrow.{Bor}
use Rattle.ml_pat.specs.Patterns.{Pattern}
use Rattle.ml_pat.specs.FormsIn.{forms_in}
use Rattle.mm_proof.specs.Searching.{all_forms, patterns_of}
use Rattle.mm_proof.proofs.Looking.{all_forms-push}
use Rattle.mm_claims.specs.Variables.{Variable, AreNumbered}
use Rattle.mm_claims.specs.ClaimVariables.{variables_in}
use Rattle.mm_claims.specs.AddedVariables.{added}
use Rattle.mm_render.specs.VariablesView.{HaveNumbers, stack_variables, VariablesAreTaken}
use Rattle.mm_render.specs.VariablesView.{PutsVariables}
use Rattle.mm_claims.proofs.OpenCitingTexts.{first_there, later_there}
use Rattle.mm_claims.proofs.AddedVariables.{added-append}

-- patterns on a stack

stack_variables-push : (ps : List (Bor Pattern)) (p : Bor Pattern)
    → stack_variables (patterns_of (ps ++ p ∷ []))
    ≡ variables_in p.now ++ stack_variables (patterns_of ps)
stack_variables-push [] p = sym (append-nil (variables_in p.now))
stack_variables-push (q ∷ ps) p =
    ap (λ (vs : List Variable). vs ++ variables_in q.now) (stack_variables-push ps p)
    ∙ append_assoc (variables_in p.now) (stack_variables (patterns_of ps)) (variables_in q.now)

pub one_put : (p : Bor Pattern) (old new : List (Bor Pattern)) → new ≡ old ++ p ∷ []
    → PutsVariables (variables_in p.now) (forms_in p.now + 1) old new
one_put p old new is =
    let heavier : all_forms (patterns_of new) ≡ all_forms (patterns_of old) + forms_in p.now =
    ap (λ (ps : List (Bor Pattern)). all_forms (patterns_of ps)) is ∙ all_forms-push old p in
    record {
      variables =
          ap (λ (ps : List (Bor Pattern)). stack_variables (patterns_of ps)) is
          ∙ stack_variables-push old p;
      weight = omega (arith, heavier);
    }

pub two_put : (p q : Bor Pattern) (old mid new : List (Bor Pattern)) → mid ≡ old ++ q ∷ []
    → new ≡ mid ++ p ∷ []
    → PutsVariables (variables_in p.now ++ variables_in q.now) (forms_in p.now + forms_in q.now + 1)
    old new
two_put p q old mid new first second =
    let below : PutsVariables (variables_in q.now) (forms_in q.now + 1) old mid =
    one_put q old mid first in
    let heavy : all_forms (patterns_of mid) ≡ all_forms (patterns_of old) + forms_in q.now =
    ap (λ (ps : List (Bor Pattern)). all_forms (patterns_of ps)) first ∙ all_forms-push old q in
    let heavier : all_forms (patterns_of new) ≡ all_forms (patterns_of mid) + forms_in p.now =
    ap (λ (ps : List (Bor Pattern)). all_forms (patterns_of ps)) second
    ∙ all_forms-push mid p in
    record {
      variables =
          ap (λ (ps : List (Bor Pattern)). stack_variables (patterns_of ps)) second
          ∙ stack_variables-push mid p
          ∙ ap (λ (vs : List Variable). variables_in p.now ++ vs) below.variables
          ∙
          sym (append_assoc (variables_in
          p.now) (variables_in q.now) (stack_variables (patterns_of old)));
      weight = omega (arith, heavy, heavier);
    }

-- one more form
pub form_taken : (p : Bor Pattern) (before popped new : List (Bor Pattern))
    (vs vs' whole : List Variable) → before ≡ popped ++ p ∷ []
    → VariablesAreTaken (variables_in p.now) (forms_in p.now) popped new vs vs'
    → added vs (stack_variables (patterns_of before)) ≡ whole
    → added vs' (stack_variables (patterns_of new)) ≡ whole
form_taken p before popped new vs vs' whole is taken invariant =
    taken.variables ∙ ap (added vs) (sym (stack_variables-push popped p))
    ∙ ap (λ (ps : List (Bor Pattern)). added vs (stack_variables (patterns_of ps))) (sym is)
    ∙ invariant

pub taken_smaller : (p : Bor Pattern) (before popped new : List (Bor Pattern))
    (vs vs' : List Variable) → before ≡ popped ++ p ∷ []
    → VariablesAreTaken (variables_in p.now) (forms_in p.now) popped new vs vs'
    → all_forms (patterns_of new) < all_forms (patterns_of before)
taken_smaller p before popped new vs vs' is taken =
    let e : all_forms (patterns_of before) ≡ all_forms (patterns_of popped) + forms_in p.now =
    ap (λ (ps : List (Bor Pattern)). all_forms (patterns_of ps)) is ∙ all_forms-push popped p in
    omega (arith, e, taken.weight)

pub are_numbered : (vs : List Variable) → HaveNumbers vs → AreNumbered vs
are_numbered [] h = tt
are_numbered (v ∷ vs) h =
    (h v (first_there v vs), are_numbered vs (λ u there. h u (later_there v vs u there)))

-- the variables of one more item, added to the others
pub item_added : {A : Type 0} (variables : A → List Variable) (xs before : List A) (x : A)
    (start vs vs' : List Variable) → xs ≡ before ++ x ∷ []
    → vs ≡ added start (flat_map variables before) → vs' ≡ added vs (variables x)
    → vs' ≡ added start (flat_map variables xs)
item_added variables xs before x start vs vs' more old new =
    let all : flat_map variables before ++ variables x ≡ flat_map variables xs =
    ap (λ (us : List Variable). flat_map variables before ++ us) (sym (append-nil (variables x)))
    ∙ sym (flat_map-append variables before (x ∷ [])) ∙ ap (flat_map variables) (sym more) in
    new ∙ ap (λ (us : List Variable). added us (variables x)) old
    ∙ added-append start (flat_map variables before) (variables x) ∙ ap (added start) all
