-- Conjunctions of the equations of variables.
use Rattle.std.proofs.Common.{◌≡◌, ◌≢◌, ◌⊎◌, inl, inr, ℕ, zero, suc, Bool, true, false, List, [], ◌∷◌}
use Rattle.std.proofs.Common.{Option, Some, None, refl, sym, ◌∙◌, ap, subst, arith, eq-eqb}
use Rattle.std.specs.Prelude.{Contains, ◌==◌, if◌then◌else◌}
use Rattle.std.proofs.lemmas.Bool.{eqb-true}
use Rattle.ml_pat.specs.Patterns.{Pattern as LogicPattern}
use Rattle.ml_pat.specs.Patterns as logic
use Rattle.term_core.specs.Terms.{Tree}
use Rattle.term_core.specs.Patterns.{binding, ground_pattern}
use Rattle.rule_core.proofs.Bindings.{same_or_other}
use Rattle.ml_image.specs.Sentences.{sentence_image, term}
use Rattle.prove_term.specs.Contexts.{Context}
use Rattle.prove_term.proofs.ImageShapes.{both_some}
use Rattle.refute.specs.Refutations.{all_bound, is_bound_to}
use Rattle.refute_body.specs.Implications.{HasEquation, first_equation, is_equation_on}

some_same : {A : Type 0} (x y : A) → Some x ≡ Some y → x ≡ y
some_same x y e = cc

-- the equation of a variable is of that variable and of no other
own_equation : (cx : Context) (x : ℕ) (t : Tree) (e : LogicPattern)
    → sentence_image cx.program.sig cx.names (is_bound_to x (Some t)) ≡ Some e
    → is_equation_on x e ≡ true
own_equation cx x t e is =
    let w = both_some logic.equal (Some (logic.var x))
    (sentence_image cx.program.sig cx.names (term (ground_pattern t))) e is in
    let this : logic.var x ≡ w.0 = some_same (logic.var x) w.0 w.2 in
    ap (is_equation_on x) (w.4 ∙ ap (λ (p : LogicPattern). logic.equal p w.1) (sym this))
    ∙ eq-eqb x x refl

other_equation : (cx : Context) (x y : ℕ) (o : Option Tree) (e : LogicPattern) → y ≢ x
    → sentence_image cx.program.sig cx.names (is_bound_to y o) ≡ Some e → is_equation_on x e ≡ false
other_equation cx x y None e differ is = ap (is_equation_on x) (sym (some_same logic.top e is))
other_equation cx x y (Some t) e differ is =
    let w = both_some logic.equal (Some (logic.var y))
    (sentence_image cx.program.sig cx.names (term (ground_pattern t))) e is in
    let this : logic.var y ≡ w.0 = some_same (logic.var y) w.0 w.2 in
    ap (is_equation_on x) (w.4 ∙ ap (λ (p : LogicPattern). logic.equal p w.1) (sym this))
    ∙ unequal (y == x) refl
  where
    unequal : (b : Bool) → (y == x) ≡ b → b ≡ false
    unequal true same = absurd (differ (eqb-true y x same))
    unequal false same = refl

-- the equation of the variable is found
pub record IsFound (cx : Context) (x : ℕ) (o : Option Tree) (e : LogicPattern) : Type 0 where
  pub has : HasEquation x e
  pub is : sentence_image cx.program.sig cx.names (is_bound_to x o) ≡ Some (first_equation x e)

pub equation_found : (cx : Context) (theta : List (Option Tree)) (xs : List ℕ) (x : ℕ) (t : Tree)
    (e : LogicPattern) → binding theta x ≡ Some t → Contains xs x
    → sentence_image cx.program.sig cx.names (all_bound theta xs) ≡ Some e
    → IsFound cx x (binding theta x) e
equation_found cx theta [] x t e bound there is = absurd (omega (arith, there.1))
equation_found cx theta (y ∷ xs) x t e bound there is =
    let w = both_some logic.and (sentence_image cx.program.sig cx.names
    (is_bound_to y (binding theta y))) (sentence_image cx.program.sig cx.names (all_bound theta xs)) e
    is in
    subst (IsFound cx x (binding theta x)) (sym w.4)
    (case_of cx theta xs x y t w.0 w.1 bound (same_or_other y x) w.2
    (λ later. equation_found cx theta xs x t w.1 bound later w.3) there)
  where
    later_there : (xs : List ℕ) (x y : ℕ) → y ≢ x → Contains (y ∷ xs) x → Contains xs x
    later_there xs x y differ (zero, low, same) = absurd (differ same)
    later_there xs x y differ (suc k, low, same) = (k, omega (arith, low), same)

    case_of : (cx : Context) (theta : List (Option Tree)) (xs : List ℕ) (x y : ℕ) (t : Tree)
        (first others : LogicPattern) → binding theta x ≡ Some t → (y ≡ x) ⊎ (y ≢ x)
        → sentence_image cx.program.sig cx.names (is_bound_to y (binding theta y)) ≡ Some first
        → (Contains xs x → IsFound cx x (binding theta x) others) → Contains (y ∷ xs) x
        → IsFound cx x (binding theta x) (logic.and first others)
    case_of cx theta xs x y t first others bound (inl same) image rest there =
        let here : sentence_image cx.program.sig cx.names (is_bound_to x (binding theta x))
        ≡ Some first =
        ap (λ (z : ℕ). sentence_image cx.program.sig cx.names (is_bound_to z (binding theta z)))
        (sym same) ∙ image in
        let own : is_equation_on x first ≡ true =
        own_equation cx x t first
        (ap (λ (o : Option Tree). sentence_image cx.program.sig cx.names (is_bound_to x o))
        (sym bound) ∙ here) in
        record {
          has = inl own;
          is =
              here ∙ ap (λ (b : Bool). Some (if b then first else first_equation x others))
              (sym own);
        }
    case_of cx theta xs x y t first others bound (inr differ) image rest there =
        let found : IsFound cx x (binding theta x) others =
        rest (later_there xs x y differ there) in
        let other : is_equation_on x first ≡ false =
        other_equation cx x y (binding theta y) first differ image in
        record {
          has = inr found.has;
          is =
              found.is ∙ ap (λ (b : Bool). Some (if b then first else first_equation x others))
              (sym other);
        }
