-- What is over declared names is a claim, with the variables that occur in it.
use Rattle.std.proofs.Common.{◌≡◌, Bool, true, List, [], ◌∷◌, refl, ap, ◌∙◌, sym}
use Rattle.std.specs.Prelude.{◌||◌, flat_map}
use Rattle.std.specs.List.{list_any, list_all}
use Rattle.mm_text.specs.Bytes.{Token}
use Rattle.ml_pat.specs.Patterns.{Pattern, unary, binary, sorted, quantified, var, meta}
use Rattle.ml_pat.specs.Leaves.{EachLeaf}
use Rattle.ml_pat.proofs.LeafLaws.{both_true}
use Rattle.mm_claims.specs.Variables.{Variable, object_variable, pattern_variable, same_variable}
use Rattle.mm_claims.specs.Variables.{has_variable, are_once, occurs_in}
use Rattle.mm_claims.specs.OverNames.{open_over, AreOpenOver, over_names, AreOverNames}
use Rattle.mm_claims.specs.ClaimVariables.{claim_variables, variables_in}
use Rattle.mm_claims.specs.ClaimLaws.{OverNamesIsClaim}
use Rattle.mm_claims.proofs.OpenCitingTexts.{first_there, later_there}
use Rattle.mm_claims.proofs.OpenVariableLaws.{leaves_among}
use Rattle.mm_claims.proofs.AddedVariables.{just_others, others_once}
use Rattle.mm_claims.proofs.BoolLaws.{second_true, either_true, or_false}
use Rattle.mm_claims.proofs.VariableLaws.{has_append}

-- a variable occurs in a pattern if and only if it is one of the pattern's variables
stands-in : (v : Variable) (p : Pattern) → occurs_in v p ≡ has_variable (variables_in p) v
stands-in v (binary c p q) =
    sym (has_append (variables_in
    p) (variables_in q) v ∙ ap (λ b. b
    || has_variable (variables_in q) v) (sym (stands-in v p)) ∙ ap (λ b. occurs_in v p
    || b) (sym (stands-in v q)))
stands-in v (unary c p) = stands-in v p
stands-in v (sorted c p s) = stands-in v p
stands-in v (quantified c x s p) =
    ap (λ b. same_variable (object_variable x) v || b) (stands-in v p)
stands-in v (var x) = sym (or_false (same_variable (object_variable x) v))
stands-in v (meta i) = sym (or_false (same_variable (pattern_variable i) v))
stands-in v p = refl

stands-any : (v : Variable) (ps : List Pattern)
    → list_any (occurs_in v) ps ≡ has_variable (flat_map variables_in ps) v
stands-any v [] = refl
stands-any v (p ∷ ps) = ap (λ b. b || list_any (occurs_in v) ps) (stands-in v p)
    ∙ ap (λ b. has_variable (variables_in p) v || b) (stands-any v ps)
    ∙ sym (has_append (variables_in p) (flat_map variables_in ps) v)

all_pass : (test : Variable → Bool) (vs : List Variable)
    → ((v : Variable) → has_variable vs v ≡ true → test v ≡ true) → list_all test vs ≡ true
all_pass test [] h = refl
all_pass test (v ∷ vs) h =
    both_true (test v) (list_all test vs) (h v (first_there v vs))
    (all_pass test vs (λ u there. h u (later_there v vs u there)))

-- each variable that occurs in a pattern is one of some variables
abbrev StandAmong : Pattern → List Variable → Type 0
StandAmong p vs = (v : Variable) → occurs_in v p ≡ true → has_variable vs v ≡ true

leaves_known : (declared : List Token) (vs : List Variable) (p : Pattern) → StandAmong p vs
    → EachLeaf (over_names declared) p → EachLeaf (open_over declared vs) p
leaves_known declared vs p w h =
    leaves_among declared vs p (λ v there. w v (stands-in v p ∙ there)) h

all_known : (declared : List Token) (vs : List Variable) (ps : List Pattern)
    → ((v : Variable) → list_any (occurs_in v) ps ≡ true → has_variable vs v ≡ true)
    → AreOverNames declared ps → AreOpenOver declared vs ps
all_known declared vs [] w h = tt
all_known declared vs (p ∷ ps) w h = (
  leaves_known declared vs p
      (λ v there. w v (either_true (occurs_in v p) (list_any (occurs_in v) ps) there)) h.0,
  all_known declared vs ps
      (λ v there. w v (second_true (occurs_in v p) (list_any (occurs_in v) ps) there)) h.1,
)

pub claim_once : (hypotheses : List Pattern) (conclusion : Pattern)
    → are_once (claim_variables hypotheses conclusion) ≡ true
claim_once hypotheses conclusion = others_once (flat_map variables_in (conclusion ∷ hypotheses))

pub over_names_is_claim : OverNamesIsClaim
over_names_is_claim declared hypotheses conclusion over numbered few =
    let ps : List Pattern = conclusion ∷ hypotheses in
    let just : (v : Variable) → has_variable (claim_variables hypotheses conclusion) v ≡ list_any
    (occurs_in v) ps =
    λ v. just_others (flat_map variables_in ps) v ∙ sym (stands-any v ps) in
    record {
      once = claim_once hypotheses conclusion;
      numbered = numbered;
      stand =
          all_pass (λ v. list_any (occurs_in v) ps) (claim_variables hypotheses conclusion)
          (λ v there. sym (just v) ∙ there);
      over =
          all_known declared (claim_variables hypotheses conclusion) ps (λ v there. just v ∙ there)
          over;
      few = few;
    }
