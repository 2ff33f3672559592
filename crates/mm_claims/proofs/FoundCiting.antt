-- What is written for a derivation whose citations are found among the claims of a text, each at
-- the place of its number.
use Rattle.std.proofs.Common.{◌≡◌, ℕ, List, [], ◌∷◌, ◌++◌, refl, ap, ◌∙◌}
use Rattle.std.specs.Prelude.{flat_map}
use Rattle.mm_text.specs.Bytes.{Token}
use Rattle.mm_database.specs.Proofs.{ProofTree}
use Rattle.ml_pat.specs.Patterns.{Pattern}
use Rattle.ml_kernel.specs.Theorems.{Derivation, Derivations, hypothesis, own_axiom, by_rule, cited}
use Rattle.ml_kernel.specs.Theorems.{no_derivation, more_derivations}
use Rattle.ml_kernel.specs.MayCite.{EachCited, AllCited}
use Rattle.mm_proof.specs.Labels.{own_labels}
use Rattle.mm_proof.specs.Trees.{rule_tree}
use Rattle.mm_proof.specs.Derivations.{derivation_tree, derivation_trees}
use Rattle.mm_claims.specs.Variables.{Variable}
use Rattle.mm_claims.specs.Blocks.{Claim, Stated}
use Rattle.mm_claims.specs.CitedAt.{at_places, claim_tree, claims_citing}
use Rattle.mm_claims.specs.OpenVariables.{variables_at, variables_for, variables_of}
use Rattle.mm_claims.specs.OpenVariables.{all_variables_of}
use Rattle.mm_claims.specs.Keeping.{AreAmong}
use Rattle.mm_claims.specs.Places.{IsStated, Finds, stated_cites}
use Rattle.mm_claims.proofs.OpenCiting.{claim_is}

-- the places of what is found
abbrev pub places_of : (List Pattern → Pattern → Stated) → List Pattern → Pattern → ℕ
places_of find own q = (find own q).number

-- the claims of a text that are found by their places are those that are kept
pub found_is : (claims : List Claim) (kept : List Stated) (find : List Pattern → Pattern → Stated)
    (own : List Pattern) (q : Pattern) → AreAmong claims kept → Finds kept find
    → IsStated kept own q → at_places claims (places_of find) own q ≡ find own q
found_is claims kept find own q among finds there =
    let n : ℕ = (find own q).number in
    ap (λ (s : Claim). let x : Stated = record { number = n; claim = s } in x)
    (claim_is claims n (find own q).claim (among (find own q) (finds own q there).there))

mutual
  pub tree_found : (claims : List Claim) (kept : List Stated)
      (find : List Pattern → Pattern → Stated) (declared : List Token) (k : ℕ)
      (premise_place : Pattern → ℕ) (d : Derivation) → AreAmong claims kept → Finds kept find
      → EachCited (stated_cites declared kept) d
      → derivation_tree (own_labels k)
      (claims_citing k (at_places claims (places_of find)) premise_place) d
      ≡ derivation_tree (own_labels k) (claims_citing k find premise_place) d
  tree_found claims kept find declared k premise_place (hypothesis p) among finds h = refl
  tree_found claims kept find declared k premise_place (own_axiom n p new) among finds h =
      ap (λ (s : Stated). claim_tree (own_labels k) s new [] [])
      (found_is claims kept find [] p among finds h)
  tree_found claims kept find declared k premise_place (by_rule r is ds) among finds h =
      ap (rule_tree (own_labels k) r is)
      (trees_found claims kept find declared k premise_place ds among finds h)
  tree_found claims kept find declared k premise_place (cited own q d ms ds) among finds h =
      ap (λ (s : Stated). claim_tree (own_labels k) s [] ms (derivation_trees (own_labels k)
      (claims_citing k (at_places claims (places_of find)) premise_place) ds))
      (found_is claims kept find own q among finds h.0.0)
      ∙ ap (λ (trees : List ProofTree). claim_tree (own_labels k) (find own q) [] ms trees)
      (trees_found claims kept find declared k premise_place ds among finds h.1)

  trees_found : (claims : List Claim) (kept : List Stated) (find : List Pattern → Pattern → Stated)
      (declared : List Token) (k : ℕ) (premise_place : Pattern → ℕ) (ds : Derivations)
      → AreAmong claims kept → Finds kept find → AllCited (stated_cites declared kept) ds
      → derivation_trees (own_labels k)
      (claims_citing k (at_places claims (places_of find)) premise_place) ds
      ≡ derivation_trees (own_labels k) (claims_citing k find premise_place) ds
  trees_found claims kept find declared k premise_place no_derivation among finds h = refl
  trees_found claims kept find declared k premise_place (more_derivations d ds) among finds h =
      ap (λ (t : ProofTree). t
      ∷ derivation_trees (own_labels k)
      (claims_citing k (at_places claims (places_of find)) premise_place) ds)
      (tree_found claims kept find declared k premise_place d among finds h.0)
      ∙ ap (λ (trees : List ProofTree).
      derivation_tree (own_labels k) (claims_citing k find premise_place) d ∷ trees)
      (trees_found claims kept find declared k premise_place ds among finds h.1)

mutual
  pub variables_found : (claims : List Claim) (kept : List Stated)
      (find : List Pattern → Pattern → Stated) (declared : List Token) (d : Derivation)
      → AreAmong claims kept → Finds kept find → EachCited (stated_cites declared kept) d
      → variables_of (at_places claims (places_of find)) d ≡ variables_of find d
  variables_found claims kept find declared (hypothesis p) among finds h = refl
  variables_found claims kept find declared (own_axiom n p new) among finds h =
      ap (λ (s : Stated). flat_map (variables_at new []) s.claim.variables)
      (found_is claims kept find [] p among finds h)
  variables_found claims kept find declared (by_rule r is ds) among finds h =
      ap (λ (vs : List Variable). flat_map variables_for is ++ vs)
      (all_variables_found claims kept find declared ds among finds h)
  variables_found claims kept find declared (cited own q d ms ds) among finds h =
      ap (λ (s : Stated). flat_map (variables_at [] ms) s.claim.variables
      ++ all_variables_of (at_places claims (places_of find)) ds)
      (found_is claims kept find own q among finds h.0.0)
      ∙ ap
      (λ (vs : List Variable). flat_map (variables_at [] ms) (find own q).claim.variables ++ vs)
      (all_variables_found claims kept find declared ds among finds h.1)

  all_variables_found : (claims : List Claim) (kept : List Stated)
      (find : List Pattern → Pattern → Stated) (declared : List Token) (ds : Derivations)
      → AreAmong claims kept → Finds kept find → AllCited (stated_cites declared kept) ds
      → all_variables_of (at_places claims (places_of find)) ds ≡ all_variables_of find ds
  all_variables_found claims kept find declared no_derivation among finds h = refl
  all_variables_found claims kept find declared (more_derivations d ds) among finds h =
      ap (λ (vs : List Variable). vs ++ all_variables_of (at_places claims (places_of find)) ds)
      (variables_found claims kept find declared d among finds h.0)
      ∙ ap (λ (vs : List Variable). variables_of find d ++ vs)
      (all_variables_found claims kept find declared ds among finds h.1)
