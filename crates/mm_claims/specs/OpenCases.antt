-- A small statement with variables and a hypothesis, and how it is cited.
use Rattle.std.specs.Prelude.{◌≡◌, ℕ, List, [], ◌∷◌}
use Rattle.mm_database.specs.Proofs.{postorder}
use Rattle.ml_pat.specs.Patterns.{Pattern, imp, next, var, meta, constant}
use Rattle.ml_kernel.specs.Theorems.{Derivation, hypothesis, by_rule, cited, no_derivation}
use Rattle.ml_kernel.specs.Theorems.{more_derivations}
use Rattle.ml_kernel.specs.Rules.{pattern}
use Rattle.ml_kernel.specs.declared.rules.Rule.TheVariants as rule
use Rattle.mm_proof.specs.Labels.{name_label, statement_label, object_label, meta_label}
use Rattle.mm_proof.specs.Labels.{premise_label, own_labels}
use Rattle.mm_proof.specs.Derivations.{derivation_tree}
use Rattle.mm_claims.specs.Variables.{object_variable, pattern_variable}
use Rattle.mm_claims.specs.Blocks.{Claim}
use Rattle.mm_claims.specs.CitedAt.{at_places, claims_citing}
use Rattle.mm_claims.specs.OpenVariables.{variables_of}
use Rattle.mm_claims.specs.ClaimVariables.{other_variables}

-- the hypothesis of a small claim: x implies m; the claim concludes that each predecessor of x is
-- one of m
abbrev premise_of_next : Pattern
premise_of_next = imp (var 0) (meta 0)

abbrev next_of_both : Pattern
next_of_both = imp (next (var 0)) (next (meta 0))

abbrev next_claim : Claim
next_claim = record {
  variables = object_variable 0 ∷ (pattern_variable 0 ∷ []);
  hypotheses = premise_of_next ∷ [];
  conclusion = next_of_both;
}

-- its derivation, and one that cites it with a pattern substituted for m
abbrev next_derivation : Derivation
next_derivation =
    by_rule rule.NextIn (pattern (var 0) ∷ (pattern (meta 0) ∷ []))
    (more_derivations (hypothesis premise_of_next) no_derivation)

abbrev citing_next : Pattern → Derivation
citing_next p =
    cited (premise_of_next ∷ []) next_of_both next_derivation (p ∷ [])
    (more_derivations (hypothesis (imp (var 0) p)) no_derivation)

-- the claim is the only one, and the block's hypothesis is the only one
abbrev only_place : List Pattern → Pattern → ℕ
only_place own q = 0

abbrev only_premise : Pattern → ℕ
only_premise p = 0

pub record TriedCitations : Type 0 where
  pub citation : postorder
      (derivation_tree (own_labels 2) (claims_citing 2 (at_places (next_claim ∷ []) only_place)
      only_premise) (citing_next
      (constant 1))) ≡ object_label 2 0 ∷ name_label 1 ∷ premise_label 2 0 ∷
      statement_label 0 ∷ []
  pub renamed : postorder
      (derivation_tree (own_labels 2) (claims_citing 2 (at_places (next_claim ∷ []) only_place)
      only_premise) (citing_next
      (meta 3))) ≡ object_label 2 0 ∷ meta_label 2 3 ∷ premise_label 2 0 ∷
      statement_label 0 ∷ []
  pub needed : other_variables (pattern_variable 3 ∷ [])
      (variables_of (at_places (next_claim ∷ []) only_place)
      (citing_next (next (imp (meta 3) (meta 5))))) ≡ object_variable 0 ∷ (pattern_variable 5 ∷ [])
