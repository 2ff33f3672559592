-- Derivations that cite lemmas at patterns for their pattern variables, under hypotheses.
use Rattle.std.specs.Prelude.{◌≡◌, ℕ, List, [], ◌∷◌, ◌++◌, map, slice_get, slice_index_or, Some}
use Rattle.std.specs.Prelude.{Contains}
use Rattle.mm_database.specs.Proofs.{ProofTree}
use Rattle.ml_pat.specs.Patterns.{Pattern, bot, meta}
use Rattle.ml_kernel.specs.Lemmas.{instance}
use Rattle.ml_kernel.specs.Renamings.{by_place}
use Rattle.mm_proof.specs.Tokens.{Naming}
use Rattle.mm_proof.specs.Labels.{statement_label, premise_label, own_labels}
use Rattle.ml_pat.specs.Leaves.{LeafFacts, EachLeaf}
use Rattle.mm_proof.specs.Trees.{cite, syntax_tree}
use Rattle.mm_proof.specs.Derivations.{Citing}
use Rattle.mm_claims.specs.Variables.{Variable, object_variable, pattern_variable}
use Rattle.mm_claims.specs.Blocks.{Claim, Stated}

-- Claims are cited by their labels, over the proofs of what is substituted for their variables, in
-- order, and then the proofs of their hypotheses. An object variable becomes its new one, and a
-- pattern variable its instance.
abbrev pub variable_tree : Naming → List ℕ → List Pattern → Variable → ProofTree
variable_tree l new ms (object_variable i) = cite (l.object (by_place new i)) []
variable_tree l new ms (pattern_variable i) = syntax_tree l (instance ms (meta i))

abbrev pub claim_tree : Naming → Stated → List ℕ → List Pattern → List ProofTree → ProofTree
claim_tree l s new ms trees =
    cite (statement_label s.number) (map (variable_tree l new ms) s.claim.variables ++ trees)

-- citing in the block with a number: claims are found by hypotheses and conclusion, and the
-- hypotheses of the block have places
abbrev pub claims_citing : ℕ → (List Pattern → Pattern → Stated) → (Pattern → ℕ) → Citing
claims_citing k find premise_place = record {
  premise = λ p. cite (premise_label k (premise_place p)) [];
  fact = λ p new. claim_tree (own_labels k) (find [] p) new [] [];
  lemma = λ own q ms trees. claim_tree (own_labels k) (find own q) [] ms trees;
}

-- the claim at a place of a text, where each claim has the number of its place
abbrev pub claim_at : List Claim → ℕ → Claim
claim_at claims k =
    slice_index_or claims k (record { variables = []; hypotheses = []; conclusion = bot })

abbrev pub at_places : List Claim → (List Pattern → Pattern → ℕ) → List Pattern → Pattern → Stated
at_places claims place own q = record {
  number = place own q;
  claim = claim_at claims (place own q);
}

-- each leaf of what is substituted for the variable has its fact
abbrev pub HasInstance : LeafFacts → List ℕ → List Pattern → Variable → Type 0
HasInstance f new ms (object_variable i) = f.object (by_place new i)
HasInstance f new ms (pattern_variable i) = EachLeaf f (instance ms (meta i))

abbrev pub HaveInstances : LeafFacts → List ℕ → List Pattern → List Variable → Type 0
HaveInstances f new ms [] = Unit {0}
HaveInstances f new ms (v ∷ vs) = HasInstance f new ms v × HaveInstances f new ms vs

-- a claim with these hypotheses and this conclusion is at its place, and what is substituted for
-- its variables is known
pub record IsCitable (known : LeafFacts) (claims : List Claim) (place : List Pattern → Pattern → ℕ)
    (own : List Pattern) (q : Pattern) (new : List ℕ) (ms : List Pattern) : Type 0 where
  pub claim : Claim
  pub there : slice_get claims (place own q) ≡ Some claim
  pub hypotheses : claim.hypotheses ≡ own
  pub conclusion : claim.conclusion ≡ q
  pub instances : HaveInstances known new ms claim.variables

-- each hypothesis of the block is at its place
abbrev pub ArePremises : List Pattern → (Pattern → ℕ) → Type 0
ArePremises hypotheses place =
    (p : Pattern) → Contains hypotheses p → slice_get hypotheses (place p) ≡ Some p
