-- Claims are cited soundly. So a derivation that cites them is written as a proof of what it
-- concludes, in every database that has the claims, the hypotheses of the block and its variables.
use Rattle.std.specs.Prelude.{◌≡◌, ℕ, List, [], ◌++◌, map, slice_get, Some}
use Rattle.mm_text.specs.Bytes.{Token}
use Rattle.mm_database.specs.Frames.{essential}
use Rattle.mm_database.specs.Database.{Context}
use Rattle.mm_database.specs.Proofs.{ProofTree, Proves, AllProve, active_hypothesis}
use Rattle.ml_pat.specs.Patterns.{Pattern}
use Rattle.ml_kernel.specs.Lemmas.{instance, instances, HaveNoVariables}
use Rattle.ml_kernel.specs.Theorems.{Derivation}
use Rattle.ml_kernel.specs.Concluding.{Concludes}
use Rattle.mm_proof.specs.Tokens.{Naming, own_naming}
use Rattle.mm_proof.specs.Judgements.{holds}
use Rattle.mm_proof.specs.Labels.{statement_label, premise_label, own_labels}
use Rattle.ml_pat.specs.KnownLeaves.{Known, are_known}
use Rattle.mm_proof.specs.Trees.{cite}
use Rattle.proof_nodes.specs.Tables.{forest_of}
use Rattle.mm_proof.specs.Derivations.{holds_text, derivation_tree}
use Rattle.mm_proof.specs.SoundCiting.{CitesSoundly}
use Rattle.ml_kernel.specs.UsedLeaves.{EachUsed}
use Rattle.mm_proof.specs.Serving.{IsAssertion, Serves}
use Rattle.mm_proof.specs.RenderLaws.{IsWritten}
use Rattle.ml_kernel.specs.MayCite.{EachCited}
use Rattle.mm_claims.specs.Fitting.{AreNames}
use Rattle.mm_claims.specs.Blocks.{Claim, IsClaim, open_frame}
use Rattle.mm_claims.specs.CitedAt.{variable_tree, at_places, claims_citing, HaveInstances}
use Rattle.mm_claims.specs.CitedAt.{ArePremises}
use Rattle.mm_claims.specs.Citable.{citable}

-- At the place of a proof in the block with a number, the claims can be cited, each under the label
-- of its place. The hypotheses of the block are active, each under the label of its own place.
pub record ServesClaims (c : Context) (declared : List Token) (claims : List Claim) (k : ℕ)
    (hypotheses : List Pattern) : Type 0 where
  pub claimed : (i : ℕ) (s : Claim) → slice_get claims i ≡ Some s → IsClaim declared s
  pub frames : (i : ℕ) (s : Claim) → slice_get claims i ≡ Some s
      → IsAssertion c (statement_label i) (open_frame declared i s)
  pub premises : (j : ℕ) (p : Pattern) → slice_get hypotheses j ≡ Some p
      → active_hypothesis c (premise_label k j)
      ≡ Some (essential (premise_label k j) (holds_text (own_naming declared) p))

-- The label of a claim, over the proofs of what is substituted for its variables and of its
-- hypotheses at these patterns, is a proof of its conclusion at these patterns.
abbrev pub ClaimsAreCited : Type 0
ClaimsAreCited =
    (c : Context) (l : Naming) (declared : List Token) (known : Known) (i : ℕ) (s : Claim)
    (ms : List Pattern) (trees : List ProofTree) →
    AreNames declared → Serves c l (own_naming declared) (are_known known) → IsClaim declared s
    → IsAssertion c (statement_label i) (open_frame declared i s) →
    HaveNoVariables ms → HaveInstances (are_known known) [] ms s.variables →
    AllProve c (forest_of trees) (map (holds_text (own_naming declared)) (instances ms s.hypotheses))
    →
    Proves c (cite (statement_label i) (map (variable_tree l [] ms) s.variables ++ trees))
    (holds_text (own_naming declared) (instance ms s.conclusion))

-- so hypotheses, axioms and lemmas are cited soundly in the block with a number
abbrev pub CitingIsSound : Type 0
CitingIsSound =
    (c : Context) (declared : List Token) (known : Known) (claims : List Claim) (k : ℕ)
    (hypotheses : List Pattern) (place : List Pattern → Pattern → ℕ)
    (premise_place : Pattern → ℕ) →
    AreNames declared → Serves c (own_labels k) (own_naming declared) (are_known known)
    → ServesClaims c declared claims k hypotheses → ArePremises hypotheses premise_place →
    CitesSoundly c (own_naming declared) hypotheses (citable (are_known known) claims place)
    (claims_citing k (at_places claims place) premise_place)

-- and a derivation that cites them is written as a proof of what it concludes
abbrev pub CitingDerivationsAreProved : Type 0
CitingDerivationsAreProved =
    (c : Context) (declared : List Token) (known : Known) (claims : List Claim) (k : ℕ)
    (hypotheses : List Pattern) (place : List Pattern → Pattern → ℕ)
    (premise_place : Pattern → ℕ) (d : Derivation) (q : Pattern) →
    AreNames declared → Serves c (own_labels k) (own_naming declared) (are_known known)
    → ServesClaims c declared claims k hypotheses → ArePremises hypotheses premise_place →
    Concludes hypotheses d q → EachUsed (are_known known) d
    → EachCited (citable (are_known known) claims place) d →
    IsWritten c (own_naming declared)
    (derivation_tree (own_labels k) (claims_citing k (at_places claims place) premise_place) d)
    (holds q)
