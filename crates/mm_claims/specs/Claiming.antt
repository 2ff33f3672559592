-- Statements after a text that fits: what it has declared, and what may follow.
use Rattle.std.specs.Prelude.{◌≡◌, ℕ, ◌<◌, ◌≤◌, ◌^◌, true, false, List, [], ◌∷◌, ◌++◌, map, length}
use Rattle.std.specs.Prelude.{slice_get, Some, None}
use Rattle.mm_text.specs.Bytes.{Token}
use Rattle.mm_text.specs.Labels.{is_label}
use Rattle.mm_database.specs.Frames.{Frame}
use Rattle.mm_database.specs.Database.{Context}
use Rattle.mm_database.specs.Proofs.{active_hypothesis}
use Rattle.mm_database.specs.ProofText.{mandatory_labels}
use Rattle.mm_database.specs.Compressing.{all_compressed}
use Rattle.mm_database.specs.ProofTexts.{Compresses}
use Rattle.mm_database.specs.Assertions.{Assertion, assertions_of, typings_of}
use Rattle.ml_pat.specs.Patterns.{Pattern}
use Rattle.ml_kernel.specs.Theorems.{Derivation}
use Rattle.mm_proof.specs.Labels.{statement_label, premise_label, own_labels}
use Rattle.mm_proof.specs.Derivations.{derivation_tree}
use Rattle.mm_claims.specs.Fitting.{AreNames, Holds}
use Rattle.mm_claims.specs.Variables.{Variable, number_of, variable_token, variable_label}
use Rattle.mm_claims.specs.Blocks.{Claim, Stated, IsClaim, variable_float, open_frame}
use Rattle.mm_claims.specs.CitedAt.{claims_citing}
use Rattle.mm_database.specs.Leaving.{DeclaresInText}

-- no label of a block with this number is taken
pub record IsFree (c : Context) (k : ℕ) : Type 0 where
  pub statement : c.labels (statement_label k) ≡ false
  pub variable : (v : Variable) → number_of v < 2 ^ 64 → c.labels (variable_label k v) ≡ false
  pub premise : (j : ℕ) → j < 2 ^ 64 → c.labels (premise_label k j) ≡ false

abbrev pub AreClaims : List Token → List Claim → Type 0
AreClaims declared [] = Unit {0}
AreClaims declared (s ∷ ss) = IsClaim declared s × AreClaims declared ss

-- The header, these names and these claims are declared, each claim under the label of its place.
-- The labels of later blocks are free. No token of a variable is a label. The label of each
-- assertion is well spelled and taken, and it is not the label of an active hypothesis.
pub record HoldsClaims (declared : List Token) (claims : List Claim) (c : Context) : Type 0 where
  pub base : Holds declared c
  pub names : AreNames declared
  pub claimed : AreClaims declared claims
  pub frames : (k : ℕ) (s : Claim) → slice_get claims k ≡ Some s
      → c.frames (statement_label k) ≡ Some (open_frame declared k s)
  pub free : (k : ℕ) → length claims ≤ k → k < 2 ^ 64 → IsFree c k
  pub no_label : (v : Variable) → c.labels (variable_token v) ≡ false
  pub spelt : (label : Token) (f : Frame) → c.frames label ≡ Some f → is_label label ≡ true
  pub labelled : (label : Token) (f : Frame) → c.frames label ≡ Some f → c.labels label ≡ true
  pub no_hypothesis : (label : Token) (f : Frame) → c.frames label ≡ Some f
      → active_hypothesis c label ≡ None

-- a text that fits these names and claims, and in which each `$p` has a compressed proof
abbrev pub FitsClaims : List Token → List Claim → List ℕ → Type 0
FitsClaims declared claims bytes =
    (c : Context) × DeclaresInText bytes c × HoldsClaims declared claims c
    × (all_compressed bytes ≡ true)

-- The tokens are a compressed proof of the claim with a number by a derivation, whose citations are
-- found by `find` and `premise_place`. The mandatory labels are those of the variables of the claim,
-- and then those of its hypotheses; other variables of the proof are not among them.
abbrev pub IsProofOfClaim : List Token → ℕ → (List Pattern → Pattern → Stated) → (Pattern → ℕ)
    → Claim → Derivation → List Token → Type 0
IsProofOfClaim declared k find premise_place s d proof =
    Compresses (mandatory_labels (open_frame declared k s))
    (derivation_tree (own_labels k) (claims_citing k find premise_place) d) proof

-- What a text has gained with a statement after it: exactly this assertion, and the typings of
-- these variables in its block.
pub record GainsExactly (bytes appended : List ℕ) (k : ℕ) (vs : List Variable) (a : Assertion) :
    Type 0 where
  pub assertions : assertions_of (bytes ++ appended) ≡ assertions_of bytes ++ a ∷ []
  pub typings : typings_of (bytes ++ appended) ≡ typings_of bytes ++ map (variable_float k) vs
