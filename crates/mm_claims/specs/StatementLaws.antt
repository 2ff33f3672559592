-- What follows for statements after a text that fits.
use Rattle.std.specs.Prelude.{◌≡◌, ℕ, ◌<◌, ◌^◌, true, false, List, [], ◌∷◌, ◌++◌, length}
use Rattle.mm_text.specs.Bytes.{Token}
use Rattle.mm_database.specs.Compressing.{all_compressed}
use Rattle.mm_database.specs.Validity.{IsValid}
use Rattle.mm_header.specs.HeaderText.{header_bytes}
use Rattle.ml_pat.specs.Patterns.{Pattern}
use Rattle.ml_pat.specs.Named.{AreDistinct}
use Rattle.ml_kernel.specs.Theorems.{Derivation}
use Rattle.mm_claims.specs.Statements.{all_name_statements}
use Rattle.mm_claims.specs.Fitting.{AreNames}
use Rattle.mm_claims.specs.Variables.{Variable}
use Rattle.mm_claims.specs.Blocks.{Claim, IsClaim, open_assertion, axiom_statements}
use Rattle.mm_claims.specs.Blocks.{theorem_statements}
use Rattle.mm_claims.specs.CitedAt.{at_places}
use Rattle.mm_claims.specs.Claiming.{FitsClaims, IsProofOfClaim, GainsExactly}
use Rattle.mm_claims.specs.Provable.{IsProvable}
use Rattle.mm_database.specs.StatementTexts.{written_statements}

-- such a text is valid
abbrev pub ClaimsAreValid : Type 0
ClaimsAreValid = (declared : List Token) (claims : List Claim) (bytes : List ℕ)
    → FitsClaims declared claims bytes → IsValid bytes

-- each of its `$p` has a compressed proof
abbrev pub ClaimsAreCompressed : Type 0
ClaimsAreCompressed = (declared : List Token) (claims : List Claim) (bytes : List ℕ)
    → FitsClaims declared claims bytes → all_compressed bytes ≡ true

-- the header fits if there are no names and no claims
abbrev pub HeaderFitsClaims : Type 0
HeaderFitsClaims = FitsClaims [] [] header_bytes

-- a text that fits, with the declarations of more names after it, fits with these names
abbrev pub NamesFitClaims : Type 0
NamesFitClaims =
    (declared more : List Token) (claims : List Claim) (bytes : List ℕ)
    → FitsClaims declared claims bytes →
    AreNames (declared ++ more) → AreDistinct (declared ++ more)
    → length (declared ++ more) < 2 ^ 64 →
    FitsClaims (declared ++ more) claims
    (bytes ++ written_statements (all_name_statements (length declared) more))

-- a text that fits, with an axiom after it, fits with one more claim
abbrev pub AxiomFits : Type 0
AxiomFits =
    (declared : List Token) (claims : List Claim) (bytes : List ℕ) (s : Claim)
    → FitsClaims declared claims bytes →
    length claims < 2 ^ 64 → IsClaim declared s →
    FitsClaims declared (claims ++ s ∷ [])
    (bytes ++ written_statements (axiom_statements declared (length claims) s))

-- the same is true of a theorem with its compressed proof
abbrev pub TheoremFits : Type 0
TheoremFits =
    (declared : List Token) (claims : List Claim) (bytes : List ℕ) (s : Claim)
    (more : List Variable) (d : Derivation) (place : List Pattern → Pattern → ℕ)
    (premise_place : Pattern → ℕ) (proof : List Token) →
    FitsClaims declared claims bytes → length claims < 2 ^ 64 → IsClaim declared s
    → IsProvable declared claims s more d place premise_place →
    IsProofOfClaim declared (length claims) (at_places claims place) premise_place s d proof →
    FitsClaims declared (claims ++ s ∷ [])
    (bytes ++ written_statements (theorem_statements declared (length claims) s more proof))

abbrev pub AxiomIsGained : Type 0
AxiomIsGained =
    (declared : List Token) (claims : List Claim) (bytes : List ℕ) (s : Claim)
    → FitsClaims declared claims bytes →
    length claims < 2 ^ 64 → IsClaim declared s →
    GainsExactly bytes (written_statements (axiom_statements declared (length claims) s))
    (length claims) s.variables (open_assertion false declared (length claims) s)

abbrev pub TheoremIsGained : Type 0
TheoremIsGained =
    (declared : List Token) (claims : List Claim) (bytes : List ℕ) (s : Claim)
    (more : List Variable) (d : Derivation) (place : List Pattern → Pattern → ℕ)
    (premise_place : Pattern → ℕ) (proof : List Token) →
    FitsClaims declared claims bytes → length claims < 2 ^ 64 → IsClaim declared s
    → IsProvable declared claims s more d place premise_place →
    IsProofOfClaim declared (length claims) (at_places claims place) premise_place s d proof →
    GainsExactly bytes
    (written_statements (theorem_statements declared (length claims) s more proof))
    (length claims) (s.variables ++ more) (open_assertion true declared (length claims) s)
