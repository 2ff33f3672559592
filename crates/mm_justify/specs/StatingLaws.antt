-- What statements say, and what a text states that is written statement by statement.
use Rattle.std.specs.Prelude.{ℕ, List, []}
use Rattle.mm_text.specs.Bytes.{Token}
use Rattle.ml_pat.specs.Patterns.{Pattern}
use Rattle.ml_kernel.specs.Lemmas.{HasNoMeta}
use Rattle.mm_claims.specs.Statements.{IsName as IsWrittenName}
use Rattle.mm_claims.specs.Blocks.{open_frame}
use Rattle.mm_claims.specs.ClaimVariables.{claim_of}
use Rattle.mm_justify.specs.Stating.{IsName, holds_frame}
use Rattle.mm_justify.specs.Justifying.{SaysNoMore}

-- the tokens that are written for names are names, and no other tokens are
abbrev pub NamesAreNames : Type 0
NamesAreNames =
    (token : Token) → (IsWrittenName token → IsName token) × (IsName token → IsWrittenName token)

-- What is written to claim that a pattern without pattern variables holds says that it holds, no
-- more and no less.
abbrev pub ClaimsAreHolds : Type 0
ClaimsAreHolds =
    (names : List Token) (k : ℕ) (p : Pattern) → HasNoMeta p →
    SaysNoMore (open_frame names k (claim_of [] p)) (holds_frame names p)
    × SaysNoMore (holds_frame names p) (open_frame names k (claim_of [] p))
