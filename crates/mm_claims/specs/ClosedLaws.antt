-- What is true of patterns that are closed over names.
use Rattle.std.specs.Prelude.{◌≡◌, List, []}
use Rattle.mm_text.specs.Bytes.{Token}
use Rattle.ml_pat.specs.Patterns.{Pattern}
use Rattle.ml_kernel.specs.Lemmas.{HasNoMeta}
use Rattle.ml_pat.specs.Leaves.{EachLeaf}
use Rattle.mm_claims.specs.OverNames.{closed_over, over_names}
use Rattle.mm_claims.specs.ClaimVariables.{claim_variables}

-- what is closed has no pattern variables
abbrev pub ClosedHasNoMeta : Type 0
ClosedHasNoMeta = (names : List Token) (p : Pattern) → EachLeaf (closed_over names) p → HasNoMeta p

-- what is closed is over the names, and as a claim without hypotheses it has no variables
abbrev pub ClosedIsOver : Type 0
ClosedIsOver = (names : List Token) (p : Pattern) → EachLeaf (closed_over names) p
    → EachLeaf (over_names names) p

abbrev pub ClosedClaims : Type 0
ClosedClaims =
    (names : List Token) (p : Pattern) → EachLeaf (closed_over names) p → claim_variables [] p ≡ []
