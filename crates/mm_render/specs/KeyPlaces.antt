-- What is found by the bytes of a statement.
use Rattle.std.specs.Prelude.{◌≡◌, ℕ, List, [], ◌∷◌, Option, Some, None, unwrap_or, slice_get}
use Rattle.std.specs.Prelude.{slice_index_or}
use Rattle.ml_pat.specs.Patterns.{Pattern, bot}
use Rattle.mm_claims.specs.Blocks.{Stated}
use Rattle.mm_claims.specs.Places.{IsFoundAs, IsStated}
use Rattle.mm_render.specs.Keys.{pattern_key, statement_key}

abbrev pub no_claim : Stated
no_claim = record {
  number = 0;
  claim = record { variables = []; hypotheses = []; conclusion = bot };
}

abbrev pub stated_at : List Stated → ℕ → Stated
stated_at stated k = slice_index_or stated k no_claim

-- the first claim, or `no_claim` if there is none
abbrev pub stated_or_none : List Stated → Stated
stated_or_none [] = no_claim
stated_or_none (s ∷ ss) = s

-- the claim at a place, or the last of a run if there is no place
abbrev pub placed_or_last : List Stated → List Stated → Option ℕ → Stated
placed_or_last stated last (Some k) = stated_at stated k
placed_or_last stated last None = stated_or_none last

-- the claim that is found by the bytes of a statement, and the place of a hypothesis
abbrev pub find_by : List Stated → List Stated → (List ℕ → Option ℕ) → List Pattern → Pattern
    → Stated
find_by stated last found hypotheses conclusion = placed_or_last stated last
    (found (statement_key hypotheses conclusion))

abbrev pub premise_place_by : (List ℕ → Option ℕ) → Pattern → ℕ
premise_place_by found p = unwrap_or (found (pattern_key p)) 0

-- at the place that is found is the claim; if none is found, the claim was not stated
abbrev pub IsPlaced : List Stated → List Pattern → Pattern → Option ℕ → Type 0
IsPlaced stated own q (Some k) =
    (s : Stated) × (slice_get stated k ≡ Some s) × IsFoundAs stated own q s
IsPlaced stated own q None = IsStated stated own q → ⊥

abbrev pub ArePlaced : List Stated → (List ℕ → Option ℕ) → Type 0
ArePlaced stated found =
    (own : List Pattern) (q : Pattern) → IsPlaced stated own q (found (statement_key own q))
