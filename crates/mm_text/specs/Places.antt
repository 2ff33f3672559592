-- The pieces of a text from a place on, as a reader finds them.
use Rattle.std.specs.Prelude.{◌≡◌, ℕ, ◌+◌, ◌-◌, ◌<◌, ◌≤◌, Bool, true, false, List, [], ◌∷◌, length}
use Rattle.std.specs.Prelude.{take, drop, slice_index}
use Rattle.mm_text.specs.Bytes.{foreign, class_of, is_printable_class, is_white}
use Rattle.mm_text.specs.Tokens.{Piece, run, stray, pieces_from}

abbrev pub pieces_at : List ℕ → ℕ → List Piece
pieces_at bytes at = pieces_from at (drop at bytes)

-- the bytes from one place to another
abbrev pub bytes_between : List ℕ → ℕ → ℕ → List ℕ
bytes_between bytes i j = take (j - i) (drop i bytes)

-- the byte at a place may be in a token
abbrev pub prints : List ℕ → ℕ → Bool
prints bytes k = is_printable_class (class_of (slice_index bytes k))

abbrev pub EndAt : Type 0
EndAt = (bytes : List ℕ) (at : ℕ) → length bytes ≤ at → pieces_at bytes at ≡ []

abbrev pub WhiteAt : Type 0
WhiteAt =
    (bytes : List ℕ) (at : ℕ) → at < length bytes → is_white (slice_index bytes at) ≡ true →
    pieces_at bytes at ≡ pieces_at bytes (at + 1)

abbrev pub StrayAt : Type 0
StrayAt =
    (bytes : List ℕ) (at : ℕ) → at < length bytes → class_of (slice_index bytes at) ≡ foreign →
    pieces_at bytes at ≡ stray at ∷ pieces_at bytes (at + 1)

-- printable bytes from i up to j are one piece, if the byte at j is not printable
abbrev pub RunAt : Type 0
RunAt =
    (bytes : List ℕ) (i j : ℕ) → i < j → j ≤ length bytes →
    ((k : ℕ) → i ≤ k → k < j → prints bytes k ≡ true) →
    (j < length bytes → prints bytes j ≡ false) →
    pieces_at bytes i ≡ run i (bytes_between bytes i j) ∷ pieces_at bytes j
