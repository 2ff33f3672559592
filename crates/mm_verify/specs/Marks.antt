-- Marks of labels, by their bytes.
use Rattle.std.specs.Prelude.{◌≡◌, ℕ, ◌+◌, ◌*◌, ◌%◌, Bool, false, List, [], ◌∷◌, nat_eq}
use Rattle.std.specs.Prelude.{slice_index_or}
use Rattle.mm_text.specs.Bytes.{Token, has_token}

abbrev pub mark_behind : ℕ → Token → ℕ
mark_behind sum [] = sum
mark_behind sum (byte ∷ bytes) = mark_behind ((sum * 1597 + byte) % 131072) bytes

abbrev pub mark_of : Token → ℕ
mark_of label = mark_behind 0 label

-- a mark is set if and only if it has the stamp
abbrev pub is_set : ℕ → List ℕ → ℕ → Bool
is_set stamp marks m = nat_eq (slice_index_or marks m 0) stamp

-- a token whose mark is not set is none of the labels
abbrev pub AreMarked : List Token → ℕ → List ℕ → Type 0
AreMarked labels stamp marks =
    (t : Token) → is_set stamp marks (mark_of t) ≡ false → has_token labels t ≡ false
