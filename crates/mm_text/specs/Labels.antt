-- The spelling of labels (Metamath book, "The Complete Language Specification").
use Rattle.std.specs.Prelude.{ℕ, Bool, false, ◌&&◌, ◌||◌, ◌==◌, nat_le, [], ◌∷◌}
use Rattle.std.specs.List.{list_all}
use Rattle.mm_text.specs.Bytes.{Token}

-- a letter, a digit, `-`, `_` or `.`
abbrev pub is_label_byte : ℕ → Bool
is_label_byte b = (nat_le 97 b && nat_le b 122)
    || ((nat_le 65 b && nat_le b 90)
    || ((nat_le 48 b && nat_le b 57) || ((b == 45) || ((b == 95) || (b == 46)))))

-- a token that may be a label
abbrev pub is_label : Token → Bool
is_label [] = false
is_label (b ∷ bytes) = list_all is_label_byte (b ∷ bytes)
