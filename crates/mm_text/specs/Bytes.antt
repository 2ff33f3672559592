-- The bytes of a Metamath text (Metamath book, "The Complete Language Specification"). Tokens
-- consist of printable ASCII without the space. White space separates them. No other byte is
-- allowed.
use Rattle.std.specs.Prelude.{ℕ, Bool, true, false, ◌&&◌, ◌||◌, ◌==◌, nat_le, if◌then◌else◌, List}
use Rattle.std.specs.Prelude.{[], ◌∷◌, bytes_eq}
use Rattle.std.specs.List.{list_any}

-- a token of a text: its bytes
abbrev pub Token : Type 0
Token = List ℕ

-- space, tab, line feed, form feed or carriage return
abbrev pub is_white : ℕ → Bool
is_white b = (b == 32) || ((b == 9) || ((b == 10) || ((b == 12) || (b == 13))))

abbrev pub is_printable : ℕ → Bool
is_printable b = nat_le 33 b && nat_le b 126

pub data Class : Type 0 where
  printable : Class
  white : Class
  foreign : Class

abbrev pub class_of : ℕ → Class
class_of b =
    if is_white b then white else
    if is_printable b then printable else foreign

abbrev pub is_printable_class : Class → Bool
is_printable_class printable = true
is_printable_class white = false
is_printable_class foreign = false

-- one of the tokens is this one
abbrev pub has_token : List Token → Token → Bool
has_token tokens token = list_any (λ t. bytes_eq t token) tokens

-- a token occurs twice
abbrev pub has_repeated : List Token → Bool
has_repeated [] = false
has_repeated (token ∷ tokens) = has_token tokens token || has_repeated tokens
