-- Whether what an assertion says is a row of the header: by its statement, its `$e`s, the types of
-- its variables and the pairs that stay apart.
use Rattle.std.specs.Prelude.{◌≡◌, ℕ, Bool, true, false, ◌&&◌, ◌==◌, List, [], ◌∷◌, ◌++◌, map}
use Rattle.std.specs.Prelude.{codes, bytes_eq, if◌then◌else◌, Option, Some, None, Contains}
use Rattle.std.specs.List.{list_any, list_all, flat_map}
use Rattle.mm_text.specs.Bytes.{Token, has_token}
use Rattle.mm_header.specs.Header.{Row, header_rows}
use Rattle.mm_header.specs.HeaderRows.{expression_of, types_texts}
use Rattle.mm_check.specs.Stated.{PlainTyped, PlainStated}

-- ---- texts

abbrev pub begins_with_mark : List ℕ → Bool
begins_with_mark [] = false
begins_with_mark (b ∷ bytes) = b == 35

-- the words, each after a space
abbrev pub spaced : List Token → List ℕ
spaced ws = flat_map (λ (w : Token). 32 ∷ w) ws

-- the words with a space between each two
abbrev pub joined : List Token → List ℕ
joined [] = []
joined (w ∷ ws) = w ++ spaced ws

-- what is written in the header for an expression: without `|-`
abbrev pub key_of : List Token → List ℕ
key_of [] = []
key_of (w ∷ ws) = if bytes_eq w (codes "|-") then joined ws else joined (w ∷ ws)

-- ---- types

-- the type and the number of a variable
abbrev pub type_among : List PlainTyped → Token → Option Token
type_among [] v = None
type_among (t ∷ ts) v = if bytes_eq t.variable v then Some t.typecode else type_among ts v

abbrev pub number_among : List PlainTyped → Token → Option ℕ
number_among [] v = None
number_among (t ∷ ts) v = if bytes_eq t.variable v then Some t.number else number_among ts v

-- the token occurs in the statement or in a `$e`
abbrev pub occurs : PlainStated → Token → Bool
occurs s v = list_any (λ ws. has_token ws v) (s.words ∷ s.premises)

-- the type that the header gives to a variable that occurs
abbrev pub type_wanted : List (List ℕ × List ℕ × List ℕ) → PlainStated → Token → Option Token
type_wanted [] s v = None
type_wanted (x ∷ xs) s v =
    if (bytes_eq x.2 v && occurs s v) then Some x.1 else type_wanted xs s v

abbrev pub header_type : PlainStated → Token → Option Token
header_type s v = type_wanted types_texts s v

-- both are the same type, or there is none
abbrev pub same_type : Option Token → Option Token → Bool
same_type None None = true
same_type None (Some y) = false
same_type (Some x) None = false
same_type (Some x) (Some y) = bytes_eq x y

-- the token is one of these variables
abbrev pub is_named : List (List ℕ × List ℕ × List ℕ) → Token → Bool
is_named xs v = list_any (λ (x : List ℕ × List ℕ × List ℕ). bytes_eq x.2 v) xs

-- all variables are those of the header, and each has the type that the header gives it if it
-- occurs, and else none
abbrev pub agrees : PlainStated → List ℕ × List ℕ × List ℕ → Bool
agrees s x = same_type (type_among s.types x.2) (header_type s x.2)

abbrev pub are_header_types : PlainStated → Bool
are_header_types s =
    list_all (λ (t : PlainTyped). is_named types_texts t.variable) s.types
    && list_all (agrees s) types_texts

-- ---- pairs

abbrev pub both_apart : (ℕ → ℕ → Bool) → Option ℕ → Option ℕ → Bool
both_apart apart None b = false
both_apart apart (Some a) None = false
both_apart apart (Some a) (Some b) = apart a b

-- the two variables of a pair are kept apart
abbrev pub is_kept : (ℕ → ℕ → Bool) → List PlainTyped → List ℕ × List ℕ → Bool
is_kept apart types (x, y) = both_apart apart (number_among types x) (number_among types y)

-- ---- rows

-- the assertion says what the row says
pub record IsOfRow (pairs : ℕ → ℕ → Bool) (r : Row) (s : PlainStated) : Type 0 where
  pub statement : s.words ≡ expression_of r.statement
  pub premises : s.premises ≡ map expression_of r.hypotheses
  pub types : (v : Token) → type_among s.types v ≡ header_type s v
  pub apart : list_all (is_kept pairs s.types) r.apart ≡ true

abbrev pub SaysRow : (ℕ → ℕ → Bool) → PlainStated → Type 0
SaysRow pairs s = (r : Row) × Contains header_rows r × IsOfRow pairs r s
