-- What the words of a theorem say: that one pattern without variables reaches another.
use Rattle.std.specs.Prelude.{◌≡◌, Bool, false, List, ◌∷◌, codes, All}
use Rattle.std.specs.List.{list_all, list_any}
use Rattle.mm_text.specs.Bytes.{Token}
use Rattle.ml_pat.specs.Patterns.{Pattern, imp, ev}
use Rattle.ml_pat.specs.Named.{AreDistinct}
use Rattle.ml_pat.specs.Leaves.{EachLeaf}
use Rattle.mm_justify.specs.Counting.{is_object}
use Rattle.mm_justify.specs.Stating.{IsName, is_name_byte, holds_text, closed_over}

-- a symbol of a database: its bytes are printable, and none is `$`
abbrev pub is_symbol : Token → Bool
is_symbol token = list_all is_name_byte token

abbrev pub are_symbols : List Token → Bool
are_symbols words = list_all is_symbol words

-- the words say that the one pattern reaches the other, with these names
pub record SaysReached (words names : List Token) (a b : Pattern) : Type 0 where
  pub are_names : All IsName names
  pub distinct : AreDistinct names
  pub closed : EachLeaf (closed_over names) (imp a (ev b))
  pub says : words ≡ holds_text names (imp a (ev b))

-- they say no such thing, whatever the names
abbrev pub SaysNothing : List Token → Type 0
SaysNothing words = (names : List Token) (a b : Pattern) → SaysReached words names a b → ⊥

-- the text stands behind a `|-` and has no object variable
pub record IsClosedText (words text : List Token) : Type 0 where
  pub is : words ≡ codes "|-" ∷ text
  pub closed : list_any is_object text ≡ false
