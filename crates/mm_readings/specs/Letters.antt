-- The letters of a statement of a proof file, read as one on patterns of matching logic: brackets,
-- connectives, the words that begin statements, and sorts, constants and variables by number.
use Rattle.std.specs.Prelude.{ℕ, ◌||◌, if◌then◌else◌, List, [], ◌∷◌, take, bytes_eq, codes}
use Rattle.mm_text.specs.Bytes.{Token}
use Rattle.ml_pat.specs.Patterns.{Nullary, Bot, Top, Unary, Not, Next, Ev, Binary, Imp, And, Or}
use Rattle.ml_pat.specs.Patterns.{Equal, Member, App, Sorted, Fun, AtSort, Quantifier, Ex, All}

-- the seven words of the header, and any other constant
pub data Word : Type 0 where
  says_pattern says_sort says_variable says_substituted says_fresh says_predicate says_holds : Word
  other_word : Token → Word

-- An object variable is a letter of its own, apart from each token of a database.
pub data Letter : Type 0 where
  opening closing : Letter
  nullary_letter : Nullary → Letter
  unary_letter : Unary → Letter
  binary_letter : Binary → Letter
  sorted_letter : Sorted → Letter
  quantifier_letter : Quantifier → Letter
  object_letter : ℕ → Letter
  meta_letter : ℕ → Letter
  constant_letter : ℕ → Letter
  sort_letter : ℕ → Letter
  word_letter : Word → Letter

-- the letters of the header's constants
abbrev pub header_letters : List (Token × Letter)
header_letters =
    (codes "(", opening) ∷
    (codes ")", closing) ∷
    (codes "\\bot", nullary_letter Bot) ∷
    (codes "\\top", nullary_letter Top) ∷
    (codes "\\imp", binary_letter Imp) ∷
    (codes "\\not", unary_letter Not) ∷
    (codes "\\and", binary_letter And) ∷
    (codes "\\or", binary_letter Or) ∷
    (codes "\\eq", binary_letter Equal) ∷
    (codes "\\mem", binary_letter Member) ∷
    (codes "\\fun", sorted_letter Fun) ∷
    (codes "\\ex", quantifier_letter Ex) ∷
    (codes "\\all", quantifier_letter All) ∷
    (codes "\\app", binary_letter App) ∷
    (codes "\\at", sorted_letter AtSort) ∷
    (codes "\\next", unary_letter Next) ∷
    (codes "\\ev", unary_letter Ev) ∷
    (codes "#Pattern", word_letter says_pattern) ∷
    (codes "#Sort", word_letter says_sort) ∷
    (codes "#Var", word_letter says_variable) ∷
    (codes "#Sub", word_letter says_substituted) ∷
    (codes "#Fresh", word_letter says_fresh) ∷
    (codes "#Pred", word_letter says_predicate) ∷
    (codes "|-", word_letter says_holds) ∷
    []

-- Another token that begins with `s:` is that of a sort, and one that begins with `f:` or `d:` is
-- that of a symbol or of a domain value. These have numbers.
abbrev pub other_letter : (Token → ℕ) → Token → Letter
other_letter number token =
    if bytes_eq (take 2 token) (codes "s:") then sort_letter (number token)
    else (if bytes_eq (take 2 token) (codes "f:") || bytes_eq (take 2 token) (codes "d:")
    then constant_letter (number token)
    else word_letter (other_word token))

abbrev pub letter_among : List (Token × Letter) → (Token → ℕ) → Token → Letter
letter_among [] number token = other_letter number token
letter_among ((other, letter) ∷ letters) number token =
    if bytes_eq other token then letter else letter_among letters number token

-- the letter of a constant of a database
abbrev pub letter_of : (Token → ℕ) → Token → Letter
letter_of number token = letter_among header_letters number token
