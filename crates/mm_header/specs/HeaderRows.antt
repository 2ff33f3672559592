-- The frames of the header's rows.
use Rattle.std.specs.Prelude.{ℕ, List, [], ◌∷◌, ◌++◌, codes, ◌≡◌, Bool, false, ◌&&◌, ◌||◌, ◌==◌}
use Rattle.std.specs.Prelude.{if◌then◌else◌, map, filter, bytes_eq}
use Rattle.std.specs.List.{zip, list_any}
use Rattle.mm_header.specs.Header.{Row}
use Rattle.mm_text.specs.Bytes.{Token, has_token}
use Rattle.mm_database.specs.Frames.{Hypothesis, floating, essential, Frame}

-- a label, a typecode and a variable
abbrev pub types_texts : List (List ℕ × List ℕ × List ℕ)
types_texts =
    (codes "fp", codes "#Pattern", codes "p") ∷
    (codes "fq", codes "#Pattern", codes "q") ∷
    (codes "fr", codes "#Pattern", codes "r") ∷
    (codes "ft", codes "#Pattern", codes "t") ∷
    (codes "fu", codes "#Pattern", codes "u") ∷
    (codes "fx", codes "#Var", codes "x") ∷
    (codes "fy", codes "#Var", codes "y") ∷
    (codes "fs", codes "#Sort", codes "s") ∷
    (codes "fv", codes "#Sort", codes "v") ∷
    []

-- what comes before a statement: nothing if it begins with `#`, and otherwise `|-` and a space
abbrev pub turnstile_text : List ℕ → List ℕ
turnstile_text [] = codes "|- "
turnstile_text (b ∷ bytes) = if b == 35 then [] else codes "|- "

abbrev pub expression_text : List ℕ → List ℕ
expression_text text = turnstile_text text ++ text

-- the ends of the labels of the first and the second hypothesis
abbrev pub endings : List (List ℕ)
endings = codes ".1" ∷ codes ".2" ∷ []

-- the hypotheses with the ends of their labels
abbrev pub labelled : Row → List (List ℕ × List ℕ)
labelled r = zip endings r.hypotheses

-- a byte before the first word
abbrev pub in_first : ℕ → List Token → List Token
in_first b [] = (b ∷ []) ∷ []
in_first b (word ∷ words) = (b ∷ word) ∷ words

-- the words of a text; single spaces separate them
abbrev pub words_of : List ℕ → List Token
words_of [] = [] ∷ []
words_of (b ∷ bytes) = if b == 32 then [] ∷ words_of bytes else in_first b (words_of bytes)

-- the tokens of a hypothesis or statement
abbrev pub expression_of : List ℕ → List Token
expression_of text = words_of (expression_text text)

abbrev pub type_of : List ℕ × List ℕ × List ℕ → Hypothesis
type_of (label, typecode, variable) = floating label typecode variable

-- the `$f`s of the header
abbrev pub header_types : List Hypothesis
header_types = map type_of types_texts

-- the `$e`s of a row
abbrev pub premise_of : Row → List ℕ × List ℕ → Hypothesis
premise_of r (ending, text) = essential (r.label ++ ending) (expression_of text)

abbrev pub premises : Row → List Hypothesis
premises r = map (premise_of r) (labelled r)

-- the variable of a `$f` occurs in the statement of the row or in one of its hypotheses
abbrev pub is_in_row : Row → Hypothesis → Bool
is_in_row r (floating label typecode variable) =
    list_any (λ text. has_token (expression_of text) variable) (r.statement ∷ r.hypotheses)
is_in_row r (essential label statement) = false

-- the two variables of a pair, in either order
abbrev pub is_pair : Token → Token → List ℕ × List ℕ → Bool
is_pair a b (x, y) = (bytes_eq x a && bytes_eq y b) || (bytes_eq y a && bytes_eq x b)

-- the frame is one of the row: the `$f`s of its variables in the order of the header, then its own
-- hypotheses; exactly its pairs of variables; and its statement
pub record IsFrameOfRow (r : Row) (f : Frame) : Type 0 where
  pub label : f.label ≡ r.label
  pub hypotheses : f.hypotheses ≡ filter (is_in_row r) header_types ++ premises r
  pub apart : (a b : Token) → f.apart a b ≡ list_any (is_pair a b) r.apart
  pub statement : f.statement ≡ expression_of r.statement
