-- The tokens of the header's rows, as the letters of their schemes. Here alone tokens are compared.
use Rattle.std.proofs.Common.{◌≡◌, ℕ, Bool, true, false, List, [], ◌∷◌, ◌++◌, map, refl}
use Rattle.std.specs.Prelude.{not, ◌&&◌, filter, slice_index_or, codes, bytes_eq}
use Rattle.std.specs.List.{list_any, list_all}
use Rattle.mm_text.specs.Bytes.{Token}
use Rattle.mm_database.specs.Frames.{Hypothesis, floating, essential, statement_of, types}
use Rattle.mm_header.specs.Header.{Row, header_rows}
use Rattle.mm_header.specs.HeaderRows.{header_types, premises, expression_of, is_in_row}
use Rattle.ml_pat.specs.Patterns.{Bot, Top, Not, Next, Ev, Imp, And, Or, Equal, Member, App, Fun}
use Rattle.ml_pat.specs.Patterns.{AtSort, Ex, All}
use Rattle.mm_readings.specs.Letters.{Letter, opening, closing, nullary_letter, unary_letter}
use Rattle.mm_readings.specs.Letters.{binary_letter, sorted_letter, quantifier_letter}
use Rattle.mm_readings.specs.Letters.{object_letter, meta_letter, constant_letter, sort_letter}
use Rattle.mm_readings.specs.Letters.{word_letter, says_pattern, says_sort, says_variable}
use Rattle.mm_readings.specs.Letters.{says_substituted, says_fresh, says_predicate, says_holds}
use Rattle.mm_readings.specs.Letters.{other_word, letter_of}
use Rattle.mm_readings.specs.Pieces.{Piece, spell_all}
use Rattle.mm_readings.proofs.Schemes.{Scheme}
use Rattle.mm_readings.proofs.HeaderSchemes.{header_schemes}

-- the token of a letter in the header
abbrev pub token_of : Letter → Token
token_of opening = codes "("
token_of closing = codes ")"
token_of (nullary_letter Bot) = codes "\\bot"
token_of (nullary_letter Top) = codes "\\top"
token_of (unary_letter Not) = codes "\\not"
token_of (unary_letter Next) = codes "\\next"
token_of (unary_letter Ev) = codes "\\ev"
token_of (binary_letter Imp) = codes "\\imp"
token_of (binary_letter And) = codes "\\and"
token_of (binary_letter Or) = codes "\\or"
token_of (binary_letter Equal) = codes "\\eq"
token_of (binary_letter Member) = codes "\\mem"
token_of (binary_letter App) = codes "\\app"
token_of (sorted_letter Fun) = codes "\\fun"
token_of (sorted_letter AtSort) = codes "\\at"
token_of (quantifier_letter Ex) = codes "\\ex"
token_of (quantifier_letter All) = codes "\\all"
token_of (meta_letter i) =
    slice_index_or (codes "p" ∷ (codes "q" ∷ (codes "r" ∷ (codes "t" ∷ (codes "u" ∷ []))))) i []
token_of (object_letter i) = slice_index_or (codes "x" ∷ (codes "y" ∷ [])) i []
token_of (sort_letter i) = slice_index_or (codes "s" ∷ (codes "v" ∷ [])) i []
token_of (constant_letter i) = []
token_of (word_letter says_pattern) = codes "#Pattern"
token_of (word_letter says_sort) = codes "#Sort"
token_of (word_letter says_variable) = codes "#Var"
token_of (word_letter says_substituted) = codes "#Sub"
token_of (word_letter says_fresh) = codes "#Fresh"
token_of (word_letter says_predicate) = codes "#Pred"
token_of (word_letter says_holds) = codes "|-"
token_of (word_letter (other_word t)) = t

-- the letter is that of a constant of the header
abbrev pub is_fixed : Letter → Bool
is_fixed (meta_letter i) = false
is_fixed (object_letter i) = false
is_fixed (sort_letter i) = false
is_fixed (constant_letter i) = false
is_fixed (word_letter (other_word t)) = false
is_fixed l = true

pub fixed_letter : (number : Token → ℕ) (l : Letter) → is_fixed l ≡ true
    → letter_of number (token_of l) ≡ l
fixed_letter number opening h = refl
fixed_letter number closing h = refl
fixed_letter number (nullary_letter Bot) h = refl
fixed_letter number (nullary_letter Top) h = refl
fixed_letter number (unary_letter Not) h = refl
fixed_letter number (unary_letter Next) h = refl
fixed_letter number (unary_letter Ev) h = refl
fixed_letter number (binary_letter Imp) h = refl
fixed_letter number (binary_letter And) h = refl
fixed_letter number (binary_letter Or) h = refl
fixed_letter number (binary_letter Equal) h = refl
fixed_letter number (binary_letter Member) h = refl
fixed_letter number (binary_letter App) h = refl
fixed_letter number (sorted_letter Fun) h = refl
fixed_letter number (sorted_letter AtSort) h = refl
fixed_letter number (quantifier_letter Ex) h = refl
fixed_letter number (quantifier_letter All) h = refl
fixed_letter number (meta_letter i) h = absurd (cc)
fixed_letter number (object_letter i) h = absurd (cc)
fixed_letter number (sort_letter i) h = absurd (cc)
fixed_letter number (constant_letter i) h = absurd (cc)
fixed_letter number (word_letter says_pattern) h = refl
fixed_letter number (word_letter says_sort) h = refl
fixed_letter number (word_letter says_variable) h = refl
fixed_letter number (word_letter says_substituted) h = refl
fixed_letter number (word_letter says_fresh) h = refl
fixed_letter number (word_letter says_predicate) h = refl
fixed_letter number (word_letter says_holds) h = refl
fixed_letter number (word_letter (other_word t)) h = absurd (cc)

-- ---- what is known of a letter: a variable has its type, and another token is no variable

abbrev pub typed_as : Token → Token → Hypothesis → Bool
typed_as typecode variable (floating label other typed) =
    bytes_eq other typecode && bytes_eq typed variable
typed_as typecode variable (essential label statement) = false

abbrev pub is_known : List Hypothesis → Letter → Bool
is_known hs (meta_letter i) = list_any (typed_as (codes "#Pattern") (token_of (meta_letter i))) hs
is_known hs (object_letter i) = list_any (typed_as (codes "#Var") (token_of (object_letter i))) hs
is_known hs (sort_letter i) = list_any (typed_as (codes "#Sort") (token_of (sort_letter i))) hs
is_known hs l = is_fixed l && not (list_any (types (token_of l)) hs)

abbrev pub are_known : List Hypothesis → List Letter → Bool
are_known hs letters = list_all (is_known hs) letters

abbrev pub pairs_known : List Hypothesis → List (Letter × Letter) → Bool
pairs_known hs [] = true
pairs_known hs ((k, l) ∷ pairs) = (is_known hs k && is_known hs l) && pairs_known hs pairs

abbrev pub all_known : List Hypothesis → List (List Piece) → Bool
all_known hs [] = true
all_known hs (pieces ∷ others) = are_known hs (spell_all pieces) && all_known hs others

abbrev pub typecodes : List Letter
typecodes = word_letter says_pattern ∷ (word_letter says_sort ∷ (word_letter says_variable ∷ []))

abbrev pub scheme_known : List Hypothesis → Scheme → Bool
scheme_known hs s =
    are_known hs typecodes && (pairs_known hs s.apart && (all_known hs s.hypotheses
    && are_known hs (spell_all s.statement)))

-- ---- the table

abbrev pub tokens_of : List Piece → List Token
tokens_of pieces = map token_of (spell_all pieces)

abbrev pub pair_tokens : Letter × Letter → Token × Token
pair_tokens (k, l) = (token_of k, token_of l)

-- a row's statement, hypotheses and pairs, in tokens
abbrev pub RowTokens : Type 0
RowTokens = List Token × List (List Token) × List (Token × Token)

abbrev pub row_tokens : Row → RowTokens
row_tokens r = (expression_of r.statement, map statement_of (premises r), r.apart)

abbrev pub scheme_tokens : Scheme → RowTokens
scheme_tokens s = (tokens_of s.statement, map tokens_of s.hypotheses, map pair_tokens s.apart)

-- the hypotheses of a row's frame
abbrev pub frame_hypotheses : Row → List Hypothesis
frame_hypotheses r = filter (is_in_row r) header_types ++ premises r

abbrev pub rows_known : List Row → List Scheme → Bool
rows_known [] ss = true
rows_known (r ∷ rs) [] = false
rows_known (r ∷ rs) (s ∷ ss) = scheme_known (frame_hypotheses r) s && rows_known rs ss

pub same_tokens : map row_tokens header_rows ≡ map scheme_tokens header_schemes
unfolding header_rows header_schemes
same_tokens = refl

pub all_rows_known : rows_known header_rows header_schemes ≡ true
unfolding header_rows header_schemes
all_rows_known = refl
