-- Rows as schemes: lists of pieces, whose pattern variables, object variables and sorts stand for
-- the variables of the header.
use Rattle.std.proofs.Common.{◌≡◌, ℕ, List, [], ◌∷◌, refl, ap, ◌∙◌}
use Rattle.std.specs.Prelude.{flat_map}
use Rattle.ml_pat.specs.Patterns.{Pattern, nullary, unary, binary, sorted, quantified, var, meta}
use Rattle.ml_pat.specs.Patterns.{constant}
use Rattle.mm_readings.specs.Letters.{Letter, opening, closing, unary_letter}
use Rattle.mm_readings.specs.Letters.{binary_letter, sorted_letter, quantifier_letter}
use Rattle.mm_readings.specs.Letters.{object_letter, meta_letter, sort_letter}
use Rattle.mm_readings.specs.Letters.{word_letter}
use Rattle.mm_readings.specs.Pieces.{Piece, word_piece, pattern_piece, sort_piece, spell, spell_all}
use Rattle.mm_readings.specs.Holding.{Says}
use Rattle.mm_readings.specs.Readings.{ShareNone}
use Rattle.mm_readings.proofs.Texts.{spell-append, in_front}

-- what the variables of a scheme stand for
pub record Assignment : Type 0 where
  pub pattern : ℕ → Pattern
  pub object : ℕ → ℕ
  pub sort : ℕ → ℕ

abbrev pub under : Assignment → Pattern → Pattern
under a (nullary c) = nullary c
under a (unary c p) = unary c (under a p)
under a (binary c p q) = binary c (under a p) (under a q)
under a (sorted c p s) = sorted c (under a p) (a.sort s)
under a (quantified c x s p) = quantified c (a.object x) (a.sort s) (under a p)
under a (var x) = var (a.object x)
under a (meta i) = a.pattern i
under a (constant c) = constant c

abbrev pub all_under : Assignment → List Piece → List Piece
all_under a [] = []
all_under a (word_piece w ∷ pieces) = word_piece w ∷ all_under a pieces
all_under a (pattern_piece p ∷ pieces) = pattern_piece (under a p) ∷ all_under a pieces
all_under a (sort_piece s ∷ pieces) = sort_piece (a.sort s) ∷ all_under a pieces

-- the text that a letter of a scheme stands for
abbrev pub text_under : Assignment → Letter → List Letter
text_under a (object_letter x) = object_letter (a.object x) ∷ []
text_under a (meta_letter i) = spell (a.pattern i) []
text_under a (sort_letter s) = sort_letter (a.sort s) ∷ []
text_under a l = l ∷ []

abbrev pub texts_under : Assignment → List Letter → List Letter
texts_under a letters = flat_map (text_under a) letters

pub texts-spell : (a : Assignment) (p : Pattern) (rest : List Letter)
    → texts_under a (spell p rest) ≡ spell (under a p) (texts_under a rest)
texts-spell a (nullary c) rest = refl
texts-spell a (unary c p) rest =
    in_front opening (in_front (unary_letter c) (texts-spell a p (closing ∷ rest)))
texts-spell a (binary c p q) rest =
    in_front opening (in_front (binary_letter c)
    (texts-spell a p (spell q (closing ∷ rest))
    ∙ ap (spell (under a p)) (texts-spell a q (closing ∷ rest))))
texts-spell a (sorted c p s) rest =
    in_front opening (in_front (sorted_letter c)
    (texts-spell a p (sort_letter s ∷ (closing ∷ rest))))
texts-spell a (quantified c x s p) rest =
    in_front opening (in_front (quantifier_letter c) (in_front (object_letter (a.object x))
    (in_front (sort_letter (a.sort s)) (texts-spell a p (closing ∷ rest)))))
texts-spell a (var x) rest = refl
texts-spell a (meta i) rest = spell-append (a.pattern i) [] (texts_under a rest)
texts-spell a (constant c) rest = refl

pub texts-spell_all : (a : Assignment) (pieces : List Piece)
    → texts_under a (spell_all pieces) ≡ spell_all (all_under a pieces)
texts-spell_all a [] = refl
texts-spell_all a (word_piece w ∷ pieces) = in_front (word_letter w) (texts-spell_all a pieces)
texts-spell_all a (pattern_piece p ∷ pieces) =
    texts-spell a p (spell_all pieces) ∙ ap (spell (under a p)) (texts-spell_all a pieces)
texts-spell_all a (sort_piece s ∷ pieces) =
    in_front (sort_letter (a.sort s)) (texts-spell_all a pieces)

-- A row: the variables of its pairs, its hypotheses and its statement.
pub record Scheme : Type 0 where
  pub apart : List (Letter × Letter)
  pub hypotheses : List (List Piece)
  pub statement : List Piece

abbrev pub AreAllApart : Assignment → List (Letter × Letter) → Type 0
AreAllApart a [] = Unit {0}
AreAllApart a ((k, l) ∷ pairs) = ShareNone (text_under a k) (text_under a l) × AreAllApart a pairs

abbrev pub AllSay : (Pattern → Type 0) → Assignment → List (List Piece) → Type 0
AllSay IsAxiom a [] = Unit {0}
AllSay IsAxiom a (pieces ∷ hypotheses) =
    Says IsAxiom (all_under a pieces) × AllSay IsAxiom a hypotheses

-- the statement follows from the pairs and the hypotheses, whatever the variables stand for
abbrev pub Follows : (Pattern → Type 0) → Scheme → Type 0
Follows IsAxiom s =
    (a : Assignment) → AreAllApart a s.apart → AllSay IsAxiom a s.hypotheses
    → Says IsAxiom (all_under a s.statement)
