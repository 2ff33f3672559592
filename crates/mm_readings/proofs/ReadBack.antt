-- What is spelled is read back.
use Rattle.std.proofs.Common.{◌≡◌, List, [], ◌∷◌, refl, ap, ◌∙◌}
use Rattle.ml_pat.specs.Patterns.{Pattern, nullary, unary, binary, sorted, quantified, var, meta}
use Rattle.ml_pat.specs.Patterns.{constant}
use Rattle.mm_readings.specs.Letters.{Letter, closing}
use Rattle.mm_readings.specs.Letters.{sort_letter}
use Rattle.mm_readings.specs.Pieces.{Piece, word_piece, pattern_piece, sort_piece, spell, spell_all}
use Rattle.mm_readings.specs.Pieces.{read_unary, read_binary, read_sorted, read_quantifier, read}

pub read-spell : (p : Pattern) (rest : List Letter)
    → read (spell p rest) ≡ pattern_piece p ∷ read rest
read-spell (nullary c) rest = refl
read-spell (unary c p) rest = ap (read_unary c) (read-spell p (closing ∷ rest))
read-spell (binary c p q) rest =
    ap (read_binary c)
    (read-spell p (spell q (closing ∷ rest))
    ∙ ap (λ (pieces : List Piece). pattern_piece p ∷ pieces) (read-spell q (closing ∷ rest)))
read-spell (sorted c p s) rest =
    ap (read_sorted c) (read-spell p (sort_letter s ∷ (closing ∷ rest)))
read-spell (quantified c x s p) rest =
    ap (λ (pieces : List Piece).
    read_quantifier c (pattern_piece (var x) ∷ (sort_piece s ∷ pieces)))
    (read-spell p (closing ∷ rest))
read-spell (var x) rest = refl
read-spell (meta i) rest = refl
read-spell (constant c) rest = refl

pub read-spell_all : (pieces : List Piece) → read (spell_all pieces) ≡ pieces
read-spell_all [] = refl
read-spell_all (word_piece w ∷ pieces) =
    ap (λ (ps : List Piece). word_piece w ∷ ps) (read-spell_all pieces)
read-spell_all (pattern_piece p ∷ pieces) =
    read-spell p (spell_all pieces)
    ∙ ap (λ (ps : List Piece). pattern_piece p ∷ ps) (read-spell_all pieces)
read-spell_all (sort_piece s ∷ pieces) =
    ap (λ (ps : List Piece). sort_piece s ∷ ps) (read-spell_all pieces)
