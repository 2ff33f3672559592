-- What a text that holds is spelled from.
use Rattle.std.proofs.Common.{◌≡◌, ℕ, List, [], ◌∷◌, sym, ap, ◌∙◌, subst}
use Rattle.ml_pat.specs.Patterns.{Pattern, nullary, unary, binary, sorted, quantified, var, meta}
use Rattle.ml_pat.specs.Patterns.{constant}
use Rattle.mm_readings.specs.Letters.{Word, Letter, object_letter, sort_letter, word_letter}
use Rattle.mm_readings.specs.Letters.{says_pattern, says_sort, says_variable}
use Rattle.mm_readings.specs.Pieces.{Piece, word_piece, pattern_piece, sort_piece, spell, spell_all}
use Rattle.mm_readings.specs.Pieces.{read}
use Rattle.mm_readings.specs.Holding.{IsSaidOf, Says, Holds}
use Rattle.mm_readings.proofs.ReadBack.{read-spell_all}

-- a text that holds and is spelled from these pieces says what they say
pub says : (A : Pattern → Type 0) (letters : List Letter) (pieces : List Piece) → Holds A letters
    → letters ≡ spell_all pieces → Says A pieces
says A letters pieces (others, spelled, said) e =
    subst (Says A) (sym (read-spell_all others) ∙ ap read (sym spelled ∙ e) ∙ read-spell_all pieces)
    said

-- a text that begins with a word and holds says something of the pieces after the word
said_of : (A : Pattern → Type 0) (w : Word) (letters : List Letter) (pieces : List Piece)
    → (word_letter w ∷ letters) ≡ spell_all pieces → Says A pieces
    → (others : List Piece) × (letters ≡ spell_all others) × IsSaidOf A w others
said_of A w letters [] e h = absurd h
said_of A w letters (pattern_piece p ∷ pieces) e h = absurd h
said_of A w letters (sort_piece s ∷ pieces) e h = absurd h
said_of A w letters (word_piece v ∷ pieces) e h =
    let same : w ≡ v = cc in
    let rest : letters ≡ spell_all pieces = cc in
    (pieces, rest, subst (λ (k : Word). IsSaidOf A k pieces) (sym same) h)

-- so the text of a pattern, of a sort and of an object variable is one
pub pattern_text : (A : Pattern → Type 0) (letters : List Letter)
    → Holds A (word_letter says_pattern ∷ letters) → (p : Pattern) × (letters ≡ spell p [])
pattern_text A letters (pieces, spelled, h) =
    let w : (others : List Piece) × (letters ≡ spell_all others) × IsSaidOf A says_pattern others =
    said_of A says_pattern letters pieces spelled h in
    go w.0 w.1 w.2
  where
    go : (others : List Piece) → letters ≡ spell_all others → IsSaidOf A says_pattern others
        → (p : Pattern) × (letters ≡ spell p [])
    go [] e k = absurd k
    go (pattern_piece p ∷ []) e k = (p, e)
    go (pattern_piece p ∷ (q ∷ others)) e k = absurd k
    go (word_piece v ∷ others) e k = absurd k
    go (sort_piece s ∷ others) e k = absurd k

pub sort_text : (A : Pattern → Type 0) (letters : List Letter)
    → Holds A (word_letter says_sort ∷ letters) → (s : ℕ) × (letters ≡ sort_letter s ∷ [])
sort_text A letters (pieces, spelled, h) =
    let w : (others : List Piece) × (letters ≡ spell_all others) × IsSaidOf A says_sort others =
    said_of A says_sort letters pieces spelled h in
    go w.0 w.1 w.2
  where
    go : (others : List Piece) → letters ≡ spell_all others → IsSaidOf A says_sort others
        → (s : ℕ) × (letters ≡ sort_letter s ∷ [])
    go [] e k = absurd k
    go (sort_piece s ∷ []) e k = (s, e)
    go (sort_piece s ∷ (q ∷ others)) e k = absurd k
    go (word_piece v ∷ others) e k = absurd k
    go (pattern_piece p ∷ others) e k = absurd k

pub object_text : (A : Pattern → Type 0) (letters : List Letter)
    → Holds A (word_letter says_variable ∷ letters) → (x : ℕ) × (letters ≡ object_letter x ∷ [])
object_text A letters (pieces, spelled, h) =
    let w : (others : List Piece) × (letters ≡ spell_all others) × IsSaidOf A says_variable others =
    said_of A says_variable letters pieces spelled h in
    go w.0 w.1 w.2
  where
    go : (others : List Piece) → letters ≡ spell_all others → IsSaidOf A says_variable others
        → (x : ℕ) × (letters ≡ object_letter x ∷ [])
    go [] e k = absurd k
    go (pattern_piece (var x) ∷ []) e k = (x, e)
    go (pattern_piece (var x) ∷ (q ∷ others)) e k = absurd k
    go (pattern_piece (nullary c) ∷ others) e k = absurd k
    go (pattern_piece (unary c p) ∷ others) e k = absurd k
    go (pattern_piece (binary c p q) ∷ others) e k = absurd k
    go (pattern_piece (sorted c p s) ∷ others) e k = absurd k
    go (pattern_piece (quantified c x s p) ∷ others) e k = absurd k
    go (pattern_piece (meta i) ∷ others) e k = absurd k
    go (pattern_piece (constant c) ∷ others) e k = absurd k
    go (word_piece v ∷ others) e k = absurd k
    go (sort_piece s ∷ others) e k = absurd k
