-- Texts of pieces: what stands behind them, and which object variables stand in them.
use Rattle.std.proofs.Common.{◌≡◌, ℕ, Bool, true, false, List, [], ◌∷◌, ◌++◌, refl, sym, ap, ◌∙◌}
use Rattle.std.proofs.Common as std
use Rattle.std.specs.Prelude.{◌==◌, ◌||◌, ◌&&◌}
use Rattle.ml_pat.specs.Patterns.{Pattern, nullary, unary, binary, sorted, quantified, var, meta}
use Rattle.ml_pat.specs.Patterns.{constant}
use Rattle.ml_pat.specs.Judgements.{absent}
use Rattle.mm_readings.specs.Letters.{Letter, opening, closing, unary_letter, binary_letter}
use Rattle.mm_readings.specs.Letters.{sorted_letter, quantifier_letter, object_letter, sort_letter}
use Rattle.mm_readings.specs.Pieces.{spell}
use Rattle.mm_readings.specs.Readings.{has_object}

pub in_front : (l : Letter) {xs ys : List Letter} → xs ≡ ys → (l ∷ xs) ≡ (l ∷ ys)
in_front l e = ap (λ (zs : List Letter). l ∷ zs) e

pub spell-append : (p : Pattern) (xs ys : List Letter) → (spell p xs ++ ys) ≡ spell p (xs ++ ys)
spell-append (nullary c) xs ys = refl
spell-append (unary c p) xs ys =
    in_front opening (in_front (unary_letter c) (spell-append p (closing ∷ xs) ys))
spell-append (binary c p q) xs ys =
    in_front opening (in_front (binary_letter c)
    (spell-append p (spell q (closing ∷ xs)) ys
    ∙ ap (spell p) (spell-append q (closing ∷ xs) ys)))
spell-append (sorted c p s) xs ys =
    in_front opening (in_front (sorted_letter c)
    (spell-append p (sort_letter s ∷ (closing ∷ xs)) ys))
spell-append (quantified c x s p) xs ys =
    in_front opening (in_front (quantifier_letter c) (in_front (object_letter x)
    (in_front (sort_letter s) (spell-append p (closing ∷ xs) ys))))
spell-append (var x) xs ys = refl
spell-append (meta i) xs ys = refl
spell-append (constant c) xs ys = refl

neither : (a b : Bool) → (a || b) ≡ false → (a ≡ false) × (b ≡ false)
neither true b h = absurd (cc)
neither false b h = (refl, h)

not_false : (a : Bool) → a ≡ false → std.not a ≡ true
not_false a h = rw h refl

both : (a b : Bool) → a ≡ true → b ≡ true → (a && b) ≡ true
both a b h k = rw (h, k) refl

-- an object variable that does not stand in the text of a pattern does not occur in the pattern
pub absent-text : (x : ℕ) (p : Pattern) (rest : List Letter) → has_object x (spell p rest) ≡ false
    → (absent x p ≡ true) × (has_object x rest ≡ false)
absent-text x (nullary c) rest h = (refl, h)
absent-text x (unary c p) rest h = absent-text x p (closing ∷ rest) h
absent-text x (binary c p q) rest h =
    let k : (absent x p ≡ true) × (has_object x (spell q (closing ∷ rest)) ≡ false) =
    absent-text x p (spell q (closing ∷ rest)) h in
    let l : (absent x q ≡ true) × (has_object x rest ≡ false) =
    absent-text x q (closing ∷ rest) k.1 in
    (both (absent x p) (absent x q) k.0 l.0, l.1)
absent-text x (sorted c p s) rest h = absent-text x p (sort_letter s ∷ (closing ∷ rest)) h
absent-text x (quantified c y s p) rest h =
    let k : ((x == y) ≡ false) × (has_object x (spell p (closing ∷ rest)) ≡ false) =
    neither (x == y) (has_object x (spell p (closing ∷ rest))) h in
    let l : (absent x p ≡ true) × (has_object x rest ≡ false) =
    absent-text x p (closing ∷ rest) k.1 in
    (both (std.not (x == y)) (absent x p) (not_false (x == y) k.0) l.0, l.1)
absent-text x (var y) rest h =
    let k : ((x == y) ≡ false) × (has_object x rest ≡ false) =
    neither (x == y) (has_object x rest) h in
    (not_false (x == y) k.0, k.1)
absent-text x (meta i) rest h = (refl, h)
absent-text x (constant c) rest h = (refl, h)
