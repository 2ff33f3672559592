-- What holds of each leaf of a pattern.
use Rattle.std.proofs.Common.{◌≡◌, ℕ, Bool, true, false, refl}
use Rattle.std.proofs.Common as std
use Rattle.std.specs.Prelude.{◌==◌, ◌&&◌}
use Rattle.std.proofs.lemmas.Bool.{false≢true}
use Rattle.ml_pat.specs.Patterns.{Pattern, nullary, unary, binary, sorted, quantified, var, meta}
use Rattle.ml_pat.specs.Patterns.{constant}
use Rattle.ml_pat.specs.Judgements.{absent}
use Rattle.ml_pat.specs.Leaves.{LeafFacts, EachLeaf}

pub both_true : (a b : Bool) → a ≡ true → b ≡ true → (a && b) ≡ true
both_true a b h k = rw (h, k) refl

pub split_true : (a b : Bool) → (a && b) ≡ true → (a ≡ true) × (b ≡ true)
split_true true b h = (refl, h)
split_true false b h = absurd (false≢true h)

pub not_true : (a : Bool) → std.not a ≡ true → a ≡ false
not_true true h = absurd (false≢true h)
not_true false h = refl

-- facts that follow from other facts
pub record Implies (f g : LeafFacts) : Type 0 where
  pub sort : (i : ℕ) → f.sort i → g.sort i
  pub constant : (i : ℕ) → f.constant i → g.constant i
  pub object : (i : ℕ) → f.object i → g.object i
  pub meta : (i : ℕ) → f.meta i → g.meta i

pub EachLeaf-implied : (f g : LeafFacts) (p : Pattern) → Implies f g → EachLeaf f p → EachLeaf g p
EachLeaf-implied f g (nullary c) w h = tt
EachLeaf-implied f g (binary c p q) w h =
    (EachLeaf-implied f g p w h.0, EachLeaf-implied f g q w h.1)
EachLeaf-implied f g (unary c p) w h = EachLeaf-implied f g p w h
EachLeaf-implied f g (sorted c p s) w h = (EachLeaf-implied f g p w h.0, w.sort s h.1)
EachLeaf-implied f g (quantified c x s p) w h =
    (EachLeaf-implied f g p w h.0, (w.object x h.1.0, w.sort s h.1.1))
EachLeaf-implied f g (var x) w h = w.object x h
EachLeaf-implied f g (meta i) w h = w.meta i h
EachLeaf-implied f g (constant c) w h = w.constant c h

-- the same facts, and x is none of the object variables
abbrev pub other_leaves : ℕ → LeafFacts → LeafFacts
other_leaves x f = record {
  sort = f.sort;
  constant = f.constant;
  object = λ y. f.object y × ((x == y) ≡ false);
  meta = f.meta;
}

pub EachLeaf-absent : (f : LeafFacts) (x : ℕ) (p : Pattern) → absent x p ≡ true → EachLeaf f p
    → EachLeaf (other_leaves x f) p
EachLeaf-absent f x (nullary c) a h = tt
EachLeaf-absent f x (binary c p q) a h =
    let b : (absent x p ≡ true) × (absent x q ≡ true) = split_true (absent x p) (absent x q) a in
    (EachLeaf-absent f x p b.0 h.0, EachLeaf-absent f x q b.1 h.1)
EachLeaf-absent f x (unary c p) a h = EachLeaf-absent f x p a h
EachLeaf-absent f x (sorted c p s) a h = (EachLeaf-absent f x p a h.0, h.1)
EachLeaf-absent f x (quantified c y s p) a h =
    let b : (std.not (x == y) ≡ true) × (absent x p ≡ true) =
    split_true (std.not (x == y)) (absent x p) a in
    (EachLeaf-absent f x p b.1 h.0, ((h.1.0, not_true (x == y) b.0), h.1.1))
EachLeaf-absent f x (var y) a h = (h, not_true (x == y) a)
EachLeaf-absent f x (meta i) a h = h
EachLeaf-absent f x (constant c) a h = h
