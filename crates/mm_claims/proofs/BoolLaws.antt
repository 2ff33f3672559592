-- Truth values.
use Rattle.std.proofs.Common.{◌≡◌, Bool, true, false, refl, sym}
use Rattle.std.specs.Prelude.{◌&&◌, ◌||◌, not, if◌then◌else◌}
use Rattle.std.proofs.lemmas.Bool.{false≢true}

pub both_false : (a b : Bool) → a ≡ false → b ≡ false → (a || b) ≡ false
both_false a b h k = rw (h, k) refl

pub either_true : (a b : Bool) → a ≡ true → (a || b) ≡ true
either_true a b h = rw h refl

pub second_true : (a b : Bool) → b ≡ true → (a || b) ≡ true
second_true true b h = refl
second_true false b h = h

pub not_false : (b : Bool) → b ≡ false → not b ≡ true
not_false b h = rw h refl

pub and_false : (b : Bool) → (b && false) ≡ false
and_false true = refl
and_false false = refl

pub if_false : {A : Type 0} (b : Bool) (x y : A) → b ≡ false → (if b then x else y) ≡ y
if_false b x y h = rw h refl

pub if_true : {A : Type 0} (b : Bool) (x y : A) → b ≡ true → (if b then x else y) ≡ x
if_true b x y h = rw h refl

pub or_false : (b : Bool) → (b || false) ≡ b
or_false true = refl
or_false false = refl

pub and_true : (b : Bool) → (b && true) ≡ b
and_true true = refl
and_true false = refl

pub split_false : (a b : Bool) → (a || b) ≡ false → (a ≡ false) × (b ≡ false)
split_false true b h = absurd (false≢true (sym h))
split_false false b h = (refl, h)

pub with_false : (b : Bool) → b ≡ (b || false)
with_false true = refl
with_false false = refl
