-- What follows if a test is true.
use Rattle.std.proofs.Common.{◌≡◌, ℕ, Bool, true, false, refl}
use Rattle.std.specs.Prelude.{not, ◌&&◌}
use Rattle.mm_text.specs.Bytes.{Class, printable, white, foreign, class_of, is_printable_class}
use Rattle.mm_text.specs.Bytes.{is_white}

pub both_true : (a b : Bool) → (a && b) ≡ true → (a ≡ true) × (b ≡ true)
both_true true b h = (refl, h)
both_true false b h = absurd (cc)

pub not_true : (a : Bool) → not a ≡ true → a ≡ false
not_true true h = absurd (cc)
not_true false h = refl

pub printable_class : (k : Class) → is_printable_class k ≡ true → k ≡ printable
printable_class printable h = refl
printable_class white h = absurd (cc)
printable_class foreign h = absurd (cc)

pub white_class : (b : ℕ) → is_white b ≡ true → class_of b ≡ white
white_class b h = rw h refl
