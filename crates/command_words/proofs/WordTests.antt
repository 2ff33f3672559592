-- If one part of a command is bad, the command is bad.
use Rattle.std.proofs.Common.{◌≡◌, ◌&&◌, Bool, true, false, refl}

pub no-number : (a b c : Bool) → b ≡ false → a && (b && c) ≡ false
no-number true true c h = absurd (let wrong : ⊥ = cc in wrong)
no-number true false c h = refl
no-number false b c h = refl

pub no-file : (a b c : Bool) → c ≡ false → a && (b && c) ≡ false
no-file true true c h = h
no-file true false c h = refl
no-file false b c h = refl

pub all-three : (a b c : Bool) → a ≡ true → b ≡ true → c ≡ true → a && (b && c) ≡ true
all-three true true c g h i = i
all-three true false c g h i = h
all-three false b c g h i = g
