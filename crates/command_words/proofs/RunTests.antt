-- If one part of a run or prove command is bad, the command is bad.
use Rattle.std.proofs.Common.{◌≡◌, ◌&&◌, Bool, true, false, not, refl}

pub no-first : (a b c d e : Bool) → b ≡ false → a && ((b && c) && (d && e)) ≡ false
no-first true true c d e h = absurd (let wrong : ⊥ = cc in wrong)
no-first true false c d e h = refl
no-first false b c d e h = refl

pub no-second : (a b c d e : Bool) → c ≡ false → a && ((b && c) && (d && e)) ≡ false
no-second true true true d e h = absurd (let wrong : ⊥ = cc in wrong)
no-second true true false d e h = refl
no-second true false c d e h = refl
no-second false b c d e h = refl

pub no-third : (a b c d e : Bool) → d ≡ false → a && ((b && c) && (d && e)) ≡ false
no-third true true true true e h = absurd (let wrong : ⊥ = cc in wrong)
no-third true true true false e h = refl
no-third true true false d e h = refl
no-third true false c d e h = refl
no-third false b c d e h = refl

pub no-fourth : (a b c d e : Bool) → e ≡ false → a && ((b && c) && (d && e)) ≡ false
no-fourth true true true true true h = absurd (let wrong : ⊥ = cc in wrong)
no-fourth true true true true false h = refl
no-fourth true true true false e h = refl
no-fourth true true false d e h = refl
no-fourth true false c d e h = refl
no-fourth false b c d e h = refl

pub all-five : (a b c d e : Bool) → a ≡ true → b ≡ true → c ≡ true → d ≡ true → e ≡ true
    → a && ((b && c) && (d && e)) ≡ true
all-five true true true true true g h i j k = refl
all-five false b c d e g h i j k = g
all-five true false c d e g h i j k = h
all-five true true false d e g h i j k = i
all-five true true true false e g h i j k = j
all-five true true true true false g h i j k = k

-- the last part of a run command: a good number of calls, and good files
pub no-calls : (a b : Bool) → a ≡ false → a && not b ≡ false
no-calls true b h = absurd (let wrong : ⊥ = cc in wrong)
no-calls false b h = refl

pub bad-files : (a b : Bool) → b ≡ true → a && not b ≡ false
bad-files true true h = refl
bad-files true false h = absurd (let wrong : ⊥ = cc in wrong)
bad-files false b h = refl

pub good-files : (a b : Bool) → a ≡ true → b ≡ false → a && not b ≡ true
good-files true true g h = absurd (let wrong : ⊥ = cc in wrong)
good-files true false g h = refl
good-files false b g h = g
