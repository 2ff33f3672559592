-- Bit operations in two's complement, by the ones on the binary digits of natural numbers.
use Rattle.std.proofs.Common.{◌≡◌, ℕ, zero, suc, ◌+◌, ◌-◌, ◌*◌, ◌/◌, ◌%◌, ◌^◌, ◌<◌, refl, ◌∙◌, ap}
use Rattle.std.proofs.Common.{arith, ℤ, pos, negsuc, FitsSigned, to_z, of_z}
use Rattle.std.specs.Prelude.{bit_and, bit_or, bit_xor}
use Rattle.std.specs.Int.{w128}
use Rattle.std.specs.Int.Bits.{and_step, and_comm, and_le_l, and_le_r, and_lt, or_lt, xor_lt}
use Rattle.std.specs.Int.Bits.{or_add_and, xor_add_and}
use Rattle.std.proofs.Math.Nat.{pow-suc}
use Rattle.std.proofs.lemmas.Int.{to_z-of_z}
use Rattle.term_core.specs.HookValues.{bitwise_and, bitwise_or, bitwise_xor}

-- The bits of a that are not in b are the bits that a shares with the complement of b.
and_not : (k a b : ℕ) → a < 2 ^ k → b < 2 ^ k → bit_and a (2 ^ k - 1 - b) + bit_and a b ≡ a
and_not zero zero b x y = refl
and_not zero (suc a) b x y = absurd (omega arith)
and_not (suc k) a b x y =
    let two : 2 ^ suc k ≡ 2 ^ k * 2 = pow-suc 2 k in
    let c : ℕ = 2 ^ suc k - 1 - b in
    let half : c / 2 ≡ 2 ^ k - 1 - b / 2 = omega arith in
    let odd : c % 2 ≡ 1 - b % 2 = omega arith in
    let low : a / 2 < 2 ^ k = omega arith in
    let low' : b / 2 < 2 ^ k = omega arith in
    let same : bit_and (a / 2) (c / 2) ≡ bit_and (a / 2) (2 ^ k - 1 - b / 2) =
    ap (bit_and (a / 2)) half in
    omega (arith, and_not k (a / 2) (b / 2) low low', and_step a c, and_step a b)

-- ---- by the 128 bits of numbers that fit

top-not : (a b : ℕ) → a < 2 ^ 128 → b < 2 ^ 127 → bit_and a (2 ^ 128 - suc b) + bit_and a b ≡ a
top-not a b x y =
    let c : 2 ^ 128 - suc b ≡ 2 ^ 128 - 1 - b = omega arith in
    ap (λ (n : ℕ). bit_and a n + bit_and a b) c ∙ and_not 128 a b x (omega arith)

and-both : (a b : ℕ) → a < 2 ^ 127 → b < 2 ^ 127
    → bit_and (2 ^ 128 - suc a) (2 ^ 128 - suc b) ≡ 2 ^ 128 - suc (bit_or a b)
and-both a b x y =
    omega (
      arith,
      top-not (2 ^ 128 - suc a) b (omega arith) y,
      top-not b a (omega arith) x,
      and_comm (2 ^ 128 - suc a) b,
      and_comm b a,
      or_add_and a b,
    )

bits-and : (x y : ℤ) → FitsSigned w128 x → FitsSigned w128 y
    → bit_and (of_z w128 x) (of_z w128 y) ≡ of_z w128 (bitwise_and x y)
bits-and (pos a) (pos b) f g = refl
bits-and (pos a) (negsuc b) f g =
    let x = f.sfits in let y = g.sfits in omega (arith, top-not a b (omega arith) y)
bits-and (negsuc a) (pos b) f g =
    let x = f.sfits in
    let y = g.sfits in
    omega (arith, and_comm (2 ^ 128 - suc a) b, top-not b a (omega arith) x)
bits-and (negsuc a) (negsuc b) f g = and-both a b f.sfits g.sfits

fits-and : (x y : ℤ) → FitsSigned w128 x → FitsSigned w128 y → FitsSigned w128 (bitwise_and x y)
fits-and (pos a) (pos b) f g = record { sfits = and_lt 127 a b f.sfits g.sfits }
fits-and (pos a) (negsuc b) f g = let x = f.sfits in record { sfits = omega arith }
fits-and (negsuc a) (pos b) f g = let y = g.sfits in record { sfits = omega arith }
fits-and (negsuc a) (negsuc b) f g = record { sfits = or_lt 127 a b f.sfits g.sfits }

pub bitwise_and-is : (x y : ℤ) → FitsSigned w128 x → FitsSigned w128 y
    → to_z w128 (bit_and (of_z w128 x) (of_z w128 y)) ≡ bitwise_and x y
bitwise_and-is x y f g =
    ap (to_z w128) (bits-and x y f g) ∙ to_z-of_z w128 (bitwise_and x y) (fits-and x y f g)

bits-or : (x y : ℤ) → FitsSigned w128 x → FitsSigned w128 y
    → bit_or (of_z w128 x) (of_z w128 y) ≡ of_z w128 (bitwise_or x y)
bits-or (pos a) (pos b) f g = refl
bits-or (pos a) (negsuc b) f g =
    let x = f.sfits in let y = g.sfits in
    omega (
      arith,
      top-not a b (omega arith) y,
      or_add_and a (2 ^ 128 - suc b),
      and_comm a b,
      and_le_l a b,
      and_le_r a b,
    )
bits-or (negsuc a) (pos b) f g =
    let x = f.sfits in let y = g.sfits in
    omega (
      arith,
      top-not b a (omega arith) x,
      or_add_and (2 ^ 128 - suc a) b,
      and_comm (2 ^ 128 - suc a) b,
      and_comm a b,
      and_le_l a b,
      and_le_r a b,
    )
bits-or (negsuc a) (negsuc b) f g =
    let x = f.sfits in let y = g.sfits in
    omega (
      arith,
      and-both a b x y,
      or_add_and a b,
      or_add_and (2 ^ 128 - suc a) (2 ^ 128 - suc b),
      and_le_l a b,
    )

fits-or : (x y : ℤ) → FitsSigned w128 x → FitsSigned w128 y → FitsSigned w128 (bitwise_or x y)
fits-or (pos a) (pos b) f g = record { sfits = or_lt 127 a b f.sfits g.sfits }
fits-or (pos a) (negsuc b) f g = let y = g.sfits in record { sfits = omega arith }
fits-or (negsuc a) (pos b) f g = let x = f.sfits in record { sfits = omega arith }
fits-or (negsuc a) (negsuc b) f g = record { sfits = and_lt 127 a b f.sfits g.sfits }

pub bitwise_or-is : (x y : ℤ) → FitsSigned w128 x → FitsSigned w128 y
    → to_z w128 (bit_or (of_z w128 x) (of_z w128 y)) ≡ bitwise_or x y
bitwise_or-is x y f g =
    ap (to_z w128) (bits-or x y f g) ∙ to_z-of_z w128 (bitwise_or x y) (fits-or x y f g)

bits-xor : (x y : ℤ) → FitsSigned w128 x → FitsSigned w128 y
    → bit_xor (of_z w128 x) (of_z w128 y) ≡ of_z w128 (bitwise_xor x y)
bits-xor (pos a) (pos b) f g = refl
bits-xor (pos a) (negsuc b) f g =
    let x = f.sfits in let y = g.sfits in
    omega (
      arith,
      top-not a b (omega arith) y,
      xor_add_and a (2 ^ 128 - suc b),
      xor_add_and a b,
      xor_lt 127 a b x y,
    )
bits-xor (negsuc a) (pos b) f g =
    let x = f.sfits in let y = g.sfits in
    omega (
      arith,
      top-not b a (omega arith) x,
      xor_add_and (2 ^ 128 - suc a) b,
      and_comm (2 ^ 128 - suc a) b,
      and_comm a b,
      xor_add_and a b,
      xor_lt 127 a b x y,
    )
bits-xor (negsuc a) (negsuc b) f g =
    let x = f.sfits in let y = g.sfits in
    omega (
      arith,
      and-both a b x y,
      or_add_and a b,
      xor_add_and a b,
      xor_add_and (2 ^ 128 - suc a) (2 ^ 128 - suc b),
      or_lt 127 a b x y,
    )

fits-xor : (x y : ℤ) → FitsSigned w128 x → FitsSigned w128 y → FitsSigned w128 (bitwise_xor x y)
fits-xor (pos a) (pos b) f g = record { sfits = xor_lt 127 a b f.sfits g.sfits }
fits-xor (pos a) (negsuc b) f g = record { sfits = xor_lt 127 a b f.sfits g.sfits }
fits-xor (negsuc a) (pos b) f g = record { sfits = xor_lt 127 a b f.sfits g.sfits }
fits-xor (negsuc a) (negsuc b) f g = record { sfits = xor_lt 127 a b f.sfits g.sfits }

pub bitwise_xor-is : (x y : ℤ) → FitsSigned w128 x → FitsSigned w128 y
    → to_z w128 (bit_xor (of_z w128 x) (of_z w128 y)) ≡ bitwise_xor x y
bitwise_xor-is x y f g =
    ap (to_z w128) (bits-xor x y f g) ∙ to_z-of_z w128 (bitwise_xor x y) (fits-xor x y f g)
