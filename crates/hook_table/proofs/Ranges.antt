-- Numbers inside and outside the range.
use Rattle.std.proofs.Common.{◌≡◌, ℕ, zero, suc, ◌+◌, ◌-◌, ◌*◌, ◌/◌, ◌%◌, ◌^◌, ◌<◌, ◌≤◌, ◌≢◌, refl}
use Rattle.std.proofs.Common.{sym, subst, ◌∙◌, ap, arith, ℤ, pos, negsuc, neg_ℤ, ◌*ℤ◌, FitsSigned}
use Rattle.std.proofs.Common.{Some, None, Option, to_z, of_z}
use Rattle.std.specs.Prelude.{unsigned_abs}
use Rattle.std.specs.Int.{w128, int_div_euclid}
use Rattle.std.specs.Option.{SomeIff}
use Rattle.std.proofs.Math.Nat.{div-eq_of_lt, mod-eq_of_lt, mul-le-mul_left, mul-one, mul_assoc}
use Rattle.std.proofs.Math.Nat.{suc-mul}
use Rattle.std.proofs.lemmas.Nat.{pow-add}
use Rattle.std.proofs.lemmas.Int.{to_z-of_z, to_z_pos}
use lib.Signed.{mag, mag_shr, shr_z}
use lib.Pow.{pow_mono, pow_pos}

mag-neg : (n : ℕ) → mag (neg_ℤ (pos n)) ≡ n - 1
mag-neg zero = refl
mag-neg (suc n) = omega arith

grows-one : (a m : ℕ) → m ≤ suc a * m
grows-one a m = omega (arith, suc-mul a m)

-- a product grows with its factor
grows : (a p q : ℕ) → 0 < q → a * p ≤ a * (p * q)
grows a p q some =
    let more : p * 1 ≤ p * q = mul-le-mul_left p some in
    let one : p * 1 ≡ p = mul-one p in
    mul-le-mul_left a (omega arith)

pub fits-factor : (x : ℤ) (p q : ℕ) → 0 < q → FitsSigned w128 (x *ℤ pos (p * q))
    → FitsSigned w128 (x *ℤ pos p)
fits-factor (pos a) p q some f =
    let s = f.sfits in let g = grows a p q some in record { sfits = omega arith }
fits-factor (negsuc a) p q some f =
    let s = f.sfits in
    record {
      sfits =
          omega (arith, grows (suc a) p q some, mag-neg (suc a * p), mag-neg (suc a * (p * q)));
    }

-- the product with a power of two greater than 2^127 is outside the range, except for 0
pub too-far : (x : ℤ) (n : ℕ) → x ≢ pos 0 → 127 < n → FitsSigned w128 (x *ℤ pos (2 ^ n)) → ⊥
too-far (pos zero) n other far f = other refl
too-far (pos (suc a)) n other far f =
    let s = f.sfits in
    let high : 2 ^ 128 ≤ 2 ^ n = pow_mono {i = 128} {j = n} far in
    omega (arith, grows-one a (2 ^ n))
too-far (negsuc a) n other far f =
    let s = f.sfits in
    let high : 2 ^ 128 ≤ 2 ^ n = pow_mono {i = 128} {j = n} far in
    omega (arith, mag-neg (suc a * 2 ^ n), grows-one a (2 ^ n))

-- the quotient by 2^127 or more, rounded down, is the quotient by 2^127
low-quotient : (a n : ℕ) → a < 2 ^ 127 → 127 ≤ n → a / 2 ^ n ≡ a / 2 ^ 127
low-quotient a n x far =
    let high : 2 ^ 127 ≤ 2 ^ n = pow_mono {i = 127} {j = n} far in
    let y : a < 2 ^ n = omega arith in
    div-eq_of_lt {n = a} {m = 2 ^ n} y ∙ sym (div-eq_of_lt {n = a} {m = 2 ^ 127} x)

far-quotient : (x : ℤ) (n : ℕ) → FitsSigned w128 x → 127 ≤ n
    → shr_z x (2 ^ 127) ≡ int_div_euclid x (pos (2 ^ n))
far-quotient (pos a) n f far = ap pos (sym (low-quotient a n f.sfits far))
far-quotient (negsuc a) n f far = ap negsuc (sym (low-quotient a n f.sfits far))

shr-fits : (x : ℤ) (m : ℕ) → FitsSigned w128 x → FitsSigned w128 (shr_z x m)
shr-fits x m f = let s = f.sfits in record { sfits = omega (arith, mag_shr x m) }

floor-quotient : (x : ℤ) (m : ℕ) → shr_z x m ≡ int_div_euclid x (pos m)
floor-quotient (pos a) m = refl
floor-quotient (negsuc a) m = refl

abs-fits : (v : Option ℤ) (x : ℤ) → FitsSigned w128 x
    → SomeIff v (FitsSigned w128 (neg_ℤ x)) (pos (unsigned_abs x))
    → SomeIff v (FitsSigned w128 (pos (unsigned_abs x))) (pos (unsigned_abs x))
abs-fits None (pos a) f h = λ g. let x = f.sfits in h (record { sfits = omega (arith, mag-neg a) })
abs-fits None (negsuc a) f h = h
abs-fits (Some v) (pos a) f h = (record { sfits = f.sfits }, h.1)
abs-fits (Some v) (negsuc a) f h = h

-- `checked_abs` returns the absolute value if it fits
pub checked_abs-is : (v : Option ℤ) (x : ℤ) → FitsSigned w128 x
    → SomeIff v (FitsSigned w128 (neg_ℤ (to_z w128 (of_z w128 x))))
    (pos (unsigned_abs (to_z w128 (of_z w128 x))))
    → SomeIff v (FitsSigned w128 (pos (unsigned_abs x))) (pos (unsigned_abs x))
checked_abs-is v x f h =
    let Given : ℤ → Type 0 = λ z. SomeIff v (FitsSigned w128 (neg_ℤ z)) (pos (unsigned_abs z)) in
    abs-fits v x f (subst Given (to_z-of_z w128 x f) h)

neg-times : (n q : ℕ) → neg_ℤ (pos n) *ℤ pos q ≡ neg_ℤ (pos (n * q))
neg-times zero q = let none : 0 * q ≡ 0 = omega arith in rw none refl
neg-times (suc n) q = refl

times-times : (x : ℤ) (p q : ℕ) → x *ℤ pos p *ℤ pos q ≡ x *ℤ pos (p * q)
times-times (pos a) p q = ap pos (mul_assoc a p q)
times-times (negsuc a) p q =
    neg-times (suc a * p) q ∙ ap (λ (n : ℕ). neg_ℤ (pos n)) (mul_assoc (suc a) p q)

-- the product with a power of two is the product with two factors
pub two-parts : (x : ℤ) (n m : ℕ) → m ≤ n → x *ℤ pos (2 ^ m) *ℤ pos (2 ^ (n - m)) ≡ x *ℤ pos (2 ^ n)
two-parts x n m low =
    let whole : m + (n - m) ≡ n = omega arith in
    times-times x (2 ^ m) (2 ^ (n - m))
    ∙ ap (λ (k : ℕ). x *ℤ pos k) (sym (pow-add 2 m (n - m)) ∙ ap (λ (k : ℕ). 2 ^ k) whole)

-- if one factor takes it out of the range, the product with both is outside the range
pub lacks-part : (x : ℤ) (n m : ℕ) → m ≤ n → (FitsSigned w128 (x *ℤ pos (2 ^ m)) → ⊥)
    → FitsSigned w128 (x *ℤ pos (2 ^ n)) → ⊥
lacks-part x n m low out f =
    let whole : m + (n - m) ≡ n = omega arith in
    let both : 2 ^ n ≡ 2 ^ m * 2 ^ (n - m) =
    ap (λ (k : ℕ). 2 ^ k) (sym whole) ∙ pow-add 2 m (n - m) in
    let Fits : ℕ → Type 0 = λ k. FitsSigned w128 (x *ℤ pos k) in
    out (fits-factor x (2 ^ m) (2 ^ (n - m)) (pow_pos (n - m)) (subst Fits both f))

-- what the code computes by a shift to the right
pub far-shift : (x : ℤ) (n : ℕ) → FitsSigned w128 x → 127 < n
    → to_z w128 (of_z w128 (shr_z (to_z w128 (of_z w128 x)) (2 ^ 127)))
    ≡ int_div_euclid x (pos (2 ^ n))
far-shift x n f far =
    let q : FitsSigned w128 (shr_z x (2 ^ 127)) = shr-fits x (2 ^ 127) f in
    ap (λ (z : ℤ). to_z w128 (of_z w128 (shr_z z (2 ^ 127)))) (to_z-of_z w128 x f)
    ∙ (to_z-of_z w128 (shr_z x (2 ^ 127)) q ∙ far-quotient x n f (omega arith))

pub near-shift : (x : ℤ) (n : ℕ) → FitsSigned w128 x
    → to_z w128 (of_z w128 (shr_z (to_z w128 (of_z w128 x)) (2 ^ n)))
    ≡ int_div_euclid x (pos (2 ^ n))
near-shift x n f =
    let q : FitsSigned w128 (shr_z x (2 ^ n)) = shr-fits x (2 ^ n) f in
    ap (λ (z : ℤ). to_z w128 (of_z w128 (shr_z z (2 ^ n)))) (to_z-of_z w128 x f)
    ∙ (to_z-of_z w128 (shr_z x (2 ^ n)) q ∙ floor-quotient x (2 ^ n))

-- what the code computes by a shift of 1 to the left
pub one-shift : (n : ℕ) → n < 127 → to_z w128 (1 * 2 ^ n % 2 ^ 128) ≡ pos (2 ^ n)
one-shift n low =
    let high : 2 ^ n ≤ 2 ^ 126 = pow_mono {i = n} {j = 126} (omega arith) in
    let small : 1 * 2 ^ n < 2 ^ 128 = omega arith in
    let one : 1 * 2 ^ n ≡ 2 ^ n = omega arith in
    let fits : 2 ^ n < 2 ^ 127 = omega arith in
    ap (to_z w128) (mod-eq_of_lt {n = 1 * 2 ^ n} {m = 2 ^ 128} small ∙ one)
    ∙ to_z_pos w128 (2 ^ n) fits
