-- The pattern that the code computes when it replaces a variable, compared with its definition.
use Rattle.std.proofs.Common.{◌≡◌, ◌==◌, ◌||◌, ◌&&◌, ℕ, Bool, true, false, cond, Option, Some, None}
use Rattle.std.proofs.Common.{option_map, refl, sym, ◌∙◌, ap, subst}
use Rattle.std.proofs.Common as std
use Rattle.ml_pat.specs.Patterns.{Pattern, unary, binary, sorted, quantified, or, var}
use Rattle.ml_pat.specs.Judgements.{fresh, substituted, both_parts, under_quantifier}
use Rattle.ml_pat.specs.SpinePart.{spine_part}
use Rattle.ml_pat.specs.Spines.{with_parts}
use Rattle.ml_pat.specs.Replacing.{both_replaced, one_replaced, under_replaced, replaced, around}
use Rattle.ml_pat.specs.declared.substitution.SubstitutionResult.{SubstitutionResult}
use Rattle.ml_pat.specs.declared.substitution.SubstitutionResult.TheVariants.{Kept, New, Captured}
use Rattle.ml_pat.proofs.LeafLaws.{split_true, not_true}
use Rattle.ml_pat.proofs.SpineLaws.{some_same, none_some}

two_same : (f : Pattern → Pattern → Pattern) (p q : Pattern) (a b : Option Pattern) → a ≡ Some p
    → b ≡ Some q → both_parts f a b ≡ Some (f p q)
two_same f p q a b e g = rw (e, g) refl

bound_same : (f : Pattern → Pattern) (x y : ℕ) (u p : Pattern) (a : Option Pattern)
    → ((x == y) || fresh x p) ≡ true → under_quantifier f x y u p a ≡ Some (f p)
bound_same f x y u p a h = rw h refl

-- substitution does not change a pattern in which the variable is not free
pub substituted-fresh : (x : ℕ) (u p : Pattern) → fresh x p ≡ true → substituted p x u ≡ Some p
substituted-fresh x u (binary c p q) h =
    let b : (fresh x p ≡ true) × (fresh x q ≡ true) = split_true (fresh x p) (fresh x q) h in
    two_same (binary c) p q _ _ (substituted-fresh x u p b.0) (substituted-fresh x u q b.1)
substituted-fresh x u (unary c p) h = ap (option_map (unary c)) (substituted-fresh x u p h)
substituted-fresh x u (sorted c p s) h =
    ap (option_map (λ (r : Pattern). sorted c r s)) (substituted-fresh x u p h)
substituted-fresh x u (quantified c y s p) h = bound_same (quantified c y s) x y u p _ h
substituted-fresh x u (var y) h = rw (not_true (x == y) h) refl
substituted-fresh x u p h = refl

-- Either the variable is not free and the pattern is kept, or the variable is free and there is a
-- new pattern or none.
abbrev pub IsOutcome : Bool → Option Pattern → SubstitutionResult → Type 0
IsOutcome b o Kept = b ≡ true
IsOutcome b o (New r) = (b ≡ false) × (o ≡ Some r)
IsOutcome b o Captured = (b ≡ false) × (o ≡ None)

and_false : (b : Bool) → (b && false) ≡ false
and_false true = refl
and_false false = refl

two : (f : Pattern → Pattern → Pattern) (p q : Pattern) (b d : Bool) (m n : Option Pattern)
    (v w : SubstitutionResult) → (b ≡ true → m ≡ Some p) → (d ≡ true → n ≡ Some q)
    → IsOutcome b m v → IsOutcome d n w
    → IsOutcome (b && d) (both_parts f m n) (both_replaced f p q v w)
two f p q b d m n Kept Kept g k h i = rw (h, i) refl
two f p q b d m n Kept (New t) g k h i = (rw (h, i.0) refl, rw (g h, i.1) refl)
two f p q b d m n Kept Captured g k h i = (rw (h, i.0) refl, rw (g h, i.1) refl)
two f p q b d m n (New r) Kept g k h i = (rw h.0 refl, rw (h.1, k i) refl)
two f p q b d m n (New r) (New t) g k h i = (rw h.0 refl, rw (h.1, i.1) refl)
two f p q b d m n (New r) Captured g k h i = (rw h.0 refl, rw (h.1, i.1) refl)
two f p q b d m n Captured Kept g k h i = (rw h.0 refl, rw h.1 refl)
two f p q b d m n Captured (New t) g k h i = (rw h.0 refl, rw h.1 refl)
two f p q b d m n Captured Captured g k h i = (rw h.0 refl, rw h.1 refl)

one : (f : Pattern → Pattern → Pattern) (g : Pattern → Pattern) (b : Bool) (m : Option Pattern)
    (v : SubstitutionResult) → ((r : Pattern) → f r r ≡ g r) → IsOutcome b m v
    → IsOutcome b (option_map g m) (one_replaced f v)
one f g b m Kept k h = h
one f g b m (New r) k h = (h.0, ap (option_map g) h.1 ∙ ap (λ (t : Pattern). Some t) (sym (k r)))
one f g b m Captured k h = (h.0, ap (option_map g) h.1)

-- d: the quantifier's variable is not free in the replacement; e: it is the variable that is
-- replaced
bound : (f : Pattern → Pattern → Pattern) (g : Pattern → Pattern) (b d e : Bool) (p : Pattern)
    (m : Option Pattern) (v : SubstitutionResult) → ((r : Pattern) → f r r ≡ g r)
    → IsOutcome b m v
    → IsOutcome (e || b) (cond (e || b) (Some (g p)) (cond d (option_map g m) None))
    (cond e Kept (under_replaced f d v))
bound f g b d true p m v k h = refl
bound f g b d false p m Kept k h = h
bound f g b true false p m (New r) k h =
    (h.0, rw h.0 (ap (option_map g) h.1 ∙ ap (λ (t : Pattern). Some t) (sym (k r))))
bound f g b false false p m (New r) k h = (h.0, rw h.0 refl)
bound f g b true false p m Captured k h = (h.0, rw h.0 (ap (option_map g) h.1))
bound f g b false false p m Captured k h = (h.0, rw h.0 refl)

variable : (b : Bool) (u : Pattern) (y : ℕ)
    → IsOutcome (std.not b) (cond b (Some u) (Some (var y))) (cond b (New u) Kept)
variable true u y = (refl, refl)
variable false u y = refl

pub replaced-law : (x : ℕ) (u p : Pattern)
    → IsOutcome (fresh x p) (substituted p x u) (replaced x u p)
replaced-law x u (binary c p q) =
    two (with_parts (binary c p q)) p q _ _ _ _ (replaced x u p) (replaced x u q)
    (substituted-fresh x u p) (substituted-fresh x u q) (replaced-law x u p)
    (replaced-law x u q)
replaced-law x u (unary c p) =
    one (with_parts (unary c p)) (unary c) _ _ (replaced x u p) (λ (r : Pattern). refl)
    (replaced-law x u p)
replaced-law x u (sorted c p s) =
    one (with_parts (sorted c p s)) (λ (r : Pattern). sorted c r s) _ _ (replaced x u p)
    (λ (r : Pattern). refl) (replaced-law x u p)
replaced-law x u (quantified c y s p) =
    bound (with_parts (quantified c y s p)) (quantified c y s) (fresh x p) (fresh y u) (x == y) p
    (substituted p x u)
    (replaced x u p) (λ (r : Pattern). refl) (replaced-law x u p)
replaced-law x u (var y) = variable (x == y) u y
replaced-law x u p = refl

-- the outcome of the whole is built around the outcome of the part along the spine
pub around-replaced : (x : ℕ) (u r p : Pattern) → spine_part r ≡ Some p
    → around x u (replaced x u p) r ≡ replaced x u r
around-replaced x u (or q t) p h =
    ap (λ (r : Pattern). around x u (replaced x u r) (or q t)) (sym (some_same t p h))
around-replaced x u (binary c t q) p h =
    ap (λ (r : Pattern). around x u (replaced x u r) (binary c t q)) (sym (some_same t p h))
around-replaced x u (unary c t) p h =
    ap (λ (r : Pattern). around x u (replaced x u r) (unary c t)) (sym (some_same t p h))
around-replaced x u (sorted c t s) p h =
    ap (λ (r : Pattern). around x u (replaced x u r) (sorted c t s)) (sym (some_same t p h))
around-replaced x u (quantified c y s t) p h =
    ap (λ (r : Pattern). around x u (replaced x u r) (quantified c y s t)) (sym (some_same t p h))
around-replaced x u r p h = absurd (none_some p h)

-- if there is no such part, its outcome is not used
pub around-lowest : (x : ℕ) (u p : Pattern) (v : SubstitutionResult) → spine_part p ≡ None
    → around x u v p ≡ replaced x u p
around-lowest x u (or q t) v h = absurd (none_some t (sym h))
around-lowest x u (binary c t q) v h = absurd (none_some t (sym h))
around-lowest x u (unary c t) v h = absurd (none_some t (sym h))
around-lowest x u (sorted c t s) v h = absurd (none_some t (sym h))
around-lowest x u (quantified c y s t) v h = absurd (none_some t (sym h))
around-lowest x u p v h = refl

-- the result for each outcome
pub of_kept : (x : ℕ) (u p : Pattern) → replaced x u p ≡ Kept → substituted p x u ≡ Some p
of_kept x u p e =
    substituted-fresh x u p
    (subst (IsOutcome (fresh x p) (substituted p x u)) e (replaced-law x u p))

pub of_new : (x : ℕ) (u p r : Pattern) → replaced x u p ≡ New r → substituted p x u ≡ Some r
of_new x u p r e = (subst (IsOutcome (fresh x p) (substituted p x u)) e (replaced-law x u p)).1

pub of_captured : (x : ℕ) (u p : Pattern) → replaced x u p ≡ Captured → substituted p x u ≡ None
of_captured x u p e = (subst (IsOutcome (fresh x p) (substituted p x u)) e (replaced-law x u p)).1
