-- Patterns whose variables are bound in front, with other numbers for the variables.
use Rattle.std.proofs.Common.{◌≡◌, ◌+◌, ◌<◌, ◌≤◌, ℕ, zero, suc, Bool, true, false}
use Rattle.std.proofs.Common.{refl, sym, ◌∙◌, ap, subst, arith, ltb, ltb-true, ltb-false, eq-eqb}
use Rattle.std.proofs.Common.{ne_eqb, eqb-true}
use Rattle.std.proofs.Common as std
use Rattle.std.specs.Prelude.{◌==◌, ◌&&◌, ◌||◌, slice_index_or}
use Rattle.std.proofs.lemmas.Bool.{false≢true}
use Rattle.ml_pat.specs.Patterns.{Pattern, Quantifier, nullary, unary, binary, sorted, quantified}
use Rattle.ml_pat.specs.Patterns.{var, meta, constant}
use Rattle.ml_pat.specs.Judgements.{fresh, absent}
use Rattle.ml_pat.specs.Leaves.{LeafFacts, EachLeaf}
use Rattle.ml_pat.proofs.LeafLaws.{both_true}
use Rattle.ml_kernel.specs.Renamings.{renamed, Renames, by_place}
use Rattle.prove_term.specs.Raised.{in_front, variables_below, IsBoundInFront, raised, numbers_from}

-- ---- which variables are in a pattern

-- one of the parts, if not both are true
by_part : {P : Type 0} (a b : Bool) → (a && b) ≡ false → (a ≡ false → P) → (b ≡ false → P) → P
by_part true b h first second = second h
by_part false b h first second = first refl

same_number : (x y : ℕ) → std.not (x == y) ≡ false → x ≡ y
same_number x y h = go (x == y) refl h
  where
    go : (b : Bool) → (x == y) ≡ b → std.not b ≡ false → x ≡ y
    go true e k = eqb-true x y e
    go false e k = absurd (false≢true (sym k))

-- a variable that occurs has its fact
pub occurring : (f : LeafFacts) (x : ℕ) (p : Pattern) → absent x p ≡ false → EachLeaf f p
    → f.object x
occurring f x (nullary c) a h = absurd (false≢true (sym a))
occurring f x (binary c p q) a h =
    by_part (absent x p) (absent x q) a (λ e. occurring f x p e h.0) (λ e. occurring f x q e h.1)
occurring f x (unary c p) a h = occurring f x p a h
occurring f x (sorted c p s) a h = occurring f x p a h.0
occurring f x (quantified c y s p) a h =
    by_part (std.not (x == y)) (absent x p) a
    (λ e. subst f.object (sym (same_number x y e)) h.1.0) (λ e. occurring f x p e h.0)
occurring f x (var y) a h = subst f.object (sym (same_number x y a)) h
occurring f x (meta i) a h = absurd (false≢true (sym a))
occurring f x (constant c) a h = absurd (false≢true (sym a))

other_number : (x y : ℕ) → y < x → (x == y) ≡ false
other_number x y less = ne_eqb x y (λ same. omega (arith, less, same))

or_right : (a b : Bool) → b ≡ true → (a || b) ≡ true
or_right true b h = refl
or_right false b h = h

-- a greater number is no variable of the pattern
pub fresh_above : (n x : ℕ) (p : Pattern) → n ≤ x → EachLeaf (variables_below n) p
    → fresh x p ≡ true
fresh_above n x (nullary c) above h = refl
fresh_above n x (binary c p q) above h =
    both_true (fresh x p) (fresh x q) (fresh_above n x p above h.0) (fresh_above n x q above h.1)
fresh_above n x (unary c p) above h = fresh_above n x p above h
fresh_above n x (sorted c p s) above h = fresh_above n x p above h.0
fresh_above n x (quantified c y s p) above h =
    or_right (x == y) (fresh x p) (fresh_above n x p above h.0)
fresh_above n x (var y) above h = ap std.not (other_number x y (omega (arith, above, h)))
fresh_above n x (meta i) above h = refl
fresh_above n x (constant c) above h = refl

-- if the pattern below has no free variable above j, then j is the only one, and the quantifier
-- binds it
pub fresh_under : (c : Quantifier) (j s : ℕ) (p : Pattern)
    → ((x : ℕ) → j + 1 ≤ x → fresh x p ≡ true) → (x : ℕ) → j ≤ x
    → fresh x (quantified c j s p) ≡ true
fresh_under c j s p under x above = go (ltb j x) refl
  where
    go : (b : Bool) → ltb j x ≡ b → ((x == j) || fresh x p) ≡ true
    go true e = or_right (x == j) (fresh x p) (under x (omega (arith, ltb-true j x e)))
    go false e =
        ap (λ (b : Bool). b || fresh x p)
        (eq-eqb x j (omega (arith, above, ltb-false j x e)))

-- ---- renaming

-- what renames the variables of a pattern in the same way has the same result
pub renamed_alike : (f g : ℕ → ℕ) (n : ℕ) (p : Pattern) → ((x : ℕ) → x < n → f x ≡ g x)
    → EachLeaf (variables_below n) p → renamed f p ≡ renamed g p
renamed_alike f g n (nullary c) same h = refl
renamed_alike f g n (binary c p q) same h =
    ap (λ (r : Pattern). binary c r (renamed f q)) (renamed_alike f g n p same h.0)
    ∙ ap (binary c (renamed g p)) (renamed_alike f g n q same h.1)
renamed_alike f g n (unary c p) same h = ap (unary c) (renamed_alike f g n p same h)
renamed_alike f g n (sorted c p s) same h =
    ap (λ (r : Pattern). sorted c r s) (renamed_alike f g n p same h.0)
renamed_alike f g n (quantified c x s p) same h =
    ap (λ (y : ℕ). quantified c y s (renamed f p)) (same x h.1.0)
    ∙ ap (quantified c (g x) s) (renamed_alike f g n p same h.0)
renamed_alike f g n (var x) same h = ap (λ (y : ℕ). var y) (same x h)
renamed_alike f g n (meta i) same h = refl
renamed_alike f g n (constant c) same h = refl

-- the number at a place
pub number_at_place : (k n x d : ℕ) → x < n → slice_index_or (numbers_from k n) x d ≡ k + x
number_at_place k zero x d low = absurd (omega (arith, low))
number_at_place k (suc n) zero d low = omega arith
number_at_place k (suc n) (suc x) d low =
    let further : k + 1 + x ≡ k + suc x = omega arith in
    number_at_place (k + 1) n x d (omega (arith, low)) ∙ further

at_place : (k n x : ℕ) → x < n → by_place (numbers_from k n) x ≡ k + x
at_place k n x low = number_at_place k n x x low

pub renamed_raises : (k : ℕ) (p : Pattern) → IsBoundInFront p
    → renamed (by_place (numbers_from k (in_front p))) p ≡ raised k p
renamed_raises k p h =
    renamed_alike (by_place (numbers_from k (in_front p))) (λ x. k + x) (in_front p) p
    (at_place k (in_front p)) h.numbers

-- the new numbers may be given to the pattern
pub raises : (k : ℕ) (p : Pattern) → IsBoundInFront p
    → Renames (by_place (numbers_from k (in_front p))) p
    (renamed (by_place (numbers_from k (in_front p))) p)
raises k p h =
    let n : ℕ = in_front p in
    let low : (x : ℕ) → absent x p ≡ false → x < in_front p =
    λ x there. occurring (variables_below (in_front p)) x p there h.numbers in
    record {
      result = refl;
      one_to_one = λ x y there there' same. omega (
        arith,
        same,
        at_place k (in_front p) x (low x there),
        at_place k (in_front p) y (low y there'),
      );
      keeps_free = λ x free. absurd (false≢true (sym free ∙ h.closed x));
    }

-- ---- what renaming keeps

-- the leaves of a renamed pattern
pub renamed_leaves : (f : LeafFacts) (to : ℕ → ℕ) (p : Pattern) → ((x : ℕ) → f.object x)
    → EachLeaf f p → EachLeaf f (renamed to p)
renamed_leaves f to (nullary c) all h = tt
renamed_leaves f to (binary c p q) all h =
    (renamed_leaves f to p all h.0, renamed_leaves f to q all h.1)
renamed_leaves f to (unary c p) all h = renamed_leaves f to p all h
renamed_leaves f to (sorted c p s) all h = (renamed_leaves f to p all h.0, h.1)
renamed_leaves f to (quantified c x s p) all h =
    (renamed_leaves f to p all h.0, (all (to x), h.1.1))
renamed_leaves f to (var x) all h = all (to x)
renamed_leaves f to (meta i) all h = h
renamed_leaves f to (constant c) all h = h
