-- The heads of the injection of a variable.
use Rattle.std.proofs.Common.{◌≡◌, ◌<◌, ◌≤◌, ◌+◌, ℕ, Bool, true, false, List, refl, sym, ◌∙◌, ap}
use Rattle.std.proofs.Common.{eq-eqb, nat_lt, arith}
use Rattle.std.specs.Prelude.{◌==◌, ◌&&◌, ◌||◌}
use Rattle.std.proofs.lemmas.Bool.{eqb-true, lt-ltb, le-ltb, ltb-true, ltb-false, false≢true}
use Rattle.rule_core.specs.Subsorts.{is_below, IsBelow}
use Rattle.rule_core.proofs.Belows.{is_below-true}
use Rattle.term_core.specs.Patterns.{Pattern, variable}
use Rattle.pat_matrix.specs.Heads.{PlainHead, of_value, of_constructor, of_injection, head_eq}
use Rattle.pat_matrix.specs.Heads.{lowers, injection_takes, lower_takes}

or_true : (b : Bool) → (b || true) ≡ true
or_true true = refl
or_true false = refl

or_false : (b : Bool) → (b || false) ≡ b
or_false true = refl
or_false false = refl

-- a test of numbers in the other direction
turned : (a b : ℕ) → (a == b) ≡ (b == a)
turned a b = told (a == b) refl where
  other : (t : Bool) → (b == a) ≡ t → (a == b) ≡ false → false ≡ t
  other false e is = refl
  other true e is = absurd (false≢true (sym is ∙ eq-eqb a b (sym (eqb-true b a e))))

  told : (t : Bool) → (a == b) ≡ t → (a == b) ≡ (b == a)
  told true e = e ∙ sym (eq-eqb b a (sym (eqb-true a b e)))
  told false e = e ∙ other (b == a) refl e ∙ refl

pub or_assoc : (a b c : Bool) → ((a || b) || c) ≡ (a || (b || c))
or_assoc true b c = refl
or_assoc false b c = refl

pub lower_takes-zero : (pairs : List (ℕ × ℕ)) (b d : ℕ) (h : PlainHead)
    → lower_takes pairs 0 b d h ≡ false
lower_takes-zero pairs b d (of_value s v) = refl
lower_takes-zero pairs b d (of_constructor f m) = refl
lower_takes-zero pairs b d (of_injection a c) = rw (le-ltb a 0 (omega arith)) refl

lower : (a n : ℕ) → (n ≡ a → ⊥) → (b : Bool) → nat_lt a n ≡ b → nat_lt a (n + 1) ≡ (b || false)
lower a n other true e = lt-ltb a (n + 1) (omega (arith, ltb-true a n e))
lower a n other false e =
    let most : n ≤ a = ltb-false a n e in
    le-ltb a (n + 1) (omega (arith, other))

-- the numbers below n + 1 are those below n, and n
pub below_next : (a n : ℕ) → nat_lt a (n + 1) ≡ (nat_lt a n || n == a)
below_next a n = told (n == a) refl where
  told : (b : Bool) → (n == a) ≡ b → nat_lt a (n + 1) ≡ (nat_lt a n || n == a)
  told true e =
      let same : n ≡ a = eqb-true n a e in
      lt-ltb a (n + 1) (omega arith) ∙ sym (or_true (nat_lt a n))
      ∙ ap (λ (b : Bool). nat_lt a n || b) (sym e)
  told false e =
      lower a n (λ same. false≢true (sym e ∙ eq-eqb n a same)) (nat_lt a n) refl
      ∙ ap (λ (b : Bool). nat_lt a n || b) (sym e)

spread : (x y z t : Bool) → (((x || y) && z) && t) ≡ (((x && z) && t) || (y && (z && t)))
spread true y z true = told y z where
  told : (y z : Bool) → (z && true) ≡ ((z && true) || (y && (z && true)))
  told true true = refl
  told true false = refl
  told false true = refl
  told false false = refl
spread true true true false = refl
spread true true false false = refl
spread true false true false = refl
spread true false false false = refl
spread false true true t = refl
spread false true false t = refl
spread false false z t = refl

-- one more sort
pub lower_takes-next : (pairs : List (ℕ × ℕ)) (n b d : ℕ) (h : PlainHead) (below : Bool)
    → is_below pairs n b ≡ below
    → lower_takes pairs (n + 1) b d h
    ≡ (lower_takes pairs n b d h || (below && head_eq (of_injection n d) h))
lower_takes-next pairs n b d (of_value s v) true e = refl
lower_takes-next pairs n b d (of_value s v) false e = refl
lower_takes-next pairs n b d (of_constructor f m) true e = refl
lower_takes-next pairs n b d (of_constructor f m) false e = refl
lower_takes-next pairs n b d (of_injection a c) below e =
    ap (λ (x : Bool). (x && is_below pairs a b) && (d == c)) (below_next a n)
    ∙ spread (nat_lt a n) (n == a) (is_below pairs a b) (d == c)
    ∙ ap (λ (x : Bool). lower_takes pairs n b d (of_injection a c) || x)
    (same (n == a) refl) where
      crossed : (x y : Bool) → (x && y) ≡ (x && (true && y))
      crossed true y = refl
      crossed false y = refl

      dropped : (x : Bool) → false ≡ (x && false)
      dropped true = refl
      dropped false = refl

      same : (t : Bool) → (n == a) ≡ t
          → ((n == a) && (is_below pairs a b && (d == c))) ≡ (below && ((n == a) && (d == c)))
      same true is =
          let one : n ≡ a = eqb-true n a is in
          let own : is_below pairs a b ≡ below =
          ap (λ (m : ℕ). is_below pairs m b) (sym one) ∙ e in
          rw (is, own) refl
      same false is = rw is (dropped below)

-- the heads of the injection of a variable: its own, and those from lower sorts
pub variable_takes : (pairs : List (ℕ × ℕ)) (n b c x : ℕ) (h : PlainHead)
    → ((a t : ℕ) → IsBelow pairs a t → a < n)
    → injection_takes pairs b c (variable x) h
    ≡ (head_eq (of_injection b c) h || lower_takes pairs n b c h)
variable_takes pairs n b c x (of_value s v) sorts = refl
variable_takes pairs n b c x (of_constructor f m) sorts = refl
variable_takes pairs n b c x (of_injection a d) sorts =
    ap (λ (y : Bool). (c == d) && (y || is_below pairs a b)) (turned a b)
    ∙ shared (b == a) (c == d) (nat_lt a n) (is_below pairs a b) within where
      within : is_below pairs a b ≡ true → nat_lt a n ≡ true
      within e = lt-ltb a n (sorts a b (is_below-true pairs a b e))

      shared : (s t l u : Bool) → (u ≡ true → l ≡ true)
          → (t && (s || u)) ≡ ((s && t) || ((l && u) && t))
      shared true true l u h = refl
      shared true false true true h = refl
      shared true false true false h = refl
      shared true false false true h = refl
      shared true false false false h = refl
      shared false true true true h = refl
      shared false true true false h = refl
      shared false true false true h = sym (h refl)
      shared false true false false h = refl
      shared false false true true h = refl
      shared false false true false h = refl
      shared false false false u h = refl

-- the heads of the injection of another pattern: its own
pub other_takes : (pairs : List (ℕ × ℕ)) (b c : ℕ) (p : Pattern) (h : PlainHead)
    → ((a : ℕ) → lowers pairs a b p ≡ false)
    → injection_takes pairs b c p h ≡ head_eq (of_injection b c) h
other_takes pairs b c p (of_value s v) none = refl
other_takes pairs b c p (of_constructor f m) none = refl
other_takes pairs b c p (of_injection a d) none =
    rw (none a, turned a b) (swapped (b == a) (c == d)) where
      swapped : (s t : Bool) → (t && (s || false)) ≡ (s && t)
      swapped true true = refl
      swapped true false = refl
      swapped false true = refl
      swapped false false = refl
