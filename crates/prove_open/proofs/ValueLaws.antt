-- Patterns with other patterns in place of their variables, all at once.
use Rattle.std.proofs.Common.{◌≡◌, ◌==◌, ◌||◌, ◌&&◌, ◌+◌, ◌<◌, ◌≤◌, ℕ, zero, suc, Bool, true}
use Rattle.std.proofs.Common.{false, cond, List, [], ◌∷◌, ◌++◌, Option, Some, None, option_map, map}
use Rattle.std.proofs.Common.{length, refl, sym, ◌∙◌, ap, arith, eq-eqb}
use Rattle.std.proofs.Common as std
use Rattle.std.proofs.lemmas.Bool.{eqb-true}
use Rattle.ml_pat.specs.Patterns.{Pattern, nullary, unary, binary, sorted, quantified, var, meta}
use Rattle.ml_pat.specs.Patterns.{app, constant, and}
use Rattle.ml_pat.specs.Judgements.{fresh, absent, substituted, both_parts}
use Rattle.ml_pat.proofs.ReplacingLaws.{substituted-fresh}
use Rattle.prove_term.specs.Applications.{applied_to}
use Rattle.prove_term.specs.Numbered.{variables_from, pairs_from}
use Rattle.prove_open.specs.Values.{at_values, values_from, IsOpenBelow, AreOpenBelow, BindsFrom}
use Rattle.prove_open.specs.Values.{given_from, paired}

-- ---- numbers

pub not_equal : (m n : ℕ) → (m ≡ n → ⊥) → (m == n) ≡ false
not_equal m n other = go (m == n) refl
  where
    go : (b : Bool) → (m == n) ≡ b → b ≡ false
    go true is = absurd (other (eqb-true m n is))
    go false is = refl

below_other : (x k : ℕ) → x < k → k ≡ x → ⊥
below_other x k low same = absurd (omega (arith, low, same))

above_other : (x k : ℕ) → k < x → k ≡ x → ⊥
above_other x k low same = absurd (omega (arith, low, same))

both_true : (a b : Bool) → a ≡ true → b ≡ true → (a && b) ≡ true
both_true a b h k = rw (h, k) refl

-- ---- open patterns

pub fresh-below : (k y : ℕ) (p : Pattern) → IsOpenBelow k p → k ≤ y → fresh y p ≡ true
fresh-below k y (nullary c) h le = refl
fresh-below k y (binary c p q) h le =
    both_true (fresh y p) (fresh y q) (fresh-below k y p h.0 le) (fresh-below k y q h.1 le)
fresh-below k y (unary c p) h le = fresh-below k y p h le
fresh-below k y (sorted c p s) h le = fresh-below k y p h le
fresh-below k y (quantified c x s p) h le = absurd h
fresh-below k y (var x) h le =
    ap std.not (not_equal y x (λ same. below_other x y (omega (arith, h, le)) same))
fresh-below k y (meta i) h le = refl
fresh-below k y (constant c) h le = refl

pub absent-below : (k y : ℕ) (p : Pattern) → IsOpenBelow k p → k ≤ y → absent y p ≡ true
absent-below k y (nullary c) h le = refl
absent-below k y (binary c p q) h le =
    both_true (absent y p) (absent y q) (absent-below k y p h.0 le) (absent-below k y q h.1 le)
absent-below k y (unary c p) h le = absent-below k y p h le
absent-below k y (sorted c p s) h le = absent-below k y p h le
absent-below k y (quantified c x s p) h le = absurd h
absent-below k y (var x) h le =
    ap std.not (not_equal y x (λ same. below_other x y (omega (arith, h, le)) same))
absent-below k y (meta i) h le = refl
absent-below k y (constant c) h le = refl

pub open_further : (k m : ℕ) (p : Pattern) → k ≤ m → IsOpenBelow k p → IsOpenBelow m p
open_further k m (nullary c) le h = tt
open_further k m (binary c p q) le h = (open_further k m p le h.0, open_further k m q le h.1)
open_further k m (unary c p) le h = open_further k m p le h
open_further k m (sorted c p s) le h = open_further k m p le h
open_further k m (quantified c x s p) le h = absurd h
open_further k m (var x) le h = omega (arith, le, h)
open_further k m (meta i) le h = tt
open_further k m (constant c) le h = tt

pub all_open_further : (k m : ℕ) (ps : List Pattern) → k ≤ m → AreOpenBelow k ps
    → AreOpenBelow m ps
all_open_further k m [] le h = tt
all_open_further k m (p ∷ ps) le h =
    (open_further k m p le h.0, all_open_further k m ps le h.1)

pub all_open_joined : (k : ℕ) (ps qs : List Pattern) → AreOpenBelow k ps → AreOpenBelow k qs
    → AreOpenBelow k (ps ++ qs)
all_open_joined k [] qs h i = i
all_open_joined k (p ∷ ps) qs h i = (h.0, all_open_joined k ps qs h.1 i)

pub open_applied : (k : ℕ) (head : Pattern) (ps : List Pattern) → IsOpenBelow k head
    → AreOpenBelow k ps → IsOpenBelow k (applied_to head ps)
open_applied k head [] h i = h
open_applied k head (p ∷ ps) h i = open_applied k (app head p) ps (h, i.0) i.1

pub binds_nothing : (k m : ℕ) (p : Pattern) → IsOpenBelow k p → BindsFrom m p
binds_nothing k m (nullary c) h = tt
binds_nothing k m (binary c p q) h = (binds_nothing k m p h.0, binds_nothing k m q h.1)
binds_nothing k m (unary c p) h = binds_nothing k m p h
binds_nothing k m (sorted c p s) h = binds_nothing k m p h
binds_nothing k m (quantified c x s p) h = absurd h
binds_nothing k m (var x) h = tt
binds_nothing k m (meta i) h = tt
binds_nothing k m (constant c) h = tt

pub binds_less : (k m : ℕ) (p : Pattern) → k ≤ m → BindsFrom m p → BindsFrom k p
binds_less k m (nullary c) le h = tt
binds_less k m (binary c p q) le h = (binds_less k m p le h.0, binds_less k m q le h.1)
binds_less k m (unary c p) le h = binds_less k m p le h
binds_less k m (sorted c p s) le h = binds_less k m p le h
binds_less k m (quantified c x s p) le h = (omega (arith, le, h.0), binds_less k m p le h.1)
binds_less k m (var x) le h = tt
binds_less k m (meta i) le h = tt
binds_less k m (constant c) le h = tt

-- ---- values

two_same : (f : Pattern → Pattern → Pattern) (p q r t : Pattern) → p ≡ r → q ≡ t → f p q ≡ f r t
two_same f p q r t e k = ap (λ (a : Pattern). f a q) e ∙ ap (f r) k

pub values_same : (e f : ℕ → Pattern) (p : Pattern) → ((y : ℕ) → e y ≡ f y)
    → at_values e p ≡ at_values f p
values_same e f (nullary c) h = refl
values_same e f (binary c p q) h =
    two_same (binary c) (at_values e p) (at_values e q) (at_values f p) (at_values f q)
    (values_same e f p h) (values_same e f q h)
values_same e f (unary c p) h = ap (unary c) (values_same e f p h)
values_same e f (sorted c p s) h = ap (λ (r : Pattern). sorted c r s) (values_same e f p h)
values_same e f (quantified c y s p) h = ap (quantified c y s) (values_same e f p h)
values_same e f (var y) h = h y
values_same e f (meta i) h = refl
values_same e f (constant c) h = refl

pub values_twice : (e f : ℕ → Pattern) (p : Pattern)
    → at_values e (at_values f p) ≡ at_values (λ y. at_values e (f y)) p
values_twice e f (nullary c) = refl
values_twice e f (binary c p q) =
    let g : ℕ → Pattern = λ y. at_values e (f y) in
    two_same (binary c) (at_values e (at_values f p)) (at_values e (at_values f q))
    (at_values g p) (at_values g q) (values_twice e f p) (values_twice e f q)
values_twice e f (unary c p) = ap (unary c) (values_twice e f p)
values_twice e f (sorted c p s) = ap (λ (r : Pattern). sorted c r s) (values_twice e f p)
values_twice e f (quantified c y s p) = ap (quantified c y s) (values_twice e f p)
values_twice e f (var y) = refl
values_twice e f (meta i) = refl
values_twice e f (constant c) = refl

pub values_of_variables : (p : Pattern) → at_values (λ y. var y) p ≡ p
values_of_variables (nullary c) = refl
values_of_variables (binary c p q) =
    two_same (binary c) (at_values (λ y. var y) p) (at_values (λ y. var y) q) p q
    (values_of_variables p) (values_of_variables q)
values_of_variables (unary c p) = ap (unary c) (values_of_variables p)
values_of_variables (sorted c p s) = ap (λ (r : Pattern). sorted c r s) (values_of_variables p)
values_of_variables (quantified c y s p) = ap (quantified c y s) (values_of_variables p)
values_of_variables (var y) = refl
values_of_variables (meta i) = refl
values_of_variables (constant c) = refl

pub value_below : (k y : ℕ) (qs : List Pattern) → y < k → values_from k qs y ≡ var y
value_below k y [] low = refl
value_below k y (q ∷ qs) low =
    ap (λ (b : Bool). cond b q (values_from (k + 1) qs y))
    (not_equal k y (λ same. below_other y k low same))
    ∙ value_below (k + 1) y qs (omega (arith, low))

pub value_here : (k : ℕ) (q : Pattern) (qs : List Pattern) → values_from k (q ∷ qs) k ≡ q
value_here k q qs = ap (λ (b : Bool). cond b q (values_from (k + 1) qs k)) (eq-eqb k k refl)

pub value_later : (k y : ℕ) (q : Pattern) (qs : List Pattern) → k < y
    → values_from k (q ∷ qs) y ≡ values_from (k + 1) qs y
value_later k y q qs low =
    ap (λ (b : Bool). cond b q (values_from (k + 1) qs y))
    (not_equal k y (λ same. above_other y k low same))

pub value_above : (k y : ℕ) (qs : List Pattern) → k + length qs ≤ y → values_from k qs y ≡ var y
value_above k y [] le = refl
value_above k y (q ∷ qs) le =
    value_later k y q qs (omega (arith, le)) ∙ value_above (k + 1) y qs (omega (arith, le))

-- values leave what has only variables below them
pub values_below : (k : ℕ) (qs : List Pattern) (p : Pattern) → IsOpenBelow k p
    → at_values (values_from k qs) p ≡ p
values_below k qs (nullary c) h = refl
values_below k qs (binary c p q) h =
    two_same (binary c) (at_values (values_from k qs) p) (at_values (values_from k qs) q) p q
    (values_below k qs p h.0) (values_below k qs q h.1)
values_below k qs (unary c p) h = ap (unary c) (values_below k qs p h)
values_below k qs (sorted c p s) h =
    ap (λ (r : Pattern). sorted c r s) (values_below k qs p h)
values_below k qs (quantified c y s p) h = absurd h
values_below k qs (var y) h = value_below k y qs h
values_below k qs (meta i) h = refl
values_below k qs (constant c) h = refl

-- the first value, and then the others
one_by_one : (k y : ℕ) (q : Pattern) (qs : List Pattern) → IsOpenBelow k q
    → at_values (values_from (k + 1) qs) (values_from k (q ∷ []) y) ≡ values_from k (q ∷ qs) y
one_by_one k y q qs h = go (k == y)
  where
    go : (b : Bool) → at_values (values_from (k + 1) qs) (cond b q (var y))
        ≡ cond b q (values_from (k + 1) qs y)
    go true = values_below (k + 1) qs q (open_further k (k + 1) q (omega arith) h)
    go false = refl

pub values_one_by_one : (k : ℕ) (q : Pattern) (qs : List Pattern) (p : Pattern) → IsOpenBelow k q
    → at_values (values_from (k + 1) qs) (at_values (values_from k (q ∷ [])) p)
    ≡ at_values (values_from k (q ∷ qs)) p
values_one_by_one k q qs p h =
    values_twice (values_from (k + 1) qs) (values_from k (q ∷ [])) p
    ∙ values_same (λ y. at_values (values_from (k + 1) qs) (values_from k (q ∷ []) y))
    (values_from k (q ∷ qs)) p (λ y. one_by_one k y q qs h)

value_binds : (m k y : ℕ) (q : Pattern) → IsOpenBelow k q → BindsFrom m (values_from k (q ∷ []) y)
value_binds m k y q h = go (k == y)
  where
    go : (b : Bool) → BindsFrom m (cond b q (var y))
    go true = binds_nothing k m q h
    go false = tt

pub values_bind : (m k : ℕ) (q p : Pattern) → IsOpenBelow k q → BindsFrom m p
    → BindsFrom m (at_values (values_from k (q ∷ [])) p)
values_bind m k q (nullary c) h i = tt
values_bind m k q (binary c p r) h i = (values_bind m k q p h i.0, values_bind m k q r h i.1)
values_bind m k q (unary c p) h i = values_bind m k q p h i
values_bind m k q (sorted c p s) h i = values_bind m k q p h i
values_bind m k q (quantified c y s p) h i = (i.0, values_bind m k q p h i.1)
values_bind m k q (var y) h i = value_binds m k y q h
values_bind m k q (meta j) h i = tt
values_bind m k q (constant c) h i = tt

-- ---- substitution

two_put : (f : Pattern → Pattern → Pattern) (p q : Pattern) (a b : Option Pattern) → a ≡ Some p
    → b ≡ Some q → both_parts f a b ≡ Some (f p q)
two_put f p q a b e g = rw (e, g) refl

some_same : (p q : Pattern) → Some p ≡ Some q → p ≡ q
some_same p q h = cc

-- d: the variable is not free in p; e: the bound variable is not free in the replacement
bound_put : (f : Pattern → Pattern) (b d e : Bool) (p q : Pattern) (a : Option Pattern)
    → b ≡ false → e ≡ true → a ≡ Some q → (d ≡ true → p ≡ q)
    → cond (b || d) (Some (f p)) (cond e (option_map f a) None) ≡ Some (f q)
bound_put f true d e p q a o h g k = absurd (false_true (sym o))
  where
    false_true : false ≡ true → ⊥
    false_true same = cc
bound_put f false true e p q a o h g k = ap (λ (r : Pattern). Some (f r)) (k refl)
bound_put f false false e p q a o h g k = rw (h, g) refl

variable_put : (b : Bool) (u p : Pattern) → cond b (Some u) (Some p) ≡ Some (cond b u p)
variable_put true u p = refl
variable_put false u p = refl

-- what substitution makes, if all that is bound comes after the variables of the replacement
pub substituted-values : (k : ℕ) (q p : Pattern) → IsOpenBelow k q → BindsFrom (k + 1) p
    → substituted p k q ≡ Some (at_values (values_from k (q ∷ [])) p)
substituted-values k q (nullary c) h i = refl
substituted-values k q (binary c p r) h i =
    two_put (binary c) (at_values (values_from k (q ∷ [])) p) (at_values (values_from k (q ∷ [])) r)
    (substituted p k q) (substituted r k q) (substituted-values k q p h i.0)
    (substituted-values k q r h i.1)
substituted-values k q (unary c p) h i = ap (option_map (unary c)) (substituted-values k q p h i)
substituted-values k q (sorted c p s) h i =
    ap (option_map (λ (r : Pattern). sorted c r s)) (substituted-values k q p h i)
substituted-values k q (quantified c y s p) h i =
    let inner : substituted p k q ≡ Some (at_values (values_from k (q ∷ [])) p) =
    substituted-values k q p h i.1 in
    bound_put (quantified c y s) (k == y) (fresh k p) (fresh y q) p
    (at_values (values_from k (q ∷ [])) p) (substituted p k q)
    (not_equal k y (λ same. above_other y k (omega (arith, i.0)) same))
    (fresh-below k y q h (omega (arith, i.0))) inner
    (λ free. some_same p (at_values (values_from k (q ∷ [])) p)
    (sym (substituted-fresh k q p free) ∙ inner))
substituted-values k q (var y) h i = variable_put (k == y) q (var y)
substituted-values k q (meta j) h i = refl
substituted-values k q (constant c) h i = refl

-- ---- lists of variables

pub values_applied : (e : ℕ → Pattern) (head : Pattern) (ps : List Pattern)
    → at_values e (applied_to head ps) ≡ applied_to (at_values e head) (map (at_values e) ps)
values_applied e head [] = refl
values_applied e head (p ∷ ps) = values_applied e (app head p) ps

pub values_variables : (e : ℕ → Pattern) (k n : ℕ)
    → map (at_values e) (variables_from k n) ≡ given_from e k n
values_variables e k zero = refl
values_variables e k (suc n) =
    ap (λ (ps : List Pattern). e k ∷ ps) (values_variables e (k + 1) n)

pub values_pairs : (e : ℕ → Pattern) (k m n : ℕ)
    → map (at_values e) (pairs_from k m n) ≡ paired (given_from e k n) (given_from e m n)
values_pairs e k m zero = refl
values_pairs e k m (suc n) =
    ap (λ (ps : List Pattern). and (e k) (e m) ∷ ps) (values_pairs e (k + 1) (m + 1) n)

given_same : (e f : ℕ → Pattern) (k n : ℕ) → ((y : ℕ) → k ≤ y → e y ≡ f y)
    → given_from e k n ≡ given_from f k n
given_same e f k zero h = refl
given_same e f k (suc n) h =
    ap (λ (p : Pattern). p ∷ given_from e (k + 1) n) (h k (omega arith))
    ∙ ap (λ (ps : List Pattern). f k ∷ ps)
    (given_same e f (k + 1) n (λ y le. h y (omega (arith, le))))

-- the first of the values, and those after
pub given_front : (k : ℕ) (ps qs : List Pattern)
    → given_from (values_from k (ps ++ qs)) k (length ps) ≡ ps
given_front k [] qs = refl
given_front k (p ∷ ps) qs =
    ap (λ (r : Pattern). r ∷ given_from (values_from k (p ∷ (ps ++ qs))) (k + 1) (length ps))
    (value_here k p (ps ++ qs))
    ∙ ap (λ (rs : List Pattern). p ∷ rs)
    (given_same (values_from k (p ∷ (ps ++ qs))) (values_from (k + 1) (ps ++ qs)) (k + 1)
    (length ps) (λ y le. value_later k y p (ps ++ qs) (omega (arith, le)))
    ∙ given_front (k + 1) ps qs)

pub given_all : (k : ℕ) (qs : List Pattern) → given_from (values_from k qs) k (length qs) ≡ qs
given_all k [] = refl
given_all k (q ∷ qs) =
    ap (λ (r : Pattern). r ∷ given_from (values_from k (q ∷ qs)) (k + 1) (length qs))
    (value_here k q qs)
    ∙ ap (λ (rs : List Pattern). q ∷ rs)
    (given_same (values_from k (q ∷ qs)) (values_from (k + 1) qs) (k + 1) (length qs)
    (λ y le. value_later k y q qs (omega (arith, le)))
    ∙ given_all (k + 1) qs)

pub given_back : (k : ℕ) (ps qs : List Pattern)
    → given_from (values_from k (ps ++ qs)) (k + length ps) (length qs) ≡ qs
given_back k [] qs = ap (λ (m : ℕ). given_from (values_from k qs) m (length qs)) (none k)
    ∙ given_all k qs
  where
    none : (k : ℕ) → k + length {A = Pattern} [] ≡ k
    none k = omega arith
given_back k (p ∷ ps) qs =
    ap (λ (m : ℕ). given_from (values_from k (p ∷ (ps ++ qs))) m (length qs)) (one k (length ps))
    ∙ given_same (values_from k (p ∷ (ps ++ qs))) (values_from (k + 1) (ps ++ qs))
    (k + 1 + length ps) (length qs)
    (λ y le. value_later k y p (ps ++ qs) (omega (arith, le)))
    ∙ given_back (k + 1) ps qs
  where
    one : (k n : ℕ) → k + suc n ≡ k + 1 + n
    one k n = omega arith
