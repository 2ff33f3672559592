-- Groups of numbers, restricted and appended.
use Rattle.std.proofs.Common.{◌≡◌, ℕ, ◌<◌, length, Bool, true, false, not, List, [], ◌∷◌, ◌++◌}
use Rattle.std.proofs.Common.{refl, ap, sym, ◌∙◌, arith}
use Rattle.std.specs.Prelude.{◌&&◌, ◌||◌, nat_eq, filter, if◌then◌else◌}
use Rattle.std.proofs.lemmas.Bool.{eqb-true, eq-eqb}
use Rattle.std.specs.List.{list_any}
use Rattle.mm_frame.specs.PlainFrames.{has_number, in_group, in_groups}

pub list_any-append : {X : Type 0} (f : X → Bool) (xs : List X) (x : X)
    → list_any f (xs ++ x ∷ []) ≡ (list_any f xs || f x)
list_any-append f [] x = or-false (f x)
  where
    or-false : (b : Bool) → (b || false) ≡ (false || b)
    or-false true = refl
    or-false false = refl
list_any-append f (y ∷ ys) x =
    ap (λ b. f y || b) (list_any-append f ys x) ∙ or-assoc (f y) (list_any f ys) (f x)
  where
    or-assoc : (a b c : Bool) → (a || (b || c)) ≡ ((a || b) || c)
    or-assoc true b c = refl
    or-assoc false b c = refl

pub in_groups-push : (groups : List (List ℕ)) (group : List ℕ) (a b : ℕ)
    → in_groups (groups ++ group ∷ []) a b ≡ (in_groups groups a b || in_group a b group)
in_groups-push groups group a b = list_any-append (in_group a b) groups group

nothing : (b : Bool) → (b && false) ≡ false
nothing true = refl
nothing false = refl

one-number : (n a b : ℕ) (p q : Bool) → nat_eq n a ≡ p → nat_eq n b ≡ q
    → (not (nat_eq a b) && ((p || false) && (q || false))) ≡ false
one-number n a b false q e f = nothing (not (nat_eq a b))
one-number n a b true false e f = nothing (not (nat_eq a b))
one-number n a b true true e f =
    let same : nat_eq a b ≡ true = eq-eqb a b (sym (eqb-true n a e) ∙ eqb-true n b f) in
    rw same refl

-- a group with fewer than two numbers has no pair
pub short-group : (group : List ℕ) (a b : ℕ) → length group < 2 → in_group a b group ≡ false
short-group [] a b short = nothing (not (nat_eq a b))
short-group (n ∷ []) a b short = one-number n a b (nat_eq n a) (nat_eq n b) refl refl
short-group (n ∷ (m ∷ ns)) a b short = absurd (omega arith)

pub has_number-filter : (p : ℕ → Bool) (group : List ℕ) (a : ℕ)
    → has_number (filter p group) a ≡ (has_number group a && p a)
has_number-filter p [] a = refl
has_number-filter p (n ∷ group) a = step (p n) (nat_eq n a) refl refl (has_number-filter p group a)
  where
    step : (b e : Bool) → p n ≡ b → nat_eq n a ≡ e
        → has_number (filter p group) a ≡ (has_number group a && p a)
        → has_number (if b then n ∷ filter p group else filter p group) a
        ≡ ((e || has_number group a) && p a)
    step true true is same h = rw same (sym (ap p (sym (eqb-true n a same)) ∙ is))
    step true false is same h = rw same h
    step false true is same h = h
        ∙ (let no : p a ≡ false = ap p (sym (eqb-true n a same)) ∙ is in
        rw no (nothing (has_number group a)))
    step false false is same h = h
