-- The fault that is kept of a set of faults is the first of them.
use Rattle.std.proofs.Common.{◌≡◌, ℕ, zero, suc, ◌<◌, ◌≤◌, Bool, true, false, cond, List, [], ◌∷◌}
use Rattle.std.proofs.Common.{length, get_or, Option, Some, None, refl, sym, ◌∙◌, arith, subst, ◌⊎◌}
use Rattle.std.proofs.Common.{inl, inr}
use Rattle.std.specs.Prelude.{Contains, nat_lt, nat_le, ◌==◌, ◌||◌, ◌&&◌}
use Rattle.std.proofs.lemmas.Bool.Decides.{Decides-ltb, Decides-eqb}
use Rattle.std.proofs.lemmas.Bool.{leb-true, le-leb}
use Rattle.kore_sig.specs.FirstFault.{Fault, ByByte, ByNumber, IsFirstBy}
use Rattle.kore_sig.specs.Noted.{leads_by_byte, leads_by_number, kept, noted}

-- ---- items of a list

pub contains_here : {X : Type 0} (x : X) (xs : List X) → Contains (x ∷ xs) x
contains_here x xs = (0, omega arith, refl)

pub contains_there : {X : Type 0} (x y : X) (xs : List X) → Contains xs y → Contains (x ∷ xs) y
contains_there x y xs h = (suc h.0, (let lt = h.1 in omega arith), h.2)

cons_cases : {X : Type 0} (x y : X) (xs : List X) (k : ℕ) → k < length (x ∷ xs)
    → get_or (x ∷ xs) k y ≡ y → (x ≡ y) ⊎ Contains xs y
cons_cases x y xs zero lt is = inl is
cons_cases x y xs (suc k) lt is = inr (k, omega arith, is)

pub contains_cases : {X : Type 0} (x y : X) (xs : List X) → Contains (x ∷ xs) y
    → (x ≡ y) ⊎ Contains xs y
contains_cases x y xs h = cons_cases x y xs h.0 h.1 h.2

pub contains_none : {X : Type 0} (y : X) → Contains [] y → ⊥
contains_none y h = let lt : h.0 < 0 = h.1 in omega arith

-- ---- orders that a test decides

pub record IsOrder (leads : Fault → Fault → Bool) (Leads : Fault → Fault → Type 0) : Type 0 where
  pub decides : (f g : Fault) → leads f g ≡ true → Leads f g
  pub total : (f g : Fault) → leads f g ≡ false → Leads g f
  pub trans : (f g h : Fault) → Leads f g → Leads g h → Leads f h
  pub same : (f : Fault) → Leads f f

-- Two sets have the same first fault if the first set is part of the second, and each fault of the
-- second is led by one of the first.
widen : {leads : Fault → Fault → Bool} {Leads : Fault → Fault → Type 0}
    (order : IsOrder leads Leads) (P Q : Fault → Type 0) (o : Option Fault)
    → ((g : Fault) → P g → Q g) → ((g : Fault) → Q g → (h : Fault) × P h × Leads h g)
    → IsFirstBy Leads P o → IsFirstBy Leads Q o
widen order P Q None into led first = λ g q. first (led g q).0 (led g q).1
widen order P Q (Some f) into led first = (
  into f first.0,
  λ g q. order.trans f (led g q).0 g (first.1 (led g q).0 (led g q).1) (led g q).2,
)

abbrev KeptOr : Option Fault → List Fault → Fault → Type 0
KeptOr r fs g = (r ≡ Some g) ⊎ Contains fs g

kept_into : (leads : Fault → Fault → Bool) (b : Bool) (f x : Fault) (xs : List Fault) (g : Fault)
    → cond b (Some f) (Some x) ≡ Some g → KeptOr (Some f) (x ∷ xs) g
kept_into leads true f x xs g e = inl e
kept_into leads false f x xs g e =
    let same : x ≡ g = cc in inr (subst (Contains (x ∷ xs)) same (contains_here x xs))

into : (leads : Fault → Fault → Bool) (r : Option Fault) (x : Fault) (xs : List Fault) (g : Fault)
    → KeptOr (kept leads r x) xs g → KeptOr r (x ∷ xs) g
into leads None x xs g (inl e) =
    let same : x ≡ g = cc in inr (subst (Contains (x ∷ xs)) same (contains_here x xs))
into leads (Some f) x xs g (inl e) = kept_into leads (leads f x) f x xs g e
into leads r x xs g (inr h) = inr (contains_there x g xs h)

abbrev Led : (Fault → Fault → Type 0) → (Fault → Type 0) → Fault → Type 0
Led Leads P g = (h : Fault) × P h × Leads h g

-- the one that is kept of two faults leads both
led_first : {leads : Fault → Fault → Bool} {Leads : Fault → Fault → Type 0}
    (order : IsOrder leads Leads) (b : Bool) (f x : Fault) (xs : List Fault) → leads f x ≡ b
    → Led Leads (KeptOr (cond b (Some f) (Some x)) xs) f
led_first order true f x xs e = (f, inl refl, order.same f)
led_first order false f x xs e = (x, inl refl, order.total f x e)

led_second : {leads : Fault → Fault → Bool} {Leads : Fault → Fault → Type 0}
    (order : IsOrder leads Leads) (b : Bool) (f x : Fault) (xs : List Fault) → leads f x ≡ b
    → Led Leads (KeptOr (cond b (Some f) (Some x)) xs) x
led_second order true f x xs e = (f, inl refl, order.decides f x e)
led_second order false f x xs e = (x, inl refl, order.same x)

led_new : {leads : Fault → Fault → Bool} {Leads : Fault → Fault → Type 0}
    (order : IsOrder leads Leads) (r : Option Fault) (x : Fault) (xs : List Fault)
    → Led Leads (KeptOr (kept leads r x) xs) x
led_new order None x xs = (x, inl refl, order.same x)
led_new {leads = leads} order (Some f) x xs = led_second order (leads f x) f x xs refl

led_old : {leads : Fault → Fault → Bool} {Leads : Fault → Fault → Type 0}
    (order : IsOrder leads Leads) (r : Option Fault) (x : Fault) (xs : List Fault) (g : Fault)
    → r ≡ Some g → Led Leads (KeptOr (kept leads r x) xs) g
led_old order None x xs g e = absurd (let never : ⊥ = cc in never)
led_old {leads = leads} {Leads = Leads} order (Some f) x xs g e =
    let same : f ≡ g = cc in
    subst (Led Leads (KeptOr (kept leads (Some f) x) xs)) same
    (led_first order (leads f x) f x xs refl)

led_item : {leads : Fault → Fault → Bool} {Leads : Fault → Fault → Type 0}
    (order : IsOrder leads Leads) (r : Option Fault) (x : Fault) (xs : List Fault) (g : Fault)
    → (x ≡ g) ⊎ Contains xs g → Led Leads (KeptOr (kept leads r x) xs) g
led_item {leads = leads} {Leads = Leads} order r x xs g (inl e) =
    subst (Led Leads (KeptOr (kept leads r x) xs)) e (led_new order r x xs)
led_item order r x xs g (inr h) = (g, inr h, order.same g)

led : {leads : Fault → Fault → Bool} {Leads : Fault → Fault → Type 0} (order : IsOrder leads Leads)
    (r : Option Fault) (x : Fault) (xs : List Fault) (g : Fault) → KeptOr r (x ∷ xs) g
    → Led Leads (KeptOr (kept leads r x) xs) g
led order r x xs g (inl e) = led_old order r x xs g e
led order r x xs g (inr h) = led_item order r x xs g (contains_cases x g xs h)

first_of_one : {leads : Fault → Fault → Bool} {Leads : Fault → Fault → Type 0}
    (order : IsOrder leads Leads) (r : Option Fault) → IsFirstBy Leads (KeptOr r []) r
first_of_one order None =
    λ g h. elim h [ inl e ↦ (let never : ⊥ = cc in never) | inr i ↦ contains_none g i ]
first_of_one {Leads = Leads} order (Some f) = (
  inl refl,
  λ g h. elim h [
    | inl e ↦
        (let same : f ≡ g = cc in subst (Leads f) same (order.same f))
    | inr i ↦ absurd (contains_none g i)
  ],
)

pub first_noted : {leads : Fault → Fault → Bool} {Leads : Fault → Fault → Type 0}
    (order : IsOrder leads Leads) (r : Option Fault) (fs : List Fault)
    → IsFirstBy Leads (KeptOr r fs) (noted leads r fs)
first_noted order r [] = first_of_one order r
first_noted {leads = leads} order r (x ∷ xs) =
    widen order (KeptOr (kept leads r x) xs) (KeptOr r (x ∷ xs)) (noted leads (kept leads r x) xs)
    (into leads r x xs) (led order r x xs) (first_noted order (kept leads r x) xs)

unkept : (Leads : Fault → Fault → Type 0) (fs : List Fault) (o : Option Fault)
    → IsFirstBy Leads (KeptOr None fs) o → IsFirstBy Leads (Contains fs) o
unkept Leads fs None first = λ g h. first g (inr h)
unkept Leads fs (Some f) first = (
  elim first.0 [ inl e ↦ absurd (let never : ⊥ = cc in never) | inr h ↦ h ],
  λ g h. first.1 g (inr h),
)

-- the fault that is kept of a list is its first
pub first_of_list : {leads : Fault → Fault → Bool} {Leads : Fault → Fault → Type 0}
    (order : IsOrder leads Leads) (fs : List Fault)
    → IsFirstBy Leads (Contains fs) (noted leads None fs)
first_of_list {leads = leads} {Leads = Leads} order fs =
    unkept Leads fs (noted leads None fs) (first_noted order None fs)

-- ---- the two orders

or_cases : (a b c : Bool) → (a || (b && c)) ≡ true → (a ≡ true) ⊎ ((b ≡ true) × (c ≡ true))
or_cases true b c e = inl refl
or_cases false true c e = inr (refl, e)
or_cases false false c e = absurd (let never : ⊥ = cc in never)

or_false : (a b c : Bool) → (a || (b && c)) ≡ false → (a ≡ true → ⊥) × ((b ≡ true) × (c ≡ true) → ⊥)
or_false true b c e = absurd (let never : ⊥ = cc in never)
or_false false true true e = absurd (let never : ⊥ = cc in never)
or_false false true false e =
    (λ h. (let never : ⊥ = cc in never), λ h. (let never : ⊥ = cc h.1 in never))
or_false false false c e =
    (λ h. (let never : ⊥ = cc in never), λ h. (let never : ⊥ = cc h.0 in never))

-- the order of pairs of numbers by the first number, and then by the second
abbrev Lexical : ℕ → ℕ → ℕ → ℕ → Type 0
Lexical a b c d = (a < c) ⊎ ((a ≡ c) × (b ≤ d))

lexical_true : (a b c d : ℕ) → (nat_lt a c || ((a == c) && nat_le b d)) ≡ true → Lexical a b c d
lexical_true a b c d e =
    elim (or_cases (nat_lt a c) (a == c) (nat_le b d) e) [
      | inl h ↦ inl ((Decides-ltb a c).0 h)
      | inr h ↦ inr ((Decides-eqb a c).0 h.0, leb-true b d h.1)
    ]

flip_by : (a b c d : ℕ) (r : Bool) → nat_lt c a ≡ r → (a < c → ⊥) → ((a ≡ c) × (b ≤ d) → ⊥)
    → Lexical c d a b
flip_by a b c d true e not_less not_same = inl ((Decides-ltb c a).0 e)
flip_by a b c d false e not_less not_same =
    let not_more : c < a → ⊥ =
    λ h. (let told = (Decides-ltb c a).1 h in let never : ⊥ = cc in never) in
    let same : a ≡ c = omega (arith, not_less, not_more) in
    let not_le : b ≤ d → ⊥ = λ h. not_same (same, h) in
    inr (sym same, omega (arith, not_le))

lexical_flip : (a b c d : ℕ) → (a < c → ⊥) → ((a ≡ c) × (b ≤ d) → ⊥) → Lexical c d a b
lexical_flip a b c d not_less not_same = flip_by a b c d (nat_lt c a) refl not_less not_same

lexical_false : (a b c d : ℕ) → (nat_lt a c || ((a == c) && nat_le b d)) ≡ false → Lexical c d a b
lexical_false a b c d e =
    let parts = or_false (nat_lt a c) (a == c) (nat_le b d) e in
    lexical_flip a b c d (λ h. parts.0 ((Decides-ltb a c).1 h))
    (λ h. parts.1 ((Decides-eqb a c).1 h.0, le-leb b d h.1))

lexical_trans : (a b c d e f : ℕ) → Lexical a b c d → Lexical c d e f → Lexical a b e f
lexical_trans a b c d e f (inl h) (inl k) = inl (omega arith)
lexical_trans a b c d e f (inl h) (inr k) = inl (let s = k.0 in omega arith)
lexical_trans a b c d e f (inr h) (inl k) = inl (let s = h.0 in omega arith)
lexical_trans a b c d e f (inr h) (inr k) =
    inr (h.0 ∙ k.0, (let s = h.1 in let t = k.1 in omega arith))

pub by_number : IsOrder leads_by_number ByNumber
by_number = record {
  decides = λ f g. lexical_true f.number f.byte g.number g.byte;
  total = λ f g. lexical_false f.number f.byte g.number g.byte;
  trans = λ f g h. lexical_trans f.number f.byte g.number g.byte h.number h.byte;
  same = λ f. inr (refl, omega arith);
}

pub by_byte : IsOrder leads_by_byte ByByte
by_byte = record {
  decides = λ f g. lexical_true f.byte f.number g.byte g.number;
  total = λ f g. lexical_false f.byte f.number g.byte g.number;
  trans = λ f g h. lexical_trans f.byte f.number g.byte g.number h.byte h.number;
  same = λ f. inr (refl, omega arith);
}
