-- The fault that is kept of those that are noted one by one. It is the first of them by byte, and
-- at the same byte by number.
use Rattle.std.proofs.Common.{◌≡◌, ◌<◌, ◌⊎◌, inl, inr, ℕ, zero, suc, Bool, true, false, List, []}
use Rattle.std.proofs.Common.{◌∷◌, ◌++◌, Option, Some, None, Contains, refl, sym, ◌∙◌, ap, subst}
use Rattle.std.proofs.Common.{arith}
use Rattle.std.specs.Prelude.{◌&&◌, ◌==◌, nat_lt, nat_le, ◌↔◌}
use Rattle.std.proofs.Common.{eq-eqb}
use Rattle.std.proofs.lemmas.Bool.{eqb-true, false≢true, ltb-true, lt-ltb, leb-true, le-leb}
use Rattle.rule_core.proofs.Belows.{either_true, both_true, true_left, true_right, true_both}
use Rattle.kore_sig.specs.FirstFault.{Fault, ByByte, IsFirstBy}
use Rattle.kore_sig.specs.Noted.{noted, kept, leads_by_byte}
use Rattle.kore_check.specs.declared.faults.PatternFault.{PatternFault}
use Rattle.kore_check.specs.FaultNumbers.{IsFirstOf}
use Rattle.kore_check.specs.Notes.{kept_fault, after}

leads-true : (f g : Fault) → leads_by_byte f g ≡ true → ByByte f g
leads-true f g h = split (either_true _ _ h) where
  tie : ((f.byte == g.byte) ≡ true) × (nat_le f.number g.number ≡ true) → ByByte f g
  tie t = inr (eqb-true _ _ t.0, leb-true _ _ t.1)

  split : (nat_lt f.byte g.byte ≡ true) ⊎ (((f.byte == g.byte) && nat_le f.number g.number) ≡ true)
      → ByByte f g
  split (inl t) = inl (ltb-true _ _ t)
  split (inr t) = tie (both_true _ _ t)

order : (m n : ℕ) → (m < n) ⊎ ((m ≡ n) ⊎ (n < m))
order m n = grind arith

leads-false : (f g : Fault) → leads_by_byte f g ≡ false → ByByte g f
leads-false f g h = by_byte (order f.byte g.byte) where
  by_number : f.byte ≡ g.byte
      → (f.number < g.number) ⊎ ((f.number ≡ g.number) ⊎ (g.number < f.number)) → ByByte g f
  by_number e (inl lt) =
      absurd (false≢true (sym h
      ∙ true_right (nat_lt f.byte g.byte) _
      (true_both _ _ (eq-eqb _ _ e) (le-leb _ _ (omega (arith, lt))))))
  by_number e (inr (inl same)) = inr (sym e, omega (arith, same))
  by_number e (inr (inr gt)) = inr (sym e, omega (arith, gt))

  by_byte : (f.byte < g.byte) ⊎ ((f.byte ≡ g.byte) ⊎ (g.byte < f.byte)) → ByByte g f
  by_byte (inl lt) =
      absurd (false≢true (sym h ∙ true_left (nat_lt f.byte g.byte) _ (lt-ltb _ _ lt)))
  by_byte (inr (inl e)) = by_number e (order f.number g.number)
  by_byte (inr (inr gt)) = inl gt

ByByte-refl : (f : Fault) → ByByte f f
ByByte-refl f = inr (refl, omega arith)

ByByte-trans : (f g h : Fault) → ByByte f g → ByByte g h → ByByte f h
ByByte-trans f g h (inl a) (inl b) = inl (omega (arith, a, b))
ByByte-trans f g h (inl a) (inr b) = inl (omega (arith, a, b.0))
ByByte-trans f g h (inr a) (inl b) = inl (omega (arith, a.0, b))
ByByte-trans f g h (inr a) (inr b) = inr (a.0 ∙ b.0, omega (arith, a.1, b.1))

ByByte-antisym : (f g : Fault) → ByByte f g → ByByte g f → f ≡ g
ByByte-antisym f g (inl a) (inl b) = absurd (omega (arith, a, b))
ByByte-antisym f g (inl a) (inr b) = absurd (omega (arith, a, b.0))
ByByte-antisym f g (inr a) (inl b) = absurd (omega (arith, a.0, b))
ByByte-antisym f g (inr a) (inr b) =
    let number : f.number ≡ g.number = omega (arith, a.1, b.1) in
    ap (λ (n : ℕ). record { number = n; byte = f.byte }) number
    ∙ ap (λ (n : ℕ). record { number = g.number; byte = n }) a.0

pub contains_here : (xs : List Fault) (x : Fault) → Contains (x ∷ xs) x
contains_here xs x = (0, omega arith, refl)

pub contains_later : (xs : List Fault) (first x : Fault) → Contains xs x → Contains (first ∷ xs) x
contains_later xs first x known = (suc known.0, omega (arith, known.1), known.2)

pub contains_cases : (xs : List Fault) (first x : Fault) → Contains (first ∷ xs) x
    → (first ≡ x) ⊎ Contains xs x
contains_cases xs first x (zero, lt, is) = inl is
contains_cases xs first x (suc k, lt, is) = inr (k, omega (arith, lt), is)

pub contains_none : (x : Fault) → Contains [] x → ⊥
contains_none x (k, lt, is) = omega (arith, lt)

-- noting others after a fault that is kept leaves the first of them all
pub record Left (g : Fault) (fs : List Fault) : Type 0 where
  pub fault : Fault
  pub is : noted leads_by_byte (Some g) fs ≡ Some fault
  pub there : Contains (g ∷ fs) fault
  pub leads : (h : Fault) → Contains (g ∷ fs) h → ByByte fault h

left_by : (g f : Fault) (fs : List Fault) (t : Bool) → leads_by_byte g f ≡ t → Left g fs → Left f fs
    → Left g (f ∷ fs)
left_by g f fs true e at_g at_f = record {
  fault = at_g.fault;
  is = rw e at_g.is;
  there = among (contains_cases fs g at_g.fault at_g.there);
  leads = λ h known. told h (contains_cases (f ∷ fs) g h known);
} where
  among : (g ≡ at_g.fault) ⊎ Contains fs at_g.fault → Contains (g ∷ f ∷ fs) at_g.fault
  among (inl is) = (0, omega arith, is)
  among (inr later) = contains_later (f ∷ fs) g at_g.fault (contains_later fs f at_g.fault later)

  at_first : ByByte at_g.fault g
  at_first = at_g.leads g (contains_here fs g)

  rest : (h : Fault) → (f ≡ h) ⊎ Contains fs h → ByByte at_g.fault h
  rest h (inl is) =
      subst (λ (x : Fault). ByByte at_g.fault x) is
      (ByByte-trans at_g.fault g f at_first (leads-true g f e))
  rest h (inr later) = at_g.leads h (contains_later fs g h later)

  told : (h : Fault) → (g ≡ h) ⊎ Contains (f ∷ fs) h → ByByte at_g.fault h
  told h (inl is) = subst (λ (x : Fault). ByByte at_g.fault x) is at_first
  told h (inr later) = rest h (contains_cases fs f h later)
left_by g f fs false e at_g at_f = record {
  fault = at_f.fault;
  is = rw e at_f.is;
  there = contains_later (f ∷ fs) g at_f.fault at_f.there;
  leads = λ h known. told h (contains_cases (f ∷ fs) g h known);
} where
  told : (h : Fault) → (g ≡ h) ⊎ Contains (f ∷ fs) h → ByByte at_f.fault h
  told h (inl is) =
      subst (λ (x : Fault). ByByte at_f.fault x) is
      (ByByte-trans at_f.fault f g (at_f.leads f (contains_here fs f)) (leads-false g f e))
  told h (inr later) = at_f.leads h later

pub left : (g : Fault) (fs : List Fault) → Left g fs
left g [] = record {
  fault = g;
  is = refl;
  there = contains_here [] g;
  leads = λ h known. only h (contains_cases [] g h known);
} where
  only : (h : Fault) → (g ≡ h) ⊎ Contains [] h → ByByte g h
  only h (inl is) = subst (λ (x : Fault). ByByte g x) is (ByByte-refl g)
  only h (inr none) = absurd (contains_none h none)
left g (f ∷ fs) = left_by g f fs (leads_by_byte g f) refl (left g fs) (left f fs)

-- faults with the same items, in any order and any number of times
abbrev pub SameFaults : List Fault → List Fault → Type 0
SameFaults xs ys = (f : Fault) → Contains xs f ↔ Contains ys f

pub noted-append : (r : Option Fault) (xs ys : List Fault)
    → noted leads_by_byte r (xs ++ ys) ≡ noted leads_by_byte (noted leads_by_byte r xs) ys
noted-append r [] ys = refl
noted-append r (x ∷ xs) ys = noted-append (kept leads_by_byte r x) xs ys

-- such lists of faults leave the same first one
same_behind : (g : Fault) (xs ys : List Fault) → SameFaults (g ∷ xs) (g ∷ ys) → Left g xs
    → Left g ys → noted leads_by_byte (Some g) xs ≡ noted leads_by_byte (Some g) ys
same_behind g xs ys same p q =
    p.is
    ∙ ap (λ (f : Fault). Some f) (ByByte-antisym p.fault q.fault
    (p.leads q.fault ((same q.fault).1 q.there))
    (q.leads p.fault ((same p.fault).0 p.there))) ∙ sym q.is

same_firsts : (x y : Fault) (xs ys : List Fault) → SameFaults (x ∷ xs) (y ∷ ys) → Left x xs
    → Left y ys → noted leads_by_byte (Some x) xs ≡ noted leads_by_byte (Some y) ys
same_firsts x y xs ys same p q =
    p.is
    ∙ ap (λ (f : Fault). Some f) (ByByte-antisym p.fault q.fault
    (p.leads q.fault ((same q.fault).1 q.there))
    (q.leads p.fault ((same p.fault).0 p.there))) ∙ sym q.is

with_same : (g : Fault) (xs ys : List Fault) → SameFaults xs ys → SameFaults (g ∷ xs) (g ∷ ys)
with_same g xs ys same f =
    (λ known. to (contains_cases xs g f known), λ known. from (contains_cases ys g f known))
  where
    to : (g ≡ f) ⊎ Contains xs f → Contains (g ∷ ys) f
    to (inl is) = (0, omega arith, is)
    to (inr later) = contains_later ys g f ((same f).0 later)

    from : (g ≡ f) ⊎ Contains ys f → Contains (g ∷ xs) f
    from (inl is) = (0, omega arith, is)
    from (inr later) = contains_later xs g f ((same f).1 later)

pub noted-same : (r : Option Fault) (xs ys : List Fault) → SameFaults xs ys
    → noted leads_by_byte r xs ≡ noted leads_by_byte r ys
noted-same (Some g) xs ys same =
    same_behind g xs ys (with_same g xs ys same) (left g xs) (left g ys)
noted-same None [] [] same = refl
noted-same None [] (y ∷ ys) same = absurd (contains_none y ((same y).1 (contains_here ys y)))
noted-same None (x ∷ xs) [] same = absurd (contains_none x ((same x).0 (contains_here xs x)))
noted-same None (x ∷ xs) (y ∷ ys) same = same_firsts x y xs ys same (left x xs) (left y ys)

-- the fault that is left is the first
pub noted-first : (fs : List Fault) → IsFirstBy ByByte (Contains fs) (noted leads_by_byte None fs)
noted-first [] = contains_none
noted-first (f ∷ fs) = found (left f fs) where
  found : Left f fs → IsFirstBy ByByte (Contains (f ∷ fs)) (noted leads_by_byte (Some f) fs)
  found l = subst (IsFirstBy ByByte (Contains (f ∷ fs))) (sym l.is) (l.there, l.leads)

-- there is only one first fault
pub first-one : (fs : List Fault) (q r : Option Fault) → IsFirstBy ByByte (Contains fs) q
    → IsFirstBy ByByte (Contains fs) r → q ≡ r
first-one fs None None p q = refl
first-one fs None (Some g) p q = absurd (p g q.0)
first-one fs (Some f) None p q = absurd (q f p.0)
first-one fs (Some f) (Some g) p q =
    ap (λ (h : Fault). Some h) (ByByte-antisym f g (p.1 g q.0) (q.1 f p.0))

-- the fault that is kept of some faults and then of others is the first of all
pub first-append : (before fs : List Fault) (q : Option Fault)
    → IsFirstBy ByByte (Contains before) q
    → IsFirstBy ByByte (Contains (before ++ fs)) (noted leads_by_byte q fs)
first-append before fs q is =
    let same : q ≡ noted leads_by_byte None before =
    first-one before q (noted leads_by_byte None before) is (noted-first before) in
    let all : noted leads_by_byte None (before ++ fs) ≡ noted leads_by_byte q fs =
    noted-append None before fs ∙ ap (λ (r : Option Fault). noted leads_by_byte r fs) (sym same) in
    subst (IsFirstBy ByByte (Contains (before ++ fs))) all (noted-first (before ++ fs))

pub first-kept : (before fs : List Fault) (first second : Option PatternFault)
    → IsFirstOf before first → kept_fault second ≡ after first fs → IsFirstOf (before ++ fs) second
first-kept before fs first second is e =
    subst (IsFirstBy ByByte (Contains (before ++ fs))) (sym e)
    (first-append before fs (kept_fault first) is)
