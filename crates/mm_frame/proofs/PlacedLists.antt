-- Lists of hypotheses with their places, appended, searched and added to.
use Rattle.std.proofs.Common.{◌≡◌, ℕ, zero, suc, ◌+◌, ◌<◌, ◌≤◌, Bool, true, false, List, [], ◌∷◌}
use Rattle.std.proofs.Common.{◌++◌, length, refl, ap, sym, ◌∙◌, arith}
use Rattle.std.specs.Prelude.{nat_eq, nat_lt, ◌||◌, if◌then◌else◌, Option, Some, None, slice_get}
use Rattle.std.proofs.lemmas.Bool.{lt-ltb, le-ltb, ltb-true, ltb-false, eqb-true, eqb-false, ne_eqb}
use Rattle.mm_frame.specs.Numbered.{NumberedHypothesis}
use Rattle.mm_frame.specs.PlacedHypotheses.{Placed, hypotheses_placed}
use Rattle.mm_frame.specs.PlacedOrder.{placed_at, find_placed, AllBelow, AllFrom, AllUpTo, HasPlace}
use Rattle.mm_frame.specs.PlacedOrder.{has_place, IsAhead, IsAscending}

pub from-weaker : (m n : ℕ) (ps : List Placed) → m ≤ n → AllFrom n ps → AllFrom m ps
from-weaker m n [] le all = tt
from-weaker m n (p ∷ ps) le all =
    (let from : n ≤ p.0 = all.0 in omega arith, from-weaker m n ps le all.1)

pub from-append : (n : ℕ) (ps qs : List Placed) → AllFrom n ps → AllFrom n qs → AllFrom n (ps ++ qs)
from-append n [] qs first second = second
from-append n (p ∷ ps) qs first second = (first.0, from-append n ps qs first.1 second)

pub up_to-append : (n : ℕ) (ps qs : List Placed) → AllUpTo n ps → AllUpTo n qs
    → AllUpTo n (ps ++ qs)
up_to-append n [] qs first second = second
up_to-append n (p ∷ ps) qs first second = (first.0, up_to-append n ps qs first.1 second)

pub below-has : (n q : ℕ) (ps : List Placed) → AllBelow n ps → HasPlace ps q → q < n
below-has n q [] all has = absurd (cc)
below-has n q (p ∷ ps) all has = go (nat_eq p.0 q) refl has (λ rest. below-has n q ps all.1 rest)
  where
    go : (b : Bool) → nat_eq p.0 q ≡ b → (b || has_place ps q) ≡ true → (HasPlace ps q → q < n)
        → q < n
    go true is h rest =
        let same : p.0 ≡ q = eqb-true p.0 q is in let low : p.0 < n = all.0 in omega arith
    go false is h rest = rest h

pub from-has : (n q : ℕ) (ps : List Placed) → AllFrom n ps → HasPlace ps q → n ≤ q
from-has n q [] all has = absurd (cc)
from-has n q (p ∷ ps) all has = go (nat_eq p.0 q) refl has (λ rest. from-has n q ps all.1 rest)
  where
    go : (b : Bool) → nat_eq p.0 q ≡ b → (b || has_place ps q) ≡ true → (HasPlace ps q → n ≤ q)
        → n ≤ q
    go true is h rest =
        let same : p.0 ≡ q = eqb-true p.0 q is in let high : n ≤ p.0 = all.0 in omega arith
    go false is h rest = rest h

below-up_to : (n m : ℕ) (ps : List Placed) → n ≤ m → AllBelow n ps → AllUpTo m ps
below-up_to n m [] le all = tt
below-up_to n m (p ∷ ps) le all =
    (let low : p.0 < n = all.0 in omega arith, below-up_to n m ps le all.1)

pub up_to-below : (m n : ℕ) (ps : List Placed) → m < n → AllUpTo m ps → AllBelow n ps
up_to-below m n [] lt all = tt
up_to-below m n (p ∷ ps) lt all =
    (let low : p.0 ≤ m = all.0 in omega arith, up_to-below m n ps lt all.1)

pub first-fork : (split f : ℕ) (low high : List Placed) → AllBelow split low → AllFrom split high
    → AllFrom f low → HasPlace low f → AllFrom f (low ++ high)
first-fork split f low high below from all has =
    let less = below-has split f low below has in
    from-append f low high all (from-weaker f split high (omega (arith, less)) from)

pub last-fork : (split l : ℕ) (low high : List Placed) → AllBelow split low → AllFrom split high
    → AllUpTo l high → HasPlace high l → AllUpTo l (low ++ high)
last-fork split l low high below from all has =
    up_to-append l low high (below-up_to split l low (from-has split l high from has) below) all

pub ahead-less : (l f : ℕ) (low high : List Placed) → IsAhead low high → HasPlace low l
    → HasPlace high f → l < f
ahead-less l f [] high ahead last first = absurd (cc)
ahead-less l f (p ∷ ps) high ahead last first =
    go (nat_eq p.0 l) refl last (λ rest. ahead-less l f ps high ahead.1 rest first)
  where
    go : (b : Bool) → nat_eq p.0 l ≡ b → (b || has_place ps l) ≡ true → (HasPlace ps l → l < f)
        → l < f
    go true is h rest =
        let same : p.0 ≡ l = eqb-true p.0 l is in
        let from = from-has (p.0 + 1) f high ahead.0 first in omega (arith, from)
    go false is h rest = rest h

-- nothing is found where no place is
pub none-from : (n q : ℕ) (ps : List Placed) → AllFrom n ps → q < n → find_placed ps q ≡ None
none-from n q [] all lt = refl
none-from n q (p ∷ ps) all lt =
    let from : n ≤ p.0 = all.0 in
    let other : nat_eq p.0 q ≡ false = ne_eqb p.0 q (λ e. omega (arith, e)) in
    ap (λ (b : Bool). if b then Some p.1 else find_placed ps q) other ∙ none-from n q ps all.1 lt

pub find-low : (split q : ℕ) (low high : List Placed) → AllFrom split high → q < split
    → find_placed (low ++ high) q ≡ find_placed low q
find-low split q [] high from lt = none-from split q high from lt
find-low split q (p ∷ ps) high from lt =
    ap (λ (o : Option NumberedHypothesis). if nat_eq p.0 q then Some p.1 else o)
    (find-low split q ps high from lt)

pub find-high : (split q : ℕ) (low high : List Placed) → AllBelow split low → split ≤ q
    → find_placed (low ++ high) q ≡ find_placed high q
find-high split q [] high below le = refl
find-high split q (p ∷ ps) high below le =
    let low : p.0 < split = below.0 in
    let other : nat_eq p.0 q ≡ false = ne_eqb p.0 q (λ e. omega (arith, e)) in
    ap (λ (b : Bool). if b then Some p.1 else find_placed (ps ++ high) q) other
    ∙ find-high split q ps high below.1 le

-- one more, before all others, after them, and among them

abbrev one_of : ℕ → NumberedHypothesis → Placed → List Placed → List Placed → Bool → Bool
    → List Placed
one_of place h p ps rest before same =
    if before then (place, h) ∷ (p ∷ ps) else if same then (place, h) ∷ ps else p ∷ rest

pub placed-front : (f place : ℕ) (h : NumberedHypothesis) (ps : List Placed) → AllFrom f ps
    → place < f → placed_at place h ps ≡ (place, h) ∷ ps
placed-front f place h [] all lt = refl
placed-front f place h (p ∷ ps) all lt =
    let from : f ≤ p.0 = all.0 in
    ap (λ (b : Bool). one_of place h p ps (placed_at place h ps) b (nat_eq p.0 place))
    (lt-ltb place p.0 (omega arith))

after-one : (place : ℕ) (h : NumberedHypothesis) (p : Placed) (ps rest : List Placed) → p.0 < place
    → one_of place h p ps rest (nat_lt place p.0) (nat_eq p.0 place) ≡ p ∷ rest
after-one place h p ps rest lt =
    ap (λ (b : Bool). one_of place h p ps rest b (nat_eq p.0 place))
    (le-ltb place p.0 (omega arith))
    ∙ ap (λ (b : Bool). one_of place h p ps rest false b) (ne_eqb p.0 place (λ e. omega (arith, e)))

pub placed-back : (place : ℕ) (h : NumberedHypothesis) (ps : List Placed) → AllBelow place ps
    → placed_at place h ps ≡ ps ++ (place, h) ∷ []
placed-back place h [] all = refl
placed-back place h (p ∷ ps) all =
    after-one place h p ps (placed_at place h ps) all.0
    ∙ ap (λ (qs : List Placed). p ∷ qs) (placed-back place h ps all.1)

pub placed-high : (split place : ℕ) (h : NumberedHypothesis) (low high : List Placed)
    → AllBelow split low → split ≤ place
    → placed_at place h (low ++ high) ≡ low ++ placed_at place h high
placed-high split place h [] high below le = refl
placed-high split place h (p ∷ ps) high below le =
    let low : p.0 < split = below.0 in
    after-one place h p (ps ++ high) (placed_at place h (ps ++ high)) (omega arith)
    ∙ ap (λ (qs : List Placed). p ∷ qs) (placed-high split place h ps high below.1 le)

pub placed-low : (split place : ℕ) (h : NumberedHypothesis) (low high : List Placed)
    → AllFrom split high → place < split
    → placed_at place h (low ++ high) ≡ placed_at place h low ++ high
placed-low split place h [] high from lt = placed-front split place h high from lt
placed-low split place h (p ∷ ps) high from lt =
    go (nat_lt place p.0) (nat_eq p.0 place) (placed-low split place h ps high from lt)
  where
    go : (b c : Bool) → placed_at place h (ps ++ high) ≡ placed_at place h ps ++ high
        → one_of place h p (ps ++ high) (placed_at place h (ps ++ high)) b c
        ≡ one_of place h p ps (placed_at place h ps) b c ++ high
    go true c e = refl
    go false true e = refl
    go false false e = ap (λ (qs : List Placed). p ∷ qs) e

pub below-placed : (split place : ℕ) (h : NumberedHypothesis) (ps : List Placed) → place < split
    → AllBelow split ps → AllBelow split (placed_at place h ps)
below-placed split place h [] lt all = (lt, tt)
below-placed split place h (p ∷ ps) lt all =
    go (nat_lt place p.0) (nat_eq p.0 place) (below-placed split place h ps lt all.1)
  where
    go : (b c : Bool) → AllBelow split (placed_at place h ps)
        → AllBelow split (one_of place h p ps (placed_at place h ps) b c)
    go true c rest = (lt, all)
    go false true rest = (lt, all.1)
    go false false rest = (all.0, rest)

pub from-placed : (split place : ℕ) (h : NumberedHypothesis) (ps : List Placed) → split ≤ place
    → AllFrom split ps → AllFrom split (placed_at place h ps)
from-placed split place h [] le all = (le, tt)
from-placed split place h (p ∷ ps) le all =
    go (nat_lt place p.0) (nat_eq p.0 place) (from-placed split place h ps le all.1)
  where
    go : (b c : Bool) → AllFrom split (placed_at place h ps)
        → AllFrom split (one_of place h p ps (placed_at place h ps) b c)
    go true c rest = (le, all)
    go false true rest = (le, all.1)
    go false false rest = (all.0, rest)

pub first-ahead : (place : ℕ) (h : NumberedHypothesis) (ps : List Placed) → AllFrom (place + 1) ps
    → IsAhead ((place, h) ∷ []) ps
first-ahead place h ps all = (all, tt)

pub ahead-last : (place : ℕ) (h : NumberedHypothesis) (ps : List Placed) → AllBelow place ps
    → IsAhead ps ((place, h) ∷ [])
ahead-last place h [] all = tt
ahead-last place h (p ∷ ps) all =
    ((let low : p.0 < place = all.0 in omega arith, tt), ahead-last place h ps all.1)

-- places ascend with one more
pub ascending-placed : (place : ℕ) (h : NumberedHypothesis) (ps : List Placed) → IsAscending ps
    → IsAscending (placed_at place h ps)
ascending-placed place h [] up = (tt, tt)
ascending-placed place h (p ∷ ps) up =
    go (nat_lt place p.0) (nat_eq p.0 place) refl refl (ascending-placed place h ps up.1)
  where
    go : (b c : Bool) → nat_lt place p.0 ≡ b → nat_eq p.0 place ≡ c
        → IsAscending (placed_at place h ps)
        → IsAscending (one_of place h p ps (placed_at place h ps) b c)
    go true c before same rest =
        let lt : place < p.0 = ltb-true place p.0 before in
        ((omega arith, from-weaker (place + 1) (p.0 + 1) ps (omega arith) up.0), up)
    go false true before same rest =
        let is : p.0 ≡ place = eqb-true p.0 place same in
        (from-weaker (place + 1) (p.0 + 1) ps (omega arith) up.0, up.1)
    go false false before same rest =
        let le : p.0 ≤ place = ltb-false place p.0 before in
        let other : p.0 ≡ place → ⊥ = eqb-false p.0 place same in
        (from-placed (p.0 + 1) place h ps (omega (arith, other)) up.0, rest)

-- it is found at its place, and the others at theirs
pub find-placed : (place q : ℕ) (h : NumberedHypothesis) (ps : List Placed)
    → find_placed (placed_at place h ps) q ≡ (if nat_eq place q then Some h else find_placed ps q)
find-placed place q h [] = refl
find-placed place q h (p ∷ ps) =
    go (nat_lt place p.0) (nat_eq p.0 place) (nat_eq place q) (nat_eq p.0 q) refl refl refl
    (find-placed place q h ps)
  where
    go : (b c d e : Bool) → nat_eq p.0 place ≡ c → nat_eq place q ≡ d → nat_eq p.0 q ≡ e
        → find_placed (placed_at place h ps) q
        ≡ (if nat_eq place q then Some h else find_placed ps q)
        → find_placed (one_of place h p ps (placed_at place h ps) b c) q
        ≡ (if d then Some h else if e then Some p.1 else find_placed ps q)
    go true c d e same here there rest =
        ap (λ (x : Bool). if x then Some h else if nat_eq p.0 q then Some p.1 else find_placed ps q)
        here
        ∙ ap (λ (x : Bool). if d then Some h else if x then Some p.1 else find_placed ps q)
        there
    go false true true e same here there rest =
        ap (λ (x : Bool). if x then Some h else find_placed ps q) here
    go false true false true same here there rest =
        absurd (let is : p.0 ≡ place = eqb-true p.0 place same in
        let also : p.0 ≡ q = eqb-true p.0 q there in
        let other : place ≡ q → ⊥ = eqb-false place q here in other (sym is ∙ also))
    go false true false false same here there rest =
        ap (λ (x : Bool). if x then Some h else find_placed ps q) here
    go false false true true same here there rest =
        absurd (let other : p.0 ≡ place → ⊥ = eqb-false p.0 place same in
        other (eqb-true p.0 q there ∙ sym (eqb-true place q here)))
    go false false true false same here there rest =
        ap (λ (x : Bool). if x then Some p.1 else find_placed (placed_at place h ps) q) there ∙ rest
        ∙ ap (λ (x : Bool). if x then Some h else find_placed ps q) here
    go false false false true same here there rest =
        ap (λ (x : Bool). if x then Some p.1 else find_placed (placed_at place h ps) q) there
    go false false false false same here there rest =
        ap (λ (x : Bool). if x then Some p.1 else find_placed (placed_at place h ps) q) there ∙ rest
        ∙ ap (λ (x : Bool). if x then Some h else find_placed ps q) here

-- and with others after a place
pub ascending-append : (split : ℕ) (ps qs : List Placed) → AllBelow split ps → AllFrom split qs
    → IsAscending ps → IsAscending qs → IsAscending (ps ++ qs)
ascending-append split [] qs below from up more = more
ascending-append split (p ∷ ps) qs below from up more =
    let low : p.0 < split = below.0 in (
      from-append (p.0 + 1) ps qs up.0 (from-weaker (p.0 + 1) split qs (omega arith) from),
      ascending-append split ps qs below.1 from up.1 more,
    )

-- by number

pub nth-low : (low high : List Placed) (n : ℕ) → n < length low
    → slice_get (hypotheses_placed (low ++ high)) n ≡ slice_get (hypotheses_placed low) n
nth-low [] high n lt = absurd (omega (arith, lt))
nth-low (p ∷ ps) high zero lt = refl
nth-low (p ∷ ps) high (suc n) lt = nth-low ps high n (omega (arith, lt))

pub nth-high : (low high : List Placed) (n m : ℕ) → n ≡ length low + m
    → slice_get (hypotheses_placed (low ++ high)) n ≡ slice_get (hypotheses_placed high) m
nth-high [] high n m is =
    let same : n ≡ m = omega (arith, is) in ap (slice_get (hypotheses_placed high)) same
nth-high (p ∷ ps) high zero m is = absurd (omega (arith, is))
nth-high (p ∷ ps) high (suc n) m is = nth-high ps high n m (omega (arith, is))
