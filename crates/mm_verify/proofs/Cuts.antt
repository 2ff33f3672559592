-- Laws on lists in pieces.
use Rattle.std.proofs.Common.{◌≡◌, ℕ, zero, suc, ◌+◌, ◌-◌, ◌<◌, ◌≤◌, List, [], ◌∷◌, ◌++◌, length}
use Rattle.std.proofs.Common.{take, drop, get_or, refl, ap, ◌∙◌, sym, subst, arith, length-append}
use Rattle.std.proofs.lemmas.List.{take-append-le, take_all, drop_at, take-take, get_or_default}
use Rattle.std.proofs.lemmas.Slice.{between_is}
use Rattle.mm_verify.specs.Cut.{cut, AreEnds, start_of}

pub AreEnds-le : (whole from : ℕ) (ends : List ℕ) → AreEnds whole from ends → from ≤ whole
AreEnds-le whole from [] h = omega (arith, h)
AreEnds-le whole from (to ∷ ends) h =
    let later = AreEnds-le whole to ends h.1 in omega (arith, h.0, later)

pub length_cut : (xs : List ℕ) (from : ℕ) (ends : List ℕ) → length (cut xs from ends) ≡ length ends
length_cut xs from [] = refl
length_cut xs from (to ∷ ends) = ap (λ (n : ℕ). suc n) (length_cut xs to ends)

pub AreEnds-push : (whole more from : ℕ) (ends : List ℕ) → whole ≤ more → AreEnds whole from ends
    → AreEnds more from (ends ++ more ∷ [])
AreEnds-push whole more from [] le h = (omega (arith, h, le), refl)
AreEnds-push whole more from (to ∷ ends) le h = (h.0, AreEnds-push whole more to ends le h.1)

-- a piece that is within the front
piece-append : (xs ys : List ℕ) (from to : ℕ) → to ≤ length xs
    → take (to - from) (drop from (xs ++ ys)) ≡ take (to - from) (drop from xs)
piece-append xs ys from to le =
    between_is (xs ++ ys) from to ∙ ap (λ (zs : List ℕ). drop from zs) (take-append-le to xs ys le)
    ∙ sym (between_is xs from to)

piece-take : (xs : List ℕ) (from to n : ℕ) → to ≤ n
    → take (to - from) (drop from (take n xs)) ≡ take (to - from) (drop from xs)
piece-take xs from to n le =
    between_is (take n xs) from to ∙ ap (λ (zs : List ℕ). drop from zs) (take-take to n xs le)
    ∙ sym (between_is xs from to)

pub cut-push : (xs ys : List ℕ) (from whole : ℕ) (ends : List ℕ) → whole ≡ length xs + length ys
    → AreEnds (length xs) from ends
    → cut (xs ++ ys) from (ends ++ whole ∷ []) ≡ cut xs from ends ++ ys ∷ []
cut-push xs ys from whole [] w h =
    let front : drop from (xs ++ ys) ≡ ys = drop_at xs ys from (sym h) in
    let all : take (whole - from) ys ≡ ys = take_all (whole - from) ys (omega (arith, w, h)) in
    ap (λ (zs : List ℕ). zs ∷ []) (ap (λ (zs : List ℕ). take (whole - from) zs) front ∙ all)
cut-push xs ys from whole (to ∷ ends) w h =
    let first = piece-append xs ys from to (AreEnds-le (length xs) to ends h.1) in
    ap (λ (zs : List ℕ). zs ∷ cut (xs ++ ys) to (ends ++ whole ∷ [])) first
    ∙ ap (λ (zss : List (List ℕ)). take (to - from) (drop from xs) ∷ zss)
    (cut-push xs ys to whole ends w h.1)

start-next : (from to : ℕ) (ends : List ℕ) (i : ℕ) → i ≤ length ends
    → start_of to ends i ≡ get_or (to ∷ ends) i from
start-next from to ends zero le = refl
start-next from to ends (suc i) le = get_or_default ends i to from (omega (arith, le))

pub start_low : (whole from : ℕ) (ends : List ℕ) (i : ℕ) → AreEnds whole from ends → i ≤ length ends
    → from ≤ start_of from ends i
start_low whole from ends zero h le = omega arith
start_low whole from [] (suc i) h le = omega (arith, le)
start_low whole from (to ∷ ends) (suc i) h le =
    let later = start_low whole to ends i h.1 (omega (arith, le)) in
    let same = start-next from to ends i (omega (arith, le)) in
    omega (arith, later, same, h.0)

pub start_high : (whole from : ℕ) (ends : List ℕ) (i : ℕ) → AreEnds whole from ends
    → i ≤ length ends → start_of from ends i ≤ whole
start_high whole from ends zero h le = AreEnds-le whole from ends h
start_high whole from [] (suc i) h le = omega (arith, le)
start_high whole from (to ∷ ends) (suc i) h le =
    let later = start_high whole to ends i h.1 (omega (arith, le)) in
    let same = start-next from to ends i (omega (arith, le)) in
    omega (arith, later, same)

-- a piece does not end before it begins, and is within the list
pub end_low : (whole from : ℕ) (ends : List ℕ) (i d : ℕ) → AreEnds whole from ends → i < length ends
    → start_of from ends i ≤ get_or ends i d
end_low whole from [] i d h lt = omega (arith, lt)
end_low whole from (to ∷ ends) zero d h lt = h.0
end_low whole from (to ∷ ends) (suc i) d h lt =
    let later = end_low whole to ends i d h.1 (omega (arith, lt)) in
    let same = start-next from to ends i (omega (arith, lt)) in
    omega (arith, later, same)

pub end_high : (whole from : ℕ) (ends : List ℕ) (i d : ℕ) → AreEnds whole from ends
    → i < length ends → get_or ends i d ≤ whole
end_high whole from [] i d h lt = omega (arith, lt)
end_high whole from (to ∷ ends) zero d h lt = AreEnds-le whole to ends h.1
end_high whole from (to ∷ ends) (suc i) d h lt = end_high whole to ends i d h.1 (omega (arith, lt))

pub get_or-cut : (xs : List ℕ) (from : ℕ) (ends : List ℕ) (i e : ℕ) (d : List ℕ) → i < length ends
    → get_or (cut xs from ends) i d
    ≡ take (get_or ends i e - start_of from ends i) (drop (start_of from ends i) xs)
get_or-cut xs from [] i e d lt = absurd (lt_none i lt)
  where
    lt_none : (i : ℕ) → i < 0 → ⊥
    lt_none i lt = omega (arith, lt)
get_or-cut xs from (to ∷ ends) zero e d lt = refl
get_or-cut xs from (to ∷ ends) (suc i) e d lt =
    get_or-cut xs to ends i e d (omega (arith, lt))
    ∙ ap (λ (n : ℕ). take (get_or ends i e - n) (drop n xs))
    (start-next from to ends i (omega (arith, lt)))

pub cut-take : (xs : List ℕ) (from : ℕ) (ends : List ℕ) (n s : ℕ) → s ≡ start_of from ends n
    → AreEnds (length xs) from ends → n ≤ length ends
    → cut (take s xs) from (take n ends) ≡ take n (cut xs from ends)
cut-take xs from ends zero s is h le = refl
cut-take xs from [] (suc n) s is h le = refl
cut-take xs from (to ∷ ends) (suc n) s is h le =
    let same : s ≡ start_of to ends n = is ∙ sym (start-next from to ends n (omega (arith, le))) in
    let low = start_low (length xs) to ends n h.1 (omega (arith, le)) in
    let first = piece-take xs from to s (omega (arith, low, same)) in
    ap (λ (zs : List ℕ). zs ∷ cut (take s xs) to (take n ends)) first
    ∙ ap (λ (zss : List (List ℕ)). take (to - from) (drop from xs) ∷ zss)
    (cut-take xs to ends n s same h.1 (omega (arith, le)))

pub AreEnds-take : (whole from : ℕ) (ends : List ℕ) (n s : ℕ) → s ≡ start_of from ends n
    → AreEnds whole from ends → n ≤ length ends → AreEnds s from (take n ends)
AreEnds-take whole from ends zero s is h le = sym is
AreEnds-take whole from [] (suc n) s is h le = absurd (none n le)
  where
    none : (n : ℕ) → suc n ≤ 0 → ⊥
    none n le = omega (arith, le)
AreEnds-take whole from (to ∷ ends) (suc n) s is h le = (
  h.0,
  AreEnds-take whole to ends n s (is ∙ sym (start-next from to ends n (omega (arith, le))))
      h.1 (omega (arith, le)),
)

-- one more piece after the others
pub pushed_ends : (xs ys zs ends more : List ℕ) → zs ≡ xs ++ ys → more ≡ ends ++ length zs ∷ []
    → AreEnds (length xs) 0 ends → AreEnds (length zs) 0 more
pushed_ends xs ys zs ends more is at h =
    let longer = ap (λ (l : List ℕ). length l) is ∙ length-append xs ys in
    subst (λ (l : List ℕ). AreEnds (length zs) 0 l) (sym at)
    (AreEnds-push (length xs) (length zs) 0 ends (omega (arith, longer)) h)

pub pushed_cut : (xs ys zs ends more : List ℕ) → zs ≡ xs ++ ys → more ≡ ends ++ length zs ∷ []
    → AreEnds (length xs) 0 ends → cut zs 0 more ≡ cut xs 0 ends ++ ys ∷ []
pushed_cut xs ys zs ends more is at h =
    ap (λ (l : List ℕ). cut zs 0 l) at
    ∙ ap (λ (l : List ℕ). cut l 0 (ends ++ length zs ∷ [])) is
    ∙ cut-push xs ys 0 (length zs) ends (ap (λ (l : List ℕ). length l) is ∙ length-append xs ys) h
