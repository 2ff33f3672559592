-- How often symbols stand in lists of symbols, and in `$e`.
use Rattle.std.proofs.Common.{◌≡◌, ℕ, zero, suc, ◌+◌, ◌-◌, ◌<◌, Bool, true, false, List, [], ◌∷◌}
use Rattle.std.proofs.Common.{◌++◌, take, length, get_or, refl, ap, sym, ◌∙◌, arith}
use Rattle.std.specs.Prelude.{◌||◌, nat_eq, nat_lt, if◌then◌else◌}
use Rattle.std.specs.List.{list_any}
use Rattle.std.proofs.lemmas.Bool.{lt-ltb}
use Rattle.std.proofs.lemmas.List.{take_more}
use Rattle.mm_database.specs.Frames.{floating, essential}
use Rattle.mm_frame.specs.Numbered.{NumberedHypothesis}
use Rattle.mm_frame.specs.PlainFrames.{has_number}
use Rattle.mm_frame.specs.NeededNumbers.{number_stands_in}
use Rattle.mm_frame.specs.Times.{once, times, times_in}

times-append : (n : ℕ) (xs ys : List ℕ) → times n (xs ++ ys) ≡ times n xs + times n ys
times-append n [] ys = omega arith
times-append n (x ∷ xs) ys = let rest = times-append n xs ys in omega (arith, rest)

pub times-more : (n i : ℕ) (xs : List ℕ) → i < length xs
    → times n (take (i + 1) xs) ≡ times n (take i xs) + once n (get_or xs i 0)
times-more n i xs lt =
    let more = times-append n (take i xs) (get_or xs i 0 ∷ []) in
    let last : times n (get_or xs i 0 ∷ []) ≡ once n (get_or xs i 0) = omega arith in
    ap (times n) (take_more xs i 0 lt) ∙ more ∙ ap (λ k. times n (take i xs) + k) last

pub times_in-append : (n : ℕ) (hs gs : List NumberedHypothesis)
    → times_in n (hs ++ gs) ≡ times_in n hs + times_in n gs
times_in-append n [] gs = omega arith
times_in-append n (floating l k v ∷ hs) gs = times_in-append n hs gs
times_in-append n (essential l s ∷ hs) gs =
    let rest = times_in-append n hs gs in omega (arith, rest)

-- a symbol counts exactly when it is there
counts : (n : ℕ) (ns : List ℕ) → has_number ns n ≡ nat_lt 0 (times n ns)
counts n [] = refl
counts n (m ∷ ms) = go (nat_eq m n) (counts n ms)
  where
    go : (b : Bool) → has_number ms n ≡ nat_lt 0 (times n ms)
        → (b || has_number ms n) ≡ nat_lt 0 ((if b then 1 else 0) + times n ms)
    go true rest = sym (lt-ltb 0 (1 + times n ms) (omega arith))
    go false rest =
        rest ∙ ap (nat_lt 0) (let same : times n ms ≡ 0 + times n ms = omega arith in same)

either : (a b : ℕ) → (nat_lt 0 a || nat_lt 0 b) ≡ nat_lt 0 (a + b)
either zero b = ap (nat_lt 0) (let same : b ≡ 0 + b = omega arith in same)
either (suc a) b = ap (λ x. x || nat_lt 0 b) (lt-ltb 0 (suc a) (omega arith))
    ∙ sym (lt-ltb 0 (suc a + b) (omega arith))

pub counts_in : (n : ℕ) (hs : List NumberedHypothesis)
    → list_any (number_stands_in n) hs ≡ nat_lt 0 (times_in n hs)
counts_in n [] = refl
counts_in n (floating l k v ∷ hs) = counts_in n hs
counts_in n (essential l s ∷ hs) = ap (λ x. x || list_any (number_stands_in n) hs) (counts n s)
    ∙ ap (λ x. nat_lt 0 (times n s) || x) (counts_in n hs) ∙ either (times n s) (times_in n hs)
