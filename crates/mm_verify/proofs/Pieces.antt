-- Laws on ranges of a list.
use Rattle.std.proofs.Common.{◌≡◌, ℕ, ◌-◌, ◌≤◌, List, [], ◌∷◌, ◌++◌, length, take, drop, refl, ap}
use Rattle.std.proofs.Common.{◌∙◌, sym, arith, subst, length-append, suc, zero, ◌+◌, ◌<◌, true, get_or}
use Rattle.std.specs.Prelude.{slice_get, Option, Some, option_map}
use Rattle.std.proofs.lemmas.List.{take-append-le, take_all, take_more, drop_at}
use Rattle.std.proofs.lemmas.List.Elements.{All-head, All-tail, All-weaker, All-push}
use Rattle.std.proofs.lemmas.Slice.{between_is}
use Rattle.mm_verify.specs.Applied.{AgreesWithStep}
use Rattle.mm_verify.specs.declared.stack.Range.{Range}
use Rattle.mm_verify.specs.Ranges.{piece, pieces, IsRange, AreRanges}

-- a range within a list is within a longer one
pub wider : (n m : ℕ) → n ≤ m → (rs : List Range) → AreRanges n rs → AreRanges m rs
wider n m le rs within =
    All-weaker (IsRange n) (IsRange m)
    (λ r is. record { ascends = is.ascends; ends = omega (arith, is.ends, le) }) rs within

-- what is appended does not change the piece at a range
pub piece-more : (xs ys : List ℕ) (r : Range) → IsRange (length xs) r
    → piece (xs ++ ys) r ≡ piece xs r
piece-more xs ys r is =
    between_is (xs ++ ys) r.from r.to
    ∙ ap (λ (zs : List ℕ). drop r.from zs) (take-append-le r.to xs ys is.ends)
    ∙ sym (between_is xs r.from r.to)

pub pieces-more : (xs ys : List ℕ) (rs : List Range) → AreRanges (length xs) rs
    → pieces (xs ++ ys) rs ≡ pieces xs rs
pieces-more xs ys [] within = refl
pieces-more xs ys (r ∷ rs) within =
    ap (λ (p : List ℕ). p ∷ pieces (xs ++ ys) rs)
    (piece-more xs ys r (All-head (IsRange (length xs)) r rs within))
    ∙ ap (λ (ps : List (List ℕ)). piece xs r ∷ ps)
    (pieces-more xs ys rs (All-tail (IsRange (length xs)) r rs within))

-- what is appended is the piece at its range
pub piece-last : (xs ys : List ℕ) (r : Range) → r.from ≡ length xs → r.to ≡ length (xs ++ ys)
    → piece (xs ++ ys) r ≡ ys
piece-last xs ys r from to =
    let front : drop r.from (xs ++ ys) ≡ ys = drop_at xs ys r.from (sym from) in
    let whole : length ys ≤ r.to - r.from = omega (arith, from, to, length-append xs ys) in
    ap (λ (zs : List ℕ). take (r.to - r.from) zs) front ∙ take_all (r.to - r.from) ys whole

pub pieces-append : (xs : List ℕ) (rs ss : List Range)
    → pieces xs (rs ++ ss) ≡ pieces xs rs ++ pieces xs ss
pieces-append xs [] ss = refl
pieces-append xs (r ∷ rs) ss =
    ap (λ (ps : List (List ℕ)). piece xs r ∷ ps) (pieces-append xs rs ss)

-- one more piece, which is appended
pub pieces-push : (xs ys : List ℕ) (rs : List Range) (r : Range) → AreRanges (length xs) rs
    → r.from ≡ length xs → r.to ≡ length (xs ++ ys)
    → pieces (xs ++ ys) (rs ++ r ∷ []) ≡ pieces xs rs ++ ys ∷ []
pieces-push xs ys rs r within from to =
    pieces-append (xs ++ ys) rs (r ∷ [])
    ∙ ap (λ (ps : List (List ℕ)). ps ++ piece (xs ++ ys) r ∷ []) (pieces-more xs ys rs within)
    ∙ ap (λ (p : List ℕ). pieces xs rs ++ p ∷ []) (piece-last xs ys r from to)

pub ranges-push : (xs ys : List ℕ) (rs : List Range) (r : Range) → AreRanges (length xs) rs
    → r.from ≡ length xs → r.to ≡ length (xs ++ ys)
    → AreRanges (length (xs ++ ys)) (rs ++ r ∷ [])
ranges-push xs ys rs r within from to =
    let more = length-append xs ys in
    All-push (IsRange (length (xs ++ ys))) rs r
    (wider (length xs) (length (xs ++ ys)) (omega (arith, more)) rs within)
    (record { ascends = omega (arith, from, to, more); ends = omega (arith, to) })

pub pieces-take : (xs : List ℕ) (n : ℕ) (rs : List Range)
    → pieces xs (take n rs) ≡ take n (pieces xs rs)
pieces-take xs zero rs = refl
pieces-take xs (suc n) [] = refl
pieces-take xs (suc n) (r ∷ rs) =
    ap (λ (ps : List (List ℕ)). piece xs r ∷ ps) (pieces-take xs n rs)

pub length-pieces : (xs : List ℕ) (rs : List Range) → length (pieces xs rs) ≡ length rs
length-pieces xs [] = refl
length-pieces xs (r ∷ rs) = ap (λ (n : ℕ). suc n) (length-pieces xs rs)

pub piece-at : (xs : List ℕ) (rs : List Range) (i : ℕ) (r : Range) → slice_get rs i ≡ Some r
    → slice_get (pieces xs rs) i ≡ Some (piece xs r)
piece-at xs [] i r is = absurd (cc)
piece-at xs (s ∷ rs) zero r is = ap (option_map (piece xs)) is
piece-at xs (s ∷ rs) (suc i) r is = piece-at xs rs i r is

-- a piece is appended, which the next of some ranges has in another list
pub moved-more : (symbols : List ℕ) (rs : List Range) (i : ℕ) (d : Range) (xs ys : List ℕ)
    (ss : List Range) (s : Range) → ys ≡ piece symbols (get_or rs i d) → i < length rs
    → AreRanges (length xs) ss → s.from ≡ length xs → s.to ≡ length (xs ++ ys)
    → pieces xs ss ≡ pieces symbols (take i rs)
    → pieces (xs ++ ys) (ss ++ s ∷ []) ≡ pieces symbols (take (i + 1) rs)
moved-more symbols rs i d xs ys ss s is lt within from to same =
    pieces-push xs ys ss s within from to
    ∙ ap (λ (ps : List (List ℕ)). ps ++ ys ∷ []) same
    ∙ ap (λ (p : List ℕ). pieces symbols (take i rs) ++ p ∷ []) is
    ∙ sym (pieces-append symbols (take i rs) (get_or rs i d ∷ []))
    ∙ ap (pieces symbols) (sym (take_more rs i d lt))

-- a step that has something to put there
pub agrees : {S E : Type 0} (f : E → S) (o : Option E) (e : E) (old new : S) → o ≡ Some e
    → new ≡ f e → AgreesWithStep (option_map f o) old new true
agrees f o e old new is same =
    subst (λ p. AgreesWithStep (option_map f p) old new true) (sym is) (refl, same)
