-- The frame of an assertion by the places of its hypotheses.
use Rattle.std.proofs.Common.{◌≡◌, ℕ, suc, ◌+◌, Bool, true, false, List, [], ◌∷◌, ◌++◌, refl, ap}
use Rattle.std.proofs.Common.{sym, ◌∙◌, arith}
use Rattle.std.specs.Prelude.{◌&&◌, ◌||◌, nat_eq, filter, flat_map, if◌then◌else◌, slice_get}
use Rattle.std.specs.Prelude.{slice_index, Option, Some, None}
use Rattle.std.specs.List.{list_any}
use Rattle.std.specs.List.Sorted.{IsStrictlyIncreasing}
use Rattle.std.proofs.lemmas.Bool.{eqb-true, eq-eqb}
use Rattle.std.proofs.lemmas.List.Folds.{list_any-append}
use Rattle.mm_frame.specs.Numbered.{NumberedHypothesis}
use Rattle.mm_frame.specs.PlainFrames.{has_number}
use Rattle.mm_scope.specs.ScopeState.{ScopeState}
use Rattle.mm_scope.specs.StateTests.{types_in, is_typed_in}
use Rattle.mm_frame.specs.NeededNumbers.{number_stands_in, is_needed_number, is_mandatory_number}
use Rattle.mm_frame.specs.Places.{places_from, places_of, passes, found_at}
use Rattle.mm_frame.proofs.Placing.{places-has, places-filter}
use Rattle.mm_database.specs.Frames.{floating, essential}
use Rattle.mm_frame.specs.Listed.{is_essential}
use Rattle.mm_scope.specs.StatePlaces.{premise_at, ArePlaced, typed_places}

-- the symbols of the active `$e`, gathered at their places
premises-from : (all hs : List NumberedHypothesis) (at n : ℕ)
    → ((k : ℕ) → slice_get all (at + k) ≡ slice_get hs k)
    → has_number (flat_map (λ i. premise_at (slice_get all i)) (places_from is_essential at hs)) n
    ≡ list_any (number_stands_in n) hs
premises-from all [] at n stand = refl
premises-from all (floating l k v ∷ hs) at n stand =
    premises-from all hs (at + 1) n (λ j. let same : (at + 1) + j ≡ at + suc j = omega arith in
    ap (slice_get all) same ∙ stand (suc j))
premises-from all (essential l s ∷ hs) at n stand =
    let same : at ≡ at + 0 = omega arith in
    ap (λ o. has_number (premise_at o
    ++ flat_map (λ i. premise_at (slice_get all i))
    (places_from is_essential (at + 1) hs)) n) (ap (slice_get all) same ∙ stand 0)
    ∙ list_any-append (λ m. nat_eq m n) s
    (flat_map (λ i. premise_at (slice_get all i)) (places_from is_essential (at + 1) hs))
    ∙ ap (λ b. has_number s n || b) (premises-from all hs (at + 1) n (λ j. let same : (at + 1) + j ≡
    at + suc j =
    omega arith in
    ap (slice_get all) same ∙ stand (suc j)))

pub needed-has : (hs : List NumberedHypothesis) (statement : List ℕ) (n : ℕ)
    → has_number
    (statement ++ flat_map (λ i. premise_at (slice_get hs i)) (places_of is_essential hs)) n
    ≡ is_needed_number hs statement n
needed-has hs statement n =
    list_any-append (λ m. nat_eq m n) statement
    (flat_map (λ i. premise_at (slice_get hs i)) (places_of is_essential hs))
    ∙ ap (λ b. has_number statement n || b) (premises-from hs hs 0 n
    (λ k. let same : 0 + k ≡ k = omega arith in ap (slice_get hs) same))

pub typed-append : (h : ScopeState) (ns ms : List ℕ)
    → typed_places h (ns ++ ms) ≡ typed_places h ns ++ typed_places h ms
typed-append h [] ms = refl
typed-append h (n ∷ ns) ms = go (is_typed_in h n) (typed-append h ns ms)
  where
    go : (b : Bool) → typed_places h (ns ++ ms) ≡ typed_places h ns ++ typed_places h ms
        → (if b then slice_index h.types n ∷ typed_places h (ns ++ ms)
        else typed_places h (ns ++ ms))
        ≡ (if b then slice_index h.types n ∷ typed_places h ns else typed_places h ns)
        ++ typed_places h ms
    go true rest = ap (λ (ps : List ℕ). slice_index h.types n ∷ ps) rest
    go false rest = rest

-- the hypothesis is the `$f` of one of the variables
abbrev pub types_one : List ℕ → NumberedHypothesis → Bool
types_one ns (floating label typecode variable) = has_number ns variable
types_one ns (essential label statement) = false

-- the `$f` of a variable is at the place that is kept for it, if it has one
types-there : (h : ScopeState) → ArePlaced h → (n i : ℕ) (o : Option NumberedHypothesis)
    → slice_get h.hypotheses i ≡ o → types_in n o ≡ true → slice_index h.types n ≡ i
types-there h placed n i None is types = absurd (cc)
types-there h placed n i (Some (essential l s)) is types = absurd (cc)
types-there h placed n i (Some (floating l k v)) is types =
    let same : v ≡ n = eqb-true v n types in ap (slice_index h.types) (sym same) ∙ placed i l k v is

pub typed-there : (h : ScopeState) → ArePlaced h → (n i : ℕ)
    → (is_typed_in h n && nat_eq (slice_index h.types n) i) ≡ types_in n (slice_get h.hypotheses i)
typed-there h placed n i = go (nat_eq (slice_index h.types n) i) refl
  where
    and-true : (b : Bool) → (b && true) ≡ b
    and-true true = refl
    and-true false = refl

    and-false : (b : Bool) → (b && false) ≡ false
    and-false true = refl
    and-false false = refl

    not-there : (b : Bool) → types_in n (slice_get h.hypotheses i) ≡ b
        → nat_eq (slice_index h.types n) i ≡ false → b ≡ false
    not-there true types elsewhere =
        absurd (let same : slice_index h.types n ≡ i =
        types-there h placed n i (slice_get h.hypotheses i) refl types in
        let wrong : true ≡ false = sym (eq-eqb (slice_index h.types n) i same) ∙ elsewhere in
        let z : ⊥ = cc in z)
    not-there false types elsewhere = refl

    go : (b : Bool) → nat_eq (slice_index h.types n) i ≡ b
        → (is_typed_in h n && b) ≡ types_in n (slice_get h.hypotheses i)
    go true is =
        let same : slice_index h.types n ≡ i = eqb-true (slice_index h.types n) i is in
        and-true (is_typed_in h n) ∙ ap (λ j. types_in n (slice_get h.hypotheses j)) same
    go false is = and-false (is_typed_in h n)
        ∙ sym (not-there (types_in n (slice_get h.hypotheses i)) refl is)

eq-turned : (a b : ℕ) → nat_eq a b ≡ nat_eq b a
eq-turned a b = go (nat_eq a b) (nat_eq b a) refl refl
  where
    go : (x y : Bool) → nat_eq a b ≡ x → nat_eq b a ≡ y → x ≡ y
    go true true e f = refl
    go true false e f =
        absurd (let same : a ≡ b = eqb-true a b e in
        let wrong : true ≡ false = sym (eq-eqb b a (sym same)) ∙ f in let z : ⊥ = cc in z)
    go false true e f =
        absurd (let same : b ≡ a = eqb-true b a f in
        let wrong : true ≡ false = sym (eq-eqb a b (sym same)) ∙ e in let z : ⊥ = cc in z)
    go false false e f = refl

pub typed-has : (h : ScopeState) → ArePlaced h → (ns : List ℕ) (i : ℕ)
    → has_number (typed_places h ns) i ≡ passes (types_one ns) (slice_get h.hypotheses i)
typed-has h placed [] i = none (slice_get h.hypotheses i)
  where
    none : (o : Option NumberedHypothesis) → false ≡ passes (types_one []) o
    none None = refl
    none (Some (floating l k v)) = refl
    none (Some (essential l s)) = refl
typed-has h placed (n ∷ ns) i = go (is_typed_in h n)
    ∙ ap (λ b. b || has_number (typed_places h ns) i) (typed-there h placed n i)
    ∙ ap (λ b. types_in n (slice_get h.hypotheses i) || b) (typed-has h placed ns i)
    ∙ join (slice_get h.hypotheses i)
  where
    go : (b : Bool)
        → has_number (if b then slice_index h.types n ∷ typed_places h ns else typed_places h ns) i
        ≡ ((b && nat_eq (slice_index h.types n) i) || has_number (typed_places h ns) i)
    go true = refl
    go false = refl

    join : (o : Option NumberedHypothesis)
        → (types_in n o || passes (types_one ns) o) ≡ passes (types_one (n ∷ ns)) o
    join None = refl
    join (Some (floating l k v)) = ap (λ b. b || has_number ns v) (eq-turned v n)
    join (Some (essential l s)) = refl

pub mandatory-has : (h : ScopeState) → ArePlaced h → (ns places : List ℕ)
    → ((i : ℕ)
    → has_number places i
    ≡ (has_number (places_of is_essential h.hypotheses) i
    || has_number (typed_places h ns) i)) → (i : ℕ)
    → has_number places i ≡ passes (is_mandatory_number (has_number ns)) (slice_get h.hypotheses i)
mandatory-has h placed ns places has i =
    has i
    ∙ ap (λ b. b || has_number (typed_places h ns) i) (places-has is_essential h.hypotheses i)
    ∙ ap (λ b. passes is_essential (slice_get h.hypotheses i) || b) (typed-has h placed ns i)
    ∙ join (slice_get h.hypotheses i)
  where
    join : (o : Option NumberedHypothesis)
        → (passes is_essential o || passes (types_one ns) o)
        ≡ passes (is_mandatory_number (has_number ns)) o
    join None = refl
    join (Some (floating l k v)) = refl
    join (Some (essential l s)) = refl

pub mandatory-filter : (h : ScopeState) → ArePlaced h → (ns places : List ℕ)
    → IsStrictlyIncreasing places
    → ((i : ℕ)
    → has_number places i
    ≡ (has_number (places_of is_essential h.hypotheses) i
    || has_number (typed_places h ns) i))
    → flat_map (λ i. found_at (slice_get h.hypotheses i)) places
    ≡ filter (is_mandatory_number (has_number ns)) h.hypotheses
mandatory-filter h placed ns places up has =
    places-filter (is_mandatory_number (has_number ns)) h.hypotheses places up
    (mandatory-has h placed ns places has)
