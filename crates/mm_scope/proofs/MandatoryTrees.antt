-- Trees of the hypotheses that a statement asks for.
use Rattle.std.proofs.Common.{◌≡◌, ℕ, zero, suc, ◌+◌, ◌-◌, ◌≤◌, Bool, true, false, not, List, []}
use Rattle.std.proofs.Common.{◌∷◌, ◌++◌, length, refl, ap, sym, ◌∙◌, arith}
use Rattle.std.specs.Prelude.{◌&&◌, ◌||◌, nat_eq, filter, slice_get, Option, Some, None}
use Rattle.std.specs.Prelude.{if◌then◌else◌}
use Rattle.std.specs.List.{list_any}
use Rattle.std.proofs.lemmas.Bool.{eqb-true, eqb-false, eq-eqb, ne_eqb}
use Rattle.mm_text.specs.Bytes.{Token}
use Rattle.mm_database.specs.Frames.{floating, essential}
use Rattle.mm_frame.specs.Numbered.{NumberedHypothesis}
use Rattle.mm_frame.specs.PlainFrames.{has_number}
use Rattle.mm_scope.specs.ScopeState.{ScopeState}
use Rattle.mm_scope.specs.StatePlaces.{ArePlaced, typed_places}
use Rattle.mm_frame.specs.Listed.{is_essential}
use Rattle.mm_frame.specs.Places.{passes, places_of}
use Rattle.mm_frame.specs.NeededNumbers.{number_stands_in, is_needed_number, is_mandatory_number}
use Rattle.mm_frame.specs.PlacedHypotheses.{Placed, hypotheses_placed}
use Rattle.mm_frame.specs.PlacedOrder.{find_placed, IsAscending, AllFrom}
use Rattle.mm_scope.specs.Sharing.{kept_at, HasMandatory, or_found, taken_at, is_own_number}
use Rattle.mm_frame.proofs.Groups.{list_any-append}
use Rattle.mm_scope.proofs.FramePlaces.{types_one, typed-has, mandatory-has}
use Rattle.mm_frame.proofs.PlacedLists.{none-from, from-weaker}

-- one more at the end

pub get-last : {X : Type 0} (xs : List X) (x : X) → slice_get (xs ++ x ∷ []) (length xs) ≡ Some x
get-last [] x = refl
get-last (y ∷ xs) x = get-last xs x

pub get-past : {X : Type 0} (xs : List X) → slice_get xs (length xs) ≡ None
get-past [] = refl
get-past (y ∷ xs) = get-past xs

pub get-other : {X : Type 0} (xs : List X) (x : X) (i : ℕ) → (length xs ≡ i → ⊥)
    → slice_get (xs ++ x ∷ []) i ≡ slice_get xs i
get-other [] x zero ne = absurd (ne refl)
get-other [] x (suc i) ne = refl
get-other (y ∷ xs) x zero ne = refl
get-other (y ∷ xs) x (suc i) ne = get-other xs x i (λ e. ne (ap suc e))

or-nil : (b : Bool) → (b || false) ≡ b
or-nil true = refl
or-nil false = refl

or-turned : (a b : Bool) → (a || b) ≡ (b || a)
or-turned true true = refl
or-turned true false = refl
or-turned false true = refl
or-turned false false = refl

pub asked-floating : (hs : List NumberedHypothesis) (l : Token) (k v n : ℕ)
    → list_any (number_stands_in n) (hs ++ floating l k v ∷ []) ≡ list_any (number_stands_in n) hs
asked-floating hs l k v n = list_any-append (number_stands_in n) hs (floating l k v)
    ∙ or-nil (list_any (number_stands_in n) hs)

pub asked-essential : (hs : List NumberedHypothesis) (l : Token) (s : List ℕ) (n : ℕ)
    → list_any (number_stands_in n) (hs ++ essential l s ∷ []) ≡ is_needed_number hs s n
asked-essential hs l s n = list_any-append (number_stands_in n) hs (essential l s)
    ∙ or-turned (list_any (number_stands_in n) hs) (has_number s n)

pub kept-alike : (p q : ℕ → Bool) → ((n : ℕ) → p n ≡ q n) → (o : Option NumberedHypothesis)
    → kept_at (is_mandatory_number p) o ≡ kept_at (is_mandatory_number q) o
kept-alike p q same None = refl
kept-alike p q same (Some (floating l k v)) =
    ap (λ (b : Bool). if b then Some (floating l k v) else None) (same v)
kept-alike p q same (Some (essential l s)) = refl

-- the tree stays the same with the `$f` of a variable that no `$e` has
pub mandatory-floating : (hs : List NumberedHypothesis) (l : Token) (k v : ℕ) (ps : List Placed)
    → list_any (number_stands_in v) hs ≡ false → HasMandatory hs [] ps
    → HasMandatory (hs ++ floating l k v ∷ []) [] ps
mandatory-floating hs l k v ps free has i = go (nat_eq (length hs) i) refl
  where
    more : List NumberedHypothesis
    more = hs ++ floating l k v ∷ []

    new : NumberedHypothesis → Bool
    new = is_mandatory_number (is_needed_number more [])

    go : (b : Bool) → nat_eq (length hs) i ≡ b → find_placed ps i ≡ kept_at new (slice_get more i)
    go true is =
        let same : length hs ≡ i = eqb-true (length hs) i is in
        let none : find_placed ps i ≡ None =
        has i
        ∙ ap (kept_at (is_mandatory_number (is_needed_number hs [])))
        (ap (slice_get hs) (sym same) ∙ get-past hs) in
        let last : slice_get more i ≡ Some (floating l k v) =
        ap (slice_get more) (sym same) ∙ get-last hs (floating l k v) in
        none
        ∙
        sym (ap (kept_at
        new) last ∙ ap (λ (b : Bool).
        if b then Some (floating l k v) else None) (asked-floating hs l k v v ∙ free))
    go false is =
        has i
        ∙ kept-alike (is_needed_number hs []) (is_needed_number more [])
        (λ n. sym (asked-floating hs l k v n)) (slice_get hs i)
        ∙ ap (kept_at new) (sym (get-other hs (floating l k v) i (eqb-false (length hs) i is)))

-- the `$f` of a statement's own symbols join those of the symbols of `$e`

module _ (h : ScopeState) (placed : ArePlaced h) (statement own : List ℕ)
    (are : (n : ℕ) → has_number own n ≡ is_own_number h.hypotheses statement n) where
  abbrev needs : ℕ → Bool
  needs = is_needed_number h.hypotheses statement

  own-kept : (o old : Option NumberedHypothesis)
      → old ≡ kept_at (is_mandatory_number (is_needed_number h.hypotheses [])) o
      → (if passes (types_one own) o then or_found o old else old)
      ≡ kept_at (is_mandatory_number needs) o
  own-kept None old is = is
  own-kept (Some (essential l s)) old is = is
  own-kept (Some (floating l k v)) old is =
      go (has_number statement v) (list_any (number_stands_in v) h.hypotheses) (has_number own v)
      (are v) is
    where
      go : (s a o : Bool) → o ≡ (s && not a) → old ≡ (if a then Some (floating l k v) else None)
          → (if o then Some (floating l k v) else old)
          ≡ (if s || a then Some (floating l k v) else None)
      go true true o e is = ap (λ (b : Bool). if b then Some (floating l k v) else old) e ∙ is
      go true false o e is = ap (λ (b : Bool). if b then Some (floating l k v) else old) e
      go false true o e is = ap (λ (b : Bool). if b then Some (floating l k v) else old) e ∙ is
      go false false o e is = ap (λ (b : Bool). if b then Some (floating l k v) else old) e ∙ is

  pub own-taken : (old : Option NumberedHypothesis) (i : ℕ)
      → old
      ≡ kept_at (is_mandatory_number (is_needed_number h.hypotheses []))
      (slice_get h.hypotheses i)
      → taken_at h.hypotheses (typed_places h own) old i
      ≡ kept_at (is_mandatory_number needs) (slice_get h.hypotheses i)
  own-taken old i is =
      ap (λ (b : Bool). if b then or_found (slice_get h.hypotheses i) old else old)
      (typed-has h placed own i)
      ∙ own-kept (slice_get h.hypotheses i) old is

  -- a frame
  pub own-mandatory : (old new : List Placed) → HasMandatory h.hypotheses [] old
      → ((i : ℕ)
      → find_placed new i ≡ taken_at h.hypotheses (typed_places h own) (find_placed old i) i)
      → HasMandatory h.hypotheses statement new
  own-mandatory old new has grown i = grown i ∙ own-taken (find_placed old i) i (has i)

  -- one more `$e`
  pub next-mandatory : (l : Token) (old mid new : List Placed) → HasMandatory h.hypotheses [] old
      → ((i : ℕ)
      → find_placed mid i
      ≡ (if nat_eq (length h.hypotheses) i then Some (essential l statement)
      else find_placed old i))
      → ((i : ℕ)
      → find_placed new i ≡ taken_at h.hypotheses (typed_places h own) (find_placed mid i) i)
      → HasMandatory (h.hypotheses ++ essential l statement ∷ []) [] new
  next-mandatory l old mid new has one grown i = grown i ∙ go (nat_eq (length h.hypotheses) i) refl
    where
      hs : List NumberedHypothesis
      hs = h.hypotheses

      more : List NumberedHypothesis
      more = hs ++ essential l statement ∷ []

      go : (b : Bool) → nat_eq (length hs) i ≡ b
          → taken_at hs (typed_places h own) (find_placed mid i) i
          ≡ kept_at (is_mandatory_number (is_needed_number more [])) (slice_get more i)
      go true is =
          let same : length hs ≡ i = eqb-true (length hs) i is in
          let past : slice_get hs i ≡ None = ap (slice_get hs) (sym same) ∙ get-past hs in
          let nowhere : has_number (typed_places h own) i ≡ false =
          typed-has h placed own i ∙ ap (passes (types_one own)) past in
          let last : slice_get more i ≡ Some (essential l statement) =
          ap (slice_get more) (sym same) ∙ get-last hs (essential l statement) in
          ap (λ (b : Bool).
          if b then or_found (slice_get hs i) (find_placed mid i) else find_placed mid i)
          nowhere
          ∙ one i
          ∙ ap (λ (b : Bool). if b then Some (essential l statement) else find_placed old i) is
          ∙ sym (ap (kept_at (is_mandatory_number (is_needed_number more []))) last)
      go false is =
          let was : find_placed mid i ≡ find_placed old i =
          one i
          ∙ ap (λ (b : Bool). if b then Some (essential l statement) else find_placed old i)
          is in
          own-taken (find_placed mid i) i (was ∙ has i)
          ∙ kept-alike needs (is_needed_number more [])
          (λ n. sym (asked-essential hs l statement n)) (slice_get hs i)
          ∙ ap (kept_at (is_mandatory_number (is_needed_number more [])))
          (sym (get-other hs (essential l statement) i (eqb-false (length hs) i is)))

-- the first tree has one `$e`, and then all others with their `$f`
module _ (h : ScopeState) (placed : ArePlaced h) (statement needed places : List ℕ)
    (are : (n : ℕ) → has_number needed n ≡ is_needed_number h.hypotheses statement n) (stand :
    (i : ℕ)
    → has_number places i
    ≡ (has_number (places_of is_essential h.hypotheses) i
    || has_number (typed_places h needed) i)) where
  first-kept : (o : Option NumberedHypothesis)
      → (if passes (is_mandatory_number (has_number needed)) o then or_found o None else None)
      ≡ kept_at (is_mandatory_number (has_number needed)) o
  first-kept None = refl
  first-kept (Some x) = refl

  pub first-mandatory : (l : Token) (mid new : List Placed)
      → ((i : ℕ)
      → find_placed mid i
      ≡ (if nat_eq (length h.hypotheses) i then Some (essential l statement) else None))
      → ((i : ℕ) → find_placed new i ≡ taken_at h.hypotheses places (find_placed mid i) i)
      → HasMandatory (h.hypotheses ++ essential l statement ∷ []) [] new
  first-mandatory l mid new one grown i = grown i ∙ go (nat_eq (length h.hypotheses) i) refl
    where
      hs : List NumberedHypothesis
      hs = h.hypotheses

      more : List NumberedHypothesis
      more = hs ++ essential l statement ∷ []

      there : has_number places i
          ≡ passes (is_mandatory_number (has_number needed)) (slice_get hs i)
      there = mandatory-has h placed needed places stand i

      go : (b : Bool) → nat_eq (length hs) i ≡ b
          → taken_at hs places (find_placed mid i) i
          ≡ kept_at (is_mandatory_number (is_needed_number more [])) (slice_get more i)
      go true is =
          let same : length hs ≡ i = eqb-true (length hs) i is in
          let past : slice_get hs i ≡ None = ap (slice_get hs) (sym same) ∙ get-past hs in
          let nowhere : has_number places i ≡ false =
          there ∙ ap (passes (is_mandatory_number (has_number needed))) past in
          let last : slice_get more i ≡ Some (essential l statement) =
          ap (slice_get more) (sym same) ∙ get-last hs (essential l statement) in
          ap (λ (b : Bool).
          if b then or_found (slice_get hs i) (find_placed mid i) else find_placed mid i)
          nowhere
          ∙ one i ∙ ap (λ (b : Bool). if b then Some (essential l statement) else None) is
          ∙ sym (ap (kept_at (is_mandatory_number (is_needed_number more []))) last)
      go false is =
          let none : find_placed mid i ≡ None =
          one i ∙ ap (λ (b : Bool). if b then Some (essential l statement) else None) is in
          ap (λ (o : Option NumberedHypothesis). taken_at hs places o i) none
          ∙ ap (λ (b : Bool). if b then or_found (slice_get hs i) None else None) there
          ∙ first-kept (slice_get hs i)
          ∙ kept-alike (has_number needed) (is_needed_number more [])
          (λ n. are n ∙ sym (asked-essential hs l statement n)) (slice_get hs i)
          ∙ ap (kept_at (is_mandatory_number (is_needed_number more [])))
          (sym (get-other hs (essential l statement) i (eqb-false (length hs) i is)))

-- one place after another

pub taken-none : (hs : List NumberedHypothesis) (old : Option NumberedHypothesis) (i : ℕ)
    → taken_at hs [] old i ≡ old
taken-none hs old i = refl

eq-turned : (a b : ℕ) → nat_eq a b ≡ nat_eq b a
eq-turned a b = go (nat_eq a b) refl
  where
    go : (x : Bool) → nat_eq a b ≡ x → x ≡ nat_eq b a
    go true e = sym (eq-eqb b a (sym (eqb-true a b e)))
    go false e = sym (ne_eqb b a (λ f. eqb-false a b e (sym f)))

pub taken-more : (hs : List NumberedHypothesis) (places : List ℕ) (place : ℕ)
    (old : Option NumberedHypothesis) (i : ℕ)
    → taken_at hs (place ∷ []) (taken_at hs places old i) i
    ≡ taken_at hs (places ++ place ∷ []) old i
taken-more hs places place old i = go (has_number places i) (nat_eq place i) (slice_get hs i)
    ∙ ap (λ (b : Bool). if b then or_found (slice_get hs i) old else old)
    (sym (list_any-append (λ m. nat_eq m i) places place))
  where
    go : (b c : Bool) (o : Option NumberedHypothesis)
        → (if c || false then or_found o (if b then or_found o old else old)
        else (if b then or_found o old else old)) ≡ (if b || c then or_found o old else old)
    go true true None = refl
    go true true (Some x) = refl
    go true false o = refl
    go false true o = refl
    go false false o = refl

-- the tree's hypotheses are those that are mandatory

abbrev FindsFrom : (NumberedHypothesis → Bool) → ℕ → List NumberedHypothesis → List Placed → Type 0
FindsFrom test at hs ps = (i : ℕ) → find_placed ps (at + i) ≡ kept_at test (slice_get hs i)

listed-from : (test : NumberedHypothesis → Bool) (at : ℕ) (hs : List NumberedHypothesis)
    (ps : List Placed) → IsAscending ps → AllFrom at ps → FindsFrom test at hs ps
    → hypotheses_placed ps ≡ filter test hs
listed-from test at [] [] up from finds = refl
listed-from test at [] (p ∷ ps) up from finds = absurd (
    let low : at ≤ p.0 = from.0 in
    let there : at + (p.0 - at) ≡ p.0 = omega arith in
    let found : find_placed (p ∷ ps) p.0 ≡ Some p.1 =
    ap (λ (b : Bool). if b then Some p.1 else find_placed ps p.0) (eq-eqb p.0 p.0 refl) in
    let none : find_placed (p ∷ ps) p.0 ≡ None =
    ap (find_placed (p ∷ ps)) (sym there) ∙ finds (p.0 - at) in
    let wrong : Some p.1 ≡ None = sym found ∙ none in
    let z : ⊥ = cc in z)
listed-from test at (h ∷ hs) [] up from finds =
    go (test h) refl (listed-from test (at + 1) hs [] tt tt (λ i. let next : (at + 1) + i ≡ at + suc
    i =
    omega arith in
    ap (find_placed []) next ∙ finds (suc i)))
  where
    go : (b : Bool) → test h ≡ b → [] ≡ filter test hs
        → [] ≡ (if b then h ∷ filter test hs else filter test hs)
    go true is rest = absurd (
        let first : None ≡ (if true then Some h else None) =
        finds 0 ∙ ap (λ (b : Bool). if b then Some h else None) is in
        let z : ⊥ = cc in z)
    go false is rest = rest
listed-from test at (h ∷ hs) (p ∷ ps) up from finds = go (nat_eq p.0 at) (test h) refl refl
    (λ same. listed-from test (at + 1) hs ps up.1
    (from-weaker (at + 1) (p.0 + 1) ps (omega (arith, same)) up.0) (λ i.
    let next : (at + 1) + i ≡ at + suc i = omega arith in
    let other : nat_eq p.0 (at + suc i) ≡ false =
    ne_eqb p.0 (at + suc i) (λ e. omega (arith, e, same)) in
    ap (find_placed ps) next
    ∙ sym (ap (λ (b : Bool). if b then Some p.1 else find_placed ps (at + suc i)) other)
    ∙ finds (suc i)))
    (λ later. listed-from test (at + 1) hs (p ∷ ps) up
    (later, from-weaker (at + 1) (p.0 + 1) ps (omega (arith, later)) up.0) (λ i.
    let next : (at + 1) + i ≡ at + suc i = omega arith in
    ap (find_placed (p ∷ ps)) next ∙ finds (suc i)))
  where
    zero-more : at + 0 ≡ at
    zero-more = omega arith

    first : find_placed (p ∷ ps) at ≡ (if test h then Some h else None)
    first = ap (find_placed (p ∷ ps)) (sym zero-more) ∙ finds 0

    go : (b c : Bool) → nat_eq p.0 at ≡ b → test h ≡ c
        → (p.0 ≡ at → hypotheses_placed ps ≡ filter test hs)
        → (at + 1 ≤ p.0 → hypotheses_placed (p ∷ ps) ≡ filter test hs)
        → hypotheses_placed (p ∷ ps) ≡ (if c then h ∷ filter test hs else filter test hs)
    go true c same is here later =
        let found : Some p.1 ≡ (if c then Some h else None) =
        sym (ap (λ (b : Bool). if b then Some p.1 else find_placed ps at) same) ∙ first
        ∙ ap (λ (b : Bool). if b then Some h else None) is in
        taken c found (here (eqb-true p.0 at same))
      where
        taken : (c : Bool) → Some p.1 ≡ (if c then Some h else None)
            → hypotheses_placed ps ≡ filter test hs
            → hypotheses_placed (p ∷ ps) ≡ (if c then h ∷ filter test hs else filter test hs)
        taken true found rest =
            let one : p.1 ≡ h = cc in
            ap (λ (x : NumberedHypothesis). x ∷ hypotheses_placed ps) one
            ∙ ap (λ (xs : List NumberedHypothesis). h ∷ xs) rest
        taken false found rest = absurd (cc)
    go false c same is here later =
        let low : at ≤ p.0 = from.0 in
        let differ : p.0 ≡ at → ⊥ = eqb-false p.0 at same in
        let above : at + 1 ≤ p.0 = omega (arith, low, differ) in
        let none : find_placed ps at ≡ None =
        none-from (p.0 + 1) at ps up.0 (omega (arith, above)) in
        let missing : None ≡ (if c then Some h else None) =
        sym (ap (λ (b : Bool). if b then Some p.1 else find_placed ps at) same ∙ none) ∙ first
        ∙ ap (λ (b : Bool). if b then Some h else None) is in
        left c missing (later above)
      where
        left : (c : Bool) → None ≡ (if c then Some h else None)
            → hypotheses_placed (p ∷ ps) ≡ filter test hs
            → hypotheses_placed (p ∷ ps) ≡ (if c then h ∷ filter test hs else filter test hs)
        left true missing rest = absurd (cc)
        left false missing rest = rest

all-from : (ps : List Placed) → AllFrom 0 ps
all-from [] = tt
all-from (p ∷ ps) = (omega arith, all-from ps)

pub mandatory-listed : (hs : List NumberedHypothesis) (statement : List ℕ) (ps : List Placed)
    → IsAscending ps → HasMandatory hs statement ps
    → hypotheses_placed ps ≡ filter (is_mandatory_number (is_needed_number hs statement)) hs
mandatory-listed hs statement ps up has =
    listed-from (is_mandatory_number (is_needed_number hs statement)) 0 hs ps up (all-from ps)
    (λ i. let same : 0 + i ≡ i = omega arith in ap (find_placed ps) same ∙ has i)

pub taken-one : (hs : List NumberedHypothesis) (place : ℕ) (h : NumberedHypothesis)
    (old : Option NumberedHypothesis) (i : ℕ) → slice_get hs place ≡ Some h
    → (if nat_eq place i then Some h else old) ≡ taken_at hs (place ∷ []) old i
taken-one hs place h old i there = go (nat_eq place i) refl
  where
    go : (b : Bool) → nat_eq place i ≡ b
        → (if b then Some h else old) ≡ (if b || false then or_found (slice_get hs i) old else old)
    go true is =
        ap (λ (o : Option NumberedHypothesis). or_found o old)
        (sym there ∙ ap (slice_get hs) (eqb-true place i is))
    go false is = refl

pub taken-nowhere : (hs : List NumberedHypothesis) (place : ℕ) (old : Option NumberedHypothesis)
    (i : ℕ) → slice_get hs place ≡ None → old ≡ taken_at hs (place ∷ []) old i
taken-nowhere hs place old i there = go (nat_eq place i) refl
  where
    go : (b : Bool) → nat_eq place i ≡ b
        → old ≡ (if b || false then or_found (slice_get hs i) old else old)
    go true is =
        ap (λ (o : Option NumberedHypothesis). or_found o old)
        (sym there ∙ ap (slice_get hs) (eqb-true place i is))
    go false is = refl
