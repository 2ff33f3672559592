-- Laws on the parts whose texts are not empty: how they are gathered, and that they are enough.
use Rattle.std.proofs.Common.{◌≡◌, ℕ, zero, suc, ◌+◌, ◌-◌, ◌<◌, ◌≤◌, Bool, true, false, List, []}
use Rattle.std.proofs.Common.{◌∷◌, ◌++◌, length, take, drop, get_or, map, nat_eq, Option, Some}
use Rattle.std.proofs.Common.{None, cond, refl, ap, ◌∙◌, sym, subst, arith, append_assoc}
use Rattle.std.specs.Prelude.{◌&&◌, ◌||◌, ◌==◌, not, All, slice_get, option_map, filter, flat_map}
use Rattle.std.proofs.lemmas.Bool.{or_right}
use Rattle.std.proofs.lemmas.Bool.{eqb-true, eq-eqb}
use Rattle.std.proofs.lemmas.List.{map-append, get_or-take, get_or-drop, length-take, take_all}
use Rattle.std.proofs.lemmas.List.{drop_more, take_more, length-map, get_or-map}
use Rattle.std.proofs.lemmas.List.Elements.{All-head, All-tail}
use Rattle.std.proofs.lemmas.List.Folds.{list_any-append}
use Rattle.std.proofs.lemmas.Option.{slice_get-map}
use Rattle.mm_frame.specs.PlainFrames.{has_number}
use Rattle.mm_frame.specs.Places.{passes, found_at}
use Rattle.mm_verify.specs.declared.parts.Part.{Part}
use Rattle.mm_verify.specs.Filling.{part_text, filled, IsWithin, AreWithin}
use Rattle.mm_frame.specs.Spots.{symbol_at, position_at, IsSpot, AreSpots}
use Rattle.mm_verify.specs.Present.{has_text}
use Rattle.mm_frame.proofs.Spotting.{get-is, get-within}
use Rattle.mm_verify.proofs.Runs.{any-default}

abbrev pub with_text : List (List ℕ) → List Part → List Part
with_text entries parts = filter (has_text entries) parts

-- parts whose texts are empty may be left out
no-length : (text : List ℕ) → (length text == 0) ≡ true → text ≡ []
no-length [] is = refl
no-length (n ∷ ns) is = absurd (grind (arith, is))

pub present-filled : (entries : List (List ℕ)) (parts : List Part)
    → filled entries (with_text entries parts) ≡ filled entries parts
present-filled entries [] = refl
present-filled entries (p ∷ ps) =
    go (length (part_text entries p) == 0) refl (present-filled entries ps)
  where
    go : (b : Bool) → (length (part_text entries p) == 0) ≡ b
        → filled entries (with_text entries ps) ≡ filled entries ps
        → filled entries (cond (not b) (p ∷ with_text entries ps) (with_text entries ps))
        ≡ part_text entries p ++ filled entries ps
    go true is rest = rest
        ∙ ap (λ (t : List ℕ). t ++ filled entries ps) (sym (no-length (part_text entries p) is))
    go false is rest = ap (λ (t : List ℕ). part_text entries p ++ t) rest

has-there : (ns : List ℕ) (k d : ℕ) → k < length ns → has_number ns (get_or ns k d) ≡ true
has-there [] k d lt = absurd (omega (arith, lt))
has-there (n ∷ ns) zero d lt = ap (λ (b : Bool). b || has_number ns n) (eq-eqb n n refl)
has-there (n ∷ ns) (suc k) d lt =
    or_right (nat_eq n (get_or ns k d)) (has_number ns (get_or ns k d))
    (has-there ns k d (omega (arith, lt)))

nothing-taken : {X : Type 0} (n : ℕ) → take {A = X} n [] ≡ []
nothing-taken zero = refl
nothing-taken (suc n) = refl

take-add : {X : Type 0} (n m : ℕ) (xs : List X) → take (n + m) xs ≡ take n xs ++ take m (drop n xs)
take-add zero m xs = let same : 0 + m ≡ m = omega arith in ap (λ (k : ℕ). take k xs) same
take-add (suc n) m [] = nothing-taken (suc n + m) ∙ sym (nothing-taken m)
take-add (suc n) m (x ∷ xs) =
    let same : suc n + m ≡ suc (n + m) = omega arith in
    ap (λ (k : ℕ). take k (x ∷ xs)) same ∙ ap (λ l. x ∷ l) (take-add n m xs)

module _ (entries : List (List ℕ)) (f : ℕ → Part) (symbols : List ℕ) where
  abbrev parts : List Part
  parts = map f symbols

  abbrev is_present : ℕ → Bool
  is_present i = passes (has_text entries) (slice_get (map f symbols) i)

  -- a part is where its symbol is
  symbol-within : (i : ℕ) (p : Part) → slice_get parts i ≡ Some p → i < length symbols
  symbol-within i p at = omega (arith, get-within parts i p at, length-map symbols f)

  pub spot-within : (spot : ℕ) → IsSpot symbols spot → position_at spot < length symbols
  spot-within spot is = get-within symbols (position_at spot) (symbol_at spot) is

  -- whether the text of a part is empty is told by its symbol
  spot-stands : (spot : ℕ) → IsSpot symbols spot
      → is_present (position_at spot) ≡ has_text entries (f (symbol_at spot))
  spot-stands spot is =
      ap (passes (has_text entries))
      (slice_get-map f symbols (position_at spot) ∙ ap (option_map f) is)

  -- the part at a spot
  pub present-at : (spot position : ℕ) (p : Part) (text : List ℕ) (empty : Bool)
      → position_at spot < length symbols → position ≡ position_at spot
      → p ≡ f (get_or symbols position 0) → text ≡ part_text entries p
      → empty ≡ (length text == 0) → not empty ≡ is_present (position_at spot)
  present-at spot position p text empty within place part stands none =
      let found : slice_get (map f symbols) (position_at spot) ≡ Some p =
      slice_get-map f symbols (position_at spot)
      ∙ ap (option_map f) (get-is symbols (position_at spot) 0 within)
      ∙ ap (λ (q : Part). Some q)
      (ap (λ (n : ℕ). f (get_or symbols n 0)) (sym place) ∙ sym part) in
      ap not none
      ∙ ap (λ (t : List ℕ). not (length t == 0)) stands
      ∙ ap (passes (has_text entries)) (sym found)

  -- the positions of a run
  run-present : (run : List ℕ) (b : Bool) → All (λ spot. is_present (position_at spot) ≡ b) run
      → (i : ℕ) → has_number (map position_at run) i ≡ true → is_present i ≡ b
  run-present [] b all i has = absurd (cc)
  run-present (spot ∷ run) b all i has =
      go (nat_eq (position_at spot) i) refl
      (λ h. run-present run b (All-tail (λ s. is_present (position_at s) ≡ b) spot run all) i h)
      has
    where
      go : (here : Bool) → nat_eq (position_at spot) i ≡ here
          → (has_number (map position_at run) i ≡ true → is_present i ≡ b)
          → (here || has_number (map position_at run) i) ≡ true → is_present i ≡ b
      go true is later h = ap is_present (sym (eqb-true (position_at spot) i is))
          ∙ All-head (λ s. is_present (position_at s) ≡ b) spot run all
      go false is later h = later h

  joined : (before here left b : Bool) → (here ≡ true → left ≡ b)
      → ((before && left) || (b && here)) ≡ ((before || here) && left)
  joined before false left true h = grind arith
  joined before false left false h = grind arith
  joined before true left b h = let is : left ≡ b = h refl in last before left b is
    where
      last : (before left b : Bool) → left ≡ b
          → ((before && left) || (b && true)) ≡ ((before || true) && left)
      last true true b is = refl
      last true false b is = ap (λ (c : Bool). c && true) (sym is)
      last false true b is = ap (λ (c : Bool). c && true) (sym is)
      last false false b is = ap (λ (c : Bool). c && true) (sym is)

  -- one run more
  module _ (spots : List ℕ) (are : AreSpots symbols spots) (at end : ℕ) (to : List ℕ) (b : Bool)
      (from : at < end) (room : end ≤ length spots) (same : (k : ℕ) → at ≤ k → k < end
      → symbol_at (get_or spots k 0) ≡ symbol_at (get_or spots at 0))
      (told : b ≡ is_present (position_at (get_or spots at 0))) (gathered : (i : ℕ)
      → has_number to i ≡ (has_number (map position_at (take at spots)) i && is_present i)) where
    abbrev run : List ℕ
    run = take (end - at) (drop at spots)

    run-all : All (λ spot. is_present (position_at spot) ≡ b) run
    run-all k d lt =
        let short : k < end - at = omega (arith, lt, length-take (end - at) (drop at spots)) in
        let where-is : get_or (take (end - at) (drop at spots)) k d ≡ get_or spots (at + k) d =
        get_or-take (end - at) (drop at spots) k d short ∙ get_or-drop at spots k d in
        let in-range : at + k < length spots = omega (arith, short, room) in
        let first-spot : IsSpot symbols (get_or spots at 0) =
        are.each at 0 (omega (arith, from, room)) in
        let this-spot : IsSpot symbols (get_or spots (at + k) d) = are.each (at + k) d in-range in
        ap (λ (s : ℕ). is_present (position_at s)) where-is
        ∙ spot-stands (get_or spots (at + k) d) this-spot
        ∙ ap (λ (s : ℕ). has_text entries (f (symbol_at s)))
        (any-default spots (at + k) d 0 in-range)
        ∙ ap (λ (n : ℕ). has_text entries (f n))
        (same (at + k) (omega arith) (omega (arith, short)))
        ∙ sym (spot-stands (get_or spots at 0) first-spot)
        ∙ sym told

    has-more : (i : ℕ)
        → (has_number to i || (b && has_number (map position_at run) i))
        ≡ (has_number (map position_at (take end spots)) i && is_present i)
    has-more i =
        ap (λ (c : Bool). c || (b && has_number (map position_at run) i)) (gathered i)
        ∙ joined (has_number (map position_at (take at spots)) i)
        (has_number (map position_at run) i) (is_present i) b (run-present run b run-all i)
        ∙ ap (λ (c : Bool). c && is_present i) (sym whole)
      where
        split : take end spots ≡ take at spots ++ take (end - at) (drop at spots)
        split =
            let same : end ≡ at + (end - at) = omega (arith, from) in
            ap (λ (n : ℕ). take n spots) same ∙ take-add at (end - at) spots

        whole : has_number (map position_at (take end spots)) i
            ≡ (has_number (map position_at (take at spots)) i
            || has_number (map position_at (take (end - at) (drop at spots))) i)
        whole = ap (λ (l : List ℕ). has_number (map position_at l) i) split
            ∙ ap (λ (l : List ℕ). has_number l i)
            (map-append position_at (take at spots) (take (end - at) (drop at spots)))
            ∙ list_any-append (λ m. nat_eq m i) (map position_at (take at spots))
            (map position_at (take (end - at) (drop at spots)))

    pub run-passed : b ≡ false → (i : ℕ)
        → has_number to i ≡ (has_number (map position_at (take end spots)) i && is_present i)
    run-passed out i = or-false (has_number to i)
        ∙ ap (λ (c : Bool). has_number to i || (c && has_number (map position_at run) i)) (sym out)
        ∙ has-more i
      where
        or-false : (c : Bool) → c ≡ (c || false)
        or-false true = refl
        or-false false = refl

    pub run-pushed : b ≡ true → (new : List ℕ)
        → new ≡ to ++ map position_at (take (end - at) (drop at spots)) → (i : ℕ)
        → has_number new i ≡ (has_number (map position_at (take end spots)) i && is_present i)
    run-pushed inside new is i =
        ap (λ (l : List ℕ). has_number l i) is
        ∙ list_any-append (λ m. nat_eq m i) to (map position_at run)
        ∙ ap (λ (c : Bool). has_number to i || (c && has_number (map position_at run) i))
        (sym inside)
        ∙ has-more i

  -- all runs
  pub all-present : (spots : List ℕ) → AreSpots symbols spots → (at : ℕ) (to : List ℕ)
      → length spots ≤ at
      → ((i : ℕ)
      → has_number to i ≡ (has_number (map position_at (take at spots)) i && is_present i))
      → (i : ℕ) → has_number to i ≡ is_present i
  all-present spots are at to done gathered i =
      gathered i
      ∙ ap (λ (l : List ℕ). has_number (map position_at l) i && is_present i)
      (take_all at spots done) ∙ go (slice_get parts i) refl
    where
      go : (o : Option Part) → slice_get parts i ≡ o
          → (has_number (map position_at spots) i && passes (has_text entries) o)
          ≡ passes (has_text entries) o
      go None at = and-false (has_number (map position_at spots) i)
        where
          and-false : (c : Bool) → (c && false) ≡ false
          and-false true = refl
          and-false false = refl
      go (Some p) at =
          ap (λ (c : Bool). c && has_text entries p) (are.all i (symbol-within i p at))

  -- the positions are those of parts
  pub present-within : (ns : List ℕ) → ((i : ℕ) → has_number ns i ≡ is_present i)
      → All (λ i. i < length symbols) ns
  present-within ns has k d lt =
      there (slice_get parts (get_or ns k d)) refl (sym (has (get_or ns k d)) ∙ has-there ns k d lt)
    where
      there : (o : Option Part) → slice_get parts (get_or ns k d) ≡ o
          → passes (has_text entries) o ≡ true → get_or ns k d < length symbols
      there None at left = absurd (cc)
      there (Some p) at left = symbol-within (get_or ns k d) p at

-- the part at one position more
pub part-more : (f : ℕ → Part) (symbols positions : List ℕ) (to new whole : List Part) (k d : ℕ)
    → k < length positions → get_or positions k d < length symbols
    → new ≡ to ++ f (get_or symbols (get_or positions k d) 0) ∷ []
    → to ++ flat_map (λ i. found_at (slice_get (map f symbols) i)) (drop k positions) ≡ whole
    → new ++ flat_map (λ i. found_at (slice_get (map f symbols) i)) (drop (k + 1) positions)
    ≡ whole
part-more f symbols positions to new whole k d lt within is before =
    let parts : List Part = map f symbols in
    let at : ℕ = get_or positions k d in
    ap (λ (l : List Part).
    l ++ flat_map (λ i. found_at (slice_get parts i)) (drop (k + 1) positions)) is
    ∙ append_assoc to (f (get_or symbols at 0) ∷ [])
    (flat_map (λ i. found_at (slice_get parts i)) (drop (k + 1) positions))
    ∙ ap (λ (o : Option Part). to
    ++ (found_at o
    ++ flat_map (λ i. found_at (slice_get parts i)) (drop (k + 1) positions)))
    (sym (slice_get-map f symbols at ∙ ap (option_map f) (get-is symbols at 0 within)))
    ∙ ap (λ (l : List ℕ). to ++ flat_map (λ i. found_at (slice_get parts i)) l)
    (sym (drop_more positions k d lt))
    ∙ before

-- the parts of one symbol more
pub all-more : (f : ℕ → Part) (symbols : List ℕ) (to new : List Part) (i : ℕ)
    → i < length symbols → new ≡ to ++ f (get_or symbols i 0) ∷ [] → to ≡ map f (take i symbols)
    → new ≡ map f (take (i + 1) symbols)
all-more f symbols to new i lt is before = is
    ∙ ap (λ (l : List Part). l ++ f (get_or symbols i 0) ∷ []) before
    ∙ sym (ap (map f) (take_more symbols i 0 lt)
    ∙ map-append f (take i symbols) (get_or symbols i 0 ∷ []))

-- the place of a part is that of an entry
pub part-within : (n : ℕ) (f : ℕ → Part) (symbols : List ℕ) (i : ℕ)
    → AreWithin n (map f symbols) → i < length symbols → IsWithin n (f (get_or symbols i 0))
part-within n f symbols i within lt =
    let at : get_or (map f symbols) i (f 0) ≡ f (get_or symbols i 0) =
    get_or-map f symbols i 0 (f 0) lt in
    subst (IsWithin n) at (within i (f 0) (omega (arith, lt, length-map symbols f)))
