-- The groups of an assertion are kept apart if and only if the pairs of its frame are.
use Rattle.std.proofs.Common.{◌≡◌, ℕ, ◌+◌, Bool, true, false, List, [], ◌∷◌, length, map, flat_map}
use Rattle.std.proofs.Common.{nat_eq, Option, Some, None, cond, refl, ap, ◌∙◌, sym, arith}
use Rattle.std.specs.Prelude.{not, ◌&&◌, ◌||◌, is_some}
use Rattle.std.specs.List.{position_from, list_any, list_all}
use Rattle.std.specs.Global.{Vec}
use Rattle.std.proofs.lemmas.Bool.{or_left, or_right}
use Rattle.mm_frame.specs.Numbered.{NumberedHypothesis, NumberedFrame}
use Rattle.mm_frame.specs.PlainFrames.{types_number, has_number, in_group, in_groups}
use Rattle.mm_verify.specs.declared.parts.Part.{Part}
use Rattle.mm_verify.specs.Places.{place_of, place_in, symbol_of, parts_of, symbols_in, ArePlaced}
use Rattle.mm_verify.specs.Filling.{places_apart, are_parts_apart, is_group_apart, are_groups_apart}
use Rattle.mm_verify.proofs.Resolving.{same-test, both-true, and-true, first-placed, others-placed}
use Rattle.mm_verify.proofs.Resolving.{placed-front, placed-behind, at_place, bound, sigma-place}
use Rattle.mm_database.specs.Frames.{floating, essential}
use Rattle.mm_database.specs.Proofs.{typed_variables, texts_apart, pair_apart, keeps_apart}
use Rattle.mm_frame.specs.NumberedSteps.{NumberedPlace, numbers_apart}

eq-from : (a b : ℕ) → nat_eq a b ≡ true → a ≡ b
eq-from a b h = grind (arith, h)

eq-same : (a : ℕ) → nat_eq a a ≡ true
eq-same a = grind arith

-- the parts of a group, and groups

abbrev IsAt : List NumberedHypothesis → Part → Type 0
IsAt hypotheses p = place_in p ≡ place_of hypotheses (symbol_of p)

parts-at : (hypotheses : List NumberedHypothesis) (f : Part → Bool) (symbol : ℕ) (ps : List Part)
    → ArePlaced hypotheses ps → list_all f ps ≡ true → has_number (map symbol_of ps) symbol ≡ true
    → (p : Part) × IsAt hypotheses p × (f p ≡ true) × (symbol_of p ≡ symbol)
parts-at hypotheses f symbol [] placed h k = absurd (cc)
parts-at hypotheses f symbol (p ∷ ps) placed h k =
    go (nat_eq (symbol_of p) symbol) refl (parts-at hypotheses f symbol ps
    (others-placed hypotheses p ps placed) (both-true (f p) (list_all f ps) h).1) k
  where
    go : (b : Bool) → nat_eq (symbol_of p) symbol ≡ b
        → (has_number (map symbol_of ps) symbol ≡ true
        → (q : Part) × IsAt hypotheses q × (f q ≡ true) × (symbol_of q ≡ symbol))
        → (b || has_number (map symbol_of ps) symbol) ≡ true
        → (q : Part) × IsAt hypotheses q × (f q ≡ true) × (symbol_of q ≡ symbol)
    go true e rest k = (
      p,
      first-placed hypotheses p ps placed,
      (both-true (f p) (list_all f ps) h).0,
      eq-from (symbol_of p) symbol e,
    )
    go false e rest k = rest k

groups-at : (hypotheses : List NumberedHypothesis) (f : Vec Part → Bool) (u v : ℕ)
    (gs : List (Vec Part)) → ArePlaced hypotheses (flat_map parts_of gs) → list_all f gs ≡ true
    → in_groups (map symbols_in gs) u v ≡ true
    → (g : Vec Part) × ArePlaced hypotheses (parts_of g) × (f g ≡ true)
    × (in_group u v (symbols_in g) ≡ true)
groups-at hypotheses f u v [] placed h k = absurd (cc)
groups-at hypotheses f u v (g ∷ gs) placed h k =
    go (in_group u v (symbols_in g)) refl (groups-at hypotheses f u v gs
    (placed-behind hypotheses (parts_of g) (flat_map parts_of gs) placed)
    (both-true (f g) (list_all f gs) h).1) k
  where
    go : (b : Bool) → in_group u v (symbols_in g) ≡ b
        → (in_groups (map symbols_in gs) u v ≡ true
        → (i : Vec Part) × ArePlaced hypotheses (parts_of i) × (f i ≡ true)
        × (in_group u v (symbols_in i) ≡ true))
        → (b || in_groups (map symbols_in gs) u v) ≡ true
        → (i : Vec Part) × ArePlaced hypotheses (parts_of i) × (f i ≡ true)
        × (in_group u v (symbols_in i) ≡ true)
    go true e rest k = (
      g,
      placed-front hypotheses (parts_of g) (flat_map parts_of gs) placed,
      (both-true (f g) (list_all f gs) h).0,
      e,
    )
    go false e rest k = rest k

parts-from : (hypotheses : List NumberedHypothesis) (f : Part → Bool) (ps : List Part)
    → ArePlaced hypotheses ps
    → ((p : Part) → IsAt hypotheses p → has_number (map symbol_of ps) (symbol_of p) ≡ true
    → f p ≡ true) → list_all f ps ≡ true
parts-from hypotheses f [] placed k = refl
parts-from hypotheses f (p ∷ ps) placed k =
    and-true (f p) (list_all f ps)
    (k p (first-placed hypotheses p ps placed) (or_left (nat_eq (symbol_of p) (symbol_of p))
    (has_number (map symbol_of ps) (symbol_of p)) (eq-same (symbol_of p))))
    (parts-from hypotheses f ps (others-placed hypotheses p ps placed) (λ q at has. k q at
    (or_right (nat_eq (symbol_of p) (symbol_of q)) (has_number (map symbol_of ps) (symbol_of q))
    has)))

groups-from : (hypotheses : List NumberedHypothesis) (f : Vec Part → Bool) (gs : List (Vec Part))
    → ArePlaced hypotheses (flat_map parts_of gs)
    → ((g : Vec Part) → ArePlaced hypotheses (parts_of g)
    → ((u v : ℕ) → in_group u v (symbols_in g) ≡ true
    → in_groups (map symbols_in gs) u v ≡ true) → f g ≡ true) → list_all f gs ≡ true
groups-from hypotheses f [] placed k = refl
groups-from hypotheses f (g ∷ gs) placed k =
    and-true (f g) (list_all f gs)
    (k g (placed-front hypotheses (parts_of g) (flat_map parts_of gs) placed)
    (λ u v h. or_left (in_group u v (symbols_in g)) (in_groups (map symbols_in gs) u v) h))
    (groups-from hypotheses f gs
    (placed-behind hypotheses (parts_of g) (flat_map parts_of gs) placed) (λ i at inside. k i at
    (λ u v h. or_right (in_group u v (symbols_in g)) (in_groups (map symbols_in gs) u v)
    (inside u v h))))

-- the variables of hypotheses are those that they type

abbrev is_typed : List NumberedHypothesis → ℕ → Bool
is_typed hypotheses u = list_any (types_number u) hypotheses

placed-typed : {K : Type 0} (t : K → Bool) (k : ℕ) (xs : List K)
    → is_some (position_from t k xs) ≡ list_any t xs
placed-typed t k [] = refl
placed-typed t k (x ∷ xs) = go (t x) (placed-typed t (k + 1) xs)
  where
    go : (b : Bool) → is_some (position_from t (k + 1) xs) ≡ list_any t xs
        → is_some (cond b (Some k) (position_from t (k + 1) xs)) ≡ (b || list_any t xs)
    go true h = refl
    go false h = h

variables-from : (f : ℕ → Bool) (hs : List NumberedHypothesis)
    → ((u : ℕ) → is_typed hs u ≡ true → f u ≡ true) → list_all f (typed_variables hs) ≡ true
variables-from f [] k = refl
variables-from f (floating label typecode v ∷ hs) k =
    and-true (f v) (list_all f (typed_variables hs))
    (k v (or_left (nat_eq v v) (is_typed hs v) (eq-same v)))
    (variables-from f hs (λ u h. k u (or_right (nat_eq v u) (is_typed hs u) h)))
variables-from f (essential label statement ∷ hs) k = variables-from f hs k

variables-at : (f : ℕ → Bool) (u : ℕ) (hs : List NumberedHypothesis)
    → list_all f (typed_variables hs) ≡ true → is_typed hs u ≡ true → f u ≡ true
variables-at f u [] h k = absurd (cc)
variables-at f u (floating label typecode v ∷ hs) h k =
    go (nat_eq v u) refl
    (variables-at f u hs (both-true (f v) (list_all f (typed_variables hs)) h).1) k
  where
    go : (b : Bool) → nat_eq v u ≡ b → (is_typed hs u ≡ true → f u ≡ true)
        → (b || is_typed hs u) ≡ true → f u ≡ true
    go true e rest k =
        ap f (sym (eq-from v u e)) ∙ (both-true (f v) (list_all f (typed_variables hs)) h).0
    go false e rest k = rest k
variables-at f u (essential label statement ∷ hs) h k = variables-at f u hs h k

-- the texts of two places that exist
texts-at : (p : NumberedPlace) (entries : List (List ℕ)) (u v : ℕ) (ou ov : Option ℕ)
    → is_some ou ≡ true → is_some ov ≡ true
    → places_apart p entries ou ov
    ≡ texts_apart (numbers_apart p) (at_place entries u ou) (at_place entries v ov)
texts-at p entries u v None ov a b = absurd (cc)
texts-at p entries u v (Some i) None a b = absurd (cc)
texts-at p entries u v (Some i) (Some j) a b = refl

places-from : (p : NumberedPlace) (entries : List (List ℕ)) (u v : ℕ) (ou ov : Option ℕ)
    → (is_some ou ≡ true → is_some ov ≡ true
    → texts_apart (numbers_apart p) (at_place entries u ou) (at_place entries v ov) ≡ true)
    → places_apart p entries ou ov ≡ true
places-from p entries u v None ov k = refl
places-from p entries u v (Some i) None k = refl
places-from p entries u v (Some i) (Some j) k = k refl refl

module _ (p : NumberedPlace) (f : NumberedFrame) (entries : List (List ℕ))
    (groups : List (Vec Part)) (long : length f.hypotheses ≡ length entries)
    (placed : ArePlaced f.hypotheses (flat_map parts_of groups))
    (apart : (a b : ℕ) → f.apart a b ≡ in_groups (map symbols_in groups) a b) where
  abbrev sigma : ℕ → List ℕ
  sigma = bound f.hypotheses entries

  abbrev texts : ℕ → ℕ → Bool
  texts u v = texts_apart (numbers_apart p) (sigma u) (sigma v)

  typed-place : (u : ℕ) → is_typed f.hypotheses u ≡ true → is_some (place_of f.hypotheses u) ≡ true
  typed-place u h = placed-typed (types_number u) 0 f.hypotheses ∙ h

  texts-placed : (u v : ℕ)
      → texts u v
      ≡ texts_apart (numbers_apart p) (at_place entries u (place_of f.hypotheses u))
      (at_place entries v (place_of f.hypotheses v))
  texts-placed u v =
      ap (λ (t : List ℕ). texts_apart (numbers_apart p) t (sigma v))
      (sigma-place f.hypotheses entries u long)
      ∙ ap (λ (t : List ℕ).
      texts_apart (numbers_apart p) (at_place entries u (place_of f.hypotheses u)) t)
      (sigma-place f.hypotheses entries v long)

  -- two different variables of a group whose parts are apart
  pair-holds : (u v : ℕ) → is_typed f.hypotheses u ≡ true → is_typed f.hypotheses v ≡ true
      → nat_eq u v ≡ false → (a b : Part) → IsAt f.hypotheses a → IsAt f.hypotheses b
      → symbol_of a ≡ u → symbol_of b ≡ v → are_parts_apart p entries a b ≡ true → texts u v ≡ true
  pair-holds u v tu tv differ a b ata atb sa sb h =
      let unlike : nat_eq (symbol_of a) (symbol_of b) ≡ false =
      ap (λ (n : ℕ). nat_eq n (symbol_of b)) sa ∙ ap (λ (n : ℕ). nat_eq u n) sb ∙ differ in
      let places : places_apart p entries (place_in a) (place_in b) ≡ true =
      sym (ap (λ (c : Bool). c || places_apart p entries (place_in a) (place_in b)) unlike)
      ∙ h in
      let pu : place_in a ≡ place_of f.hypotheses u =
      ata ∙ ap (λ (n : ℕ). place_of f.hypotheses n) sa in
      let pv : place_in b ≡ place_of f.hypotheses v =
      atb ∙ ap (λ (n : ℕ). place_of f.hypotheses n) sb in
      let moved : places_apart p entries (place_of f.hypotheses u) (place_of f.hypotheses v) ≡
      true =
      sym (ap (λ (o : Option ℕ). places_apart p entries o (place_in
      b)) pu ∙ ap (λ (o : Option ℕ). places_apart p entries (place_of f.hypotheses u) o) pv)
      ∙ places in
      texts-placed u v
      ∙
      sym (texts-at p entries u v (place_of f.hypotheses
      u) (place_of f.hypotheses v) (typed-place u tu) (typed-place v tv)) ∙ moved

  group-holds : (u v : ℕ) → is_typed f.hypotheses u ≡ true → is_typed f.hypotheses v ≡ true
      → (g : Vec Part) → ArePlaced f.hypotheses (parts_of g)
      → is_group_apart p entries (parts_of g) ≡ true → in_group u v (symbols_in g) ≡ true
      → texts u v ≡ true
  group-holds u v tu tv g pg hg ig =
      let differ =
      both-true (not (nat_eq u v)) (has_number (symbols_in g) u && has_number (symbols_in g) v)
      ig in
      let inside = both-true (has_number (symbols_in g) u) (has_number (symbols_in g) v) differ.1 in
      let a =
      parts-at f.hypotheses (λ q. list_all (are_parts_apart p entries q) (parts_of g)) u
      (parts_of g) pg hg inside.0 in
      let b =
      parts-at f.hypotheses (are_parts_apart p entries a.0) v (parts_of g) pg a.2 inside.1 in
      pair-holds u v tu tv (unequal (nat_eq u v) differ.0) a.0 b.0 a.1 b.1 a.3 b.3 b.2
    where
      unequal : (c : Bool) → not c ≡ true → c ≡ false
      unequal true h = absurd (cc)
      unequal false h = refl

  frame-holds : are_groups_apart p entries groups ≡ true
      → keeps_apart (numbers_apart p) f sigma ≡ true
  frame-holds h =
      variables-from
      (λ u. list_all (pair_apart (numbers_apart p) f sigma u) (typed_variables f.hypotheses))
      f.hypotheses (λ u tu.
      variables-from (pair_apart (numbers_apart p) f sigma u) f.hypotheses
      (λ v tv. pair u v tu tv (in_groups (map symbols_in groups) u v) refl))
    where
      pair : (u v : ℕ) → is_typed f.hypotheses u ≡ true → is_typed f.hypotheses v ≡ true
          → (b : Bool) → in_groups (map symbols_in groups) u v ≡ b
          → (not (f.apart u v) || texts u v) ≡ true
      pair u v tu tv true e =
          let g =
          groups-at f.hypotheses (λ i. is_group_apart p entries (parts_of i)) u v groups placed
          h e in
          ap (λ (c : Bool). not c || texts u v) (apart u v ∙ e)
          ∙ group-holds u v tu tv g.0 g.1 g.2 g.3
      pair u v tu tv false e = ap (λ (c : Bool). not c || texts u v) (apart u v ∙ e)

  -- two parts of a group, if the pairs of the frame are apart
  parts-hold : keeps_apart (numbers_apart p) f sigma ≡ true → (g : Vec Part)
      → ((u v : ℕ) → in_group u v (symbols_in g) ≡ true
      → in_groups (map symbols_in groups) u v ≡ true) → (a b : Part) → IsAt f.hypotheses a
      → IsAt f.hypotheses b → has_number (symbols_in g) (symbol_of a) ≡ true
      → has_number (symbols_in g) (symbol_of b) ≡ true → (c : Bool)
      → nat_eq (symbol_of a) (symbol_of b) ≡ c
      → (c || places_apart p entries (place_in a) (place_in b)) ≡ true
  parts-hold k g inside a b ata atb hasa hasb true e = refl
  parts-hold k g inside a b ata atb hasa hasb false e =
      let u = symbol_of a in
      let v = symbol_of b in
      let group : in_group u v (symbols_in g) ≡ true =
      ap (λ (c : Bool). not c && (has_number (symbols_in g) u && has_number (symbols_in g) v)) e
      ∙ and-true (has_number (symbols_in g) u) (has_number (symbols_in g) v) hasa hasb in
      let listed : f.apart u v ≡ true = apart u v ∙ inside u v group in
      ap (λ (o : Option ℕ). places_apart p entries o (place_in b)) ata
      ∙ ap (λ (o : Option ℕ). places_apart p entries (place_of f.hypotheses u) o) atb
      ∙ places-from p entries u v (place_of f.hypotheses u) (place_of f.hypotheses v) (λ su sv.
      let tu = sym (placed-typed (types_number u) 0 f.hypotheses) ∙ su in
      let tv = sym (placed-typed (types_number v) 0 f.hypotheses) ∙ sv in
      let row =
      variables-at (λ w.
      list_all (pair_apart (numbers_apart p) f sigma w) (typed_variables f.hypotheses))
      u f.hypotheses k tu in
      let pair = variables-at (pair_apart (numbers_apart p) f sigma u) v f.hypotheses row tv in
      sym (texts-placed u v) ∙ sym (ap (λ (c : Bool). not c || texts u v) listed) ∙ pair)

  groups-hold : keeps_apart (numbers_apart p) f sigma ≡ true
      → are_groups_apart p entries groups ≡ true
  groups-hold k =
      groups-from f.hypotheses (λ g. is_group_apart p entries (parts_of g)) groups placed
      (λ g pg inside.
      parts-from f.hypotheses (λ a. list_all (are_parts_apart p entries a) (parts_of g))
      (parts_of g) pg (λ a ata hasa.
      parts-from f.hypotheses (are_parts_apart p entries a) (parts_of g) pg (λ b atb hasb.
      parts-hold k g inside a b ata atb hasa hasb (nat_eq (symbol_of a) (symbol_of b)) refl)))

  pub groups-apart-is : are_groups_apart p entries groups ≡ keeps_apart (numbers_apart p) f sigma
  groups-apart-is =
      same-test (are_groups_apart p entries groups) (keeps_apart (numbers_apart p) f sigma)
      frame-holds groups-hold
