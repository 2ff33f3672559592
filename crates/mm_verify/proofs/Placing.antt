-- Laws on the places of variables.
use Rattle.std.proofs.Common.{◌≡◌, ℕ, suc, ◌+◌, ◌<◌, Bool, true, false, List, [], ◌∷◌, ◌++◌, length}
use Rattle.std.proofs.Common.{take, drop, get_or, map, Option, Some, None, cond, nat_eq, refl, ap}
use Rattle.std.proofs.Common.{◌∙◌, sym, arith, ◌≤◌}
use Rattle.std.specs.Prelude.{IfSome}
use Rattle.std.specs.BTreeMap.{BTreeMap}
use Rattle.std.proofs.lemmas.List.{take_more, drop_more, length-take-le}
use Rattle.std.specs.List.{position_from}
use Rattle.mm_frame.specs.Numbered.{NumberedHypothesis}
use Rattle.mm_frame.specs.PlainFrames.{types_number, plain_hypotheses}
use Rattle.mm_verify.specs.declared.parts.Part.{Part}
use Rattle.mm_verify.specs.Places.{first_place, place_of, place_in, symbol_of, ArePlaced, IsTable}
use Rattle.mm_verify.specs.LongStatementView.{number_of_place, part_by}
use Rattle.mm_verify.specs.Locating.{AreLocated}
use Rattle.mm_verify.specs.declared.finding.Places.{Places}

pub position_from-push : {K : Type 0} (t : K → Bool) (i : ℕ) (xs : List K) (x : K)
    → position_from t i (xs ++ x ∷ []) ≡ first_place (position_from t i xs) (t x) (i + length xs)
position_from-push t i [] x = here (t x)
  where
    here : (b : Bool) → cond b (Some i) None ≡ first_place None b (i + 0)
    here true = ap (λ (n : ℕ). Some n) (omega arith)
    here false = refl
position_from-push t i (y ∷ ys) x = go (t y) (position_from-push t (i + 1) ys x)
  where
    go : (b : Bool)
        → position_from t (i + 1) (ys ++ x ∷ [])
        ≡ first_place (position_from t (i + 1) ys) (t x) (i + 1 + length ys)
        → cond b (Some i) (position_from t (i + 1) (ys ++ x ∷ []))
        ≡ first_place (cond b (Some i) (position_from t (i + 1) ys)) (t x) (i + suc (length ys))
    go true h = refl
    go false h = h ∙ ap (λ (n : ℕ). first_place (position_from t (i + 1) ys) (t x) n) (omega arith)

pub placed : (p : Places) (others : List NumberedHypothesis) (parts : List Part)
    → others ≡ plain_hypotheses p.hyps.now → AreLocated p parts → ArePlaced others parts
placed p others parts same located = located
    ∙ ap (λ (h : List NumberedHypothesis). map (place_of h) (map symbol_of parts)) (sym same)

-- one more hypothesis
pub place_more : (all : List NumberedHypothesis) (i : ℕ) (h : NumberedHypothesis) (symbol : ℕ)
    → i < length all → h ≡ get_or all i h
    → first_place (place_of (take i all) symbol) (types_number symbol h) i
    ≡ place_of (take (i + 1) all) symbol
place_more all i h symbol lt is =
    let t = types_number symbol in
    let len : 0 + length (take i all) ≡ i =
    omega (arith, length-take-le i all (omega (arith, lt))) in
    sym (ap (λ (xs : List NumberedHypothesis). position_from t 0 xs) (take_more all i h lt)
    ∙ ap (λ (x : NumberedHypothesis). position_from t 0 (take i all ++ x ∷ [])) (sym is)
    ∙ position_from-push t 0 (take i all) h
    ∙ ap (λ (n : ℕ). first_place (position_from t 0 (take i all)) (t h) n) len)

-- the hypothesis at a place types the variable, or else the search goes on after it
pub place-here : (all : List NumberedHypothesis) (symbol i : ℕ) (h : NumberedHypothesis)
    → i < length all → h ≡ get_or all i h → types_number symbol h ≡ true
    → position_from (types_number symbol) i (drop i all) ≡ place_of all symbol
    → Some i ≡ place_of all symbol
place-here all symbol i h lt is types was =
    sym (ap (λ (hs : List NumberedHypothesis). position_from (types_number symbol) i
    hs) (drop_more all i h lt ∙ ap (λ (g : NumberedHypothesis). g ∷ drop (i + 1) all) (sym is))
    ∙ ap (λ (b : Bool).
    cond b (Some i) (position_from (types_number symbol) (i + 1) (drop (i + 1) all)))
    types) ∙ was

pub place-behind : (all : List NumberedHypothesis) (symbol i : ℕ) (h : NumberedHypothesis)
    → i < length all → h ≡ get_or all i h → types_number symbol h ≡ false
    → position_from (types_number symbol) i (drop i all) ≡ place_of all symbol
    → position_from (types_number symbol) (i + 1) (drop (i + 1) all) ≡ place_of all symbol
place-behind all symbol i h lt is types was =
    sym (ap (λ (hs : List NumberedHypothesis). position_from (types_number symbol) i
    hs) (drop_more all i h lt ∙ ap (λ (g : NumberedHypothesis). g ∷ drop (i + 1) all) (sym is))
    ∙ ap (λ (b : Bool).
    cond b (Some i) (position_from (types_number symbol) (i + 1) (drop (i + 1) all)))
    types) ∙ was

pub place-nowhere : (all : List NumberedHypothesis) (symbol i : ℕ) → drop i all ≡ []
    → position_from (types_number symbol) i (drop i all) ≡ place_of all symbol
    → None ≡ place_of all symbol
place-nowhere all symbol i none was =
    sym (ap (λ (hs : List NumberedHypothesis). position_from (types_number symbol) i hs) none) ∙ was

-- a place is that of a hypothesis
pub place-below : {K : Type 0} (t : K → Bool) (i : ℕ) (xs : List K)
    → IfSome (position_from t i xs) (λ p. p < i + length xs)
place-below t i [] = record {}
place-below t i (x ∷ xs) = go (t x) (place-below t (i + 1) xs)
  where
    raised : (o : Option ℕ) → IfSome o (λ p. p < i + 1 + length xs)
        → IfSome o (λ p. p < i + suc (length xs))
    raised None h = record {}
    raised (Some p) h = omega (arith, h)

    go : (b : Bool) → IfSome (position_from t (i + 1) xs) (λ p. p < i + 1 + length xs)
        → IfSome (cond b (Some i) (position_from t (i + 1) xs)) (λ p. p < i + suc (length xs))
    go true h = omega arith
    go false h = raised (position_from t (i + 1) xs) h

-- the parts that a table gives symbols
module _ (places : BTreeMap ℕ ℕ) (all : List NumberedHypothesis) (is : IsTable places all)
    (few : length all ≤ 4294967295) where
  part-placed : (symbol : ℕ) → place_in (part_by places symbol) ≡ place_of all symbol
  part-placed symbol =
      ap (λ (o : Option ℕ). place_in (record { symbol = symbol; place = number_of_place o }))
      (is symbol)
      ∙ go (place_of all symbol) (place-below (types_number symbol) 0 all)
    where
      go : (o : Option ℕ) → IfSome o (λ p. p < 0 + length all)
          → place_in (record { symbol = symbol; place = number_of_place o }) ≡ o
      go None h = refl
      go (Some p) h =
          let other : nat_eq p 4294967295 ≡ false = grind (arith, h, few) in
          ap (λ (b : Bool). cond b None (Some p)) other

  pub parts-placed : (symbols : List ℕ)
      → map place_in (map (part_by places) symbols) ≡ map (place_of all) symbols
  parts-placed [] = refl
  parts-placed (n ∷ ns) =
      ap (λ (o : Option ℕ). o ∷ map place_in (map (part_by places) ns)) (part-placed n)
      ∙ ap (λ (l : List (Option ℕ)). place_of all n ∷ l) (parts-placed ns)

pub parts-symbols : (places : BTreeMap ℕ ℕ) (symbols : List ℕ)
    → map symbol_of (map (part_by places) symbols) ≡ symbols
parts-symbols places [] = refl
parts-symbols places (n ∷ ns) = ap (λ (l : List ℕ). n ∷ l) (parts-symbols places ns)
