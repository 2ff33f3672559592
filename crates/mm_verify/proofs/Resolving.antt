-- An assertion whose variables have the places of their `$f` asks for and concludes what its frame
-- does.
use Rattle.std.proofs.Common.{◌≡◌, ℕ, suc, ◌+◌, ◌<◌, Bool, true, false, List, [], ◌∷◌, ◌++◌, length}
use Rattle.std.proofs.Common.{drop, get_or, map, flat_map, nat_eq, Option, Some, None, cond, refl}
use Rattle.std.proofs.Common.{ap, ◌∙◌, sym, subst, arith}
use Rattle.std.specs.Prelude.{◌&&◌, IfSome, All}
use Rattle.std.specs.List.{position_from, AllByRecursion}
use Rattle.std.proofs.lemmas.List.Elements.{All-from_recursion}
use Rattle.std.proofs.lemmas.List.{get_or-drop, drop-drop}
use Rattle.mm_frame.specs.Numbered.{NumberedHypothesis}
use Rattle.mm_frame.specs.PlainFrames.{types_number}
use Rattle.mm_verify.specs.declared.parts.Part.{Part}
use Rattle.mm_verify.specs.declared.parts.Wanted.{Wanted}
use Rattle.mm_verify.specs.declared.parts.Wanted.TheVariants as wanted
use Rattle.mm_verify.specs.Places.{place_of, place_in, symbol_of, ArePlaced}
use Rattle.mm_verify.specs.StatementView.{statement_parts}
use Rattle.mm_verify.specs.Resolved.{wanted_hypothesis, hypotheses_of, parts_in}
use Rattle.mm_verify.specs.Filling.{IsWithin, AreWithin, text_at, part_text, placed_text, filled}
use Rattle.mm_verify.specs.Filling.{is_wanted, are_wanted}
use Rattle.mm_database.specs.Frames.{floating, essential}
use Rattle.mm_database.specs.Stack.{behind_first, bindings_of, text_in}
use Rattle.mm_database.specs.Proofs.{substituted}
use Rattle.mm_frame.specs.NumberedSteps.{same_numbers, agrees, all_agree}

-- the text that entries give to a symbol, by the place of its `$f`
abbrev pub at_place : List (List ℕ) → ℕ → Option ℕ → List ℕ
at_place entries symbol None = symbol ∷ []
at_place entries symbol (Some place) = text_at entries place

-- the text that entries give to a symbol, by the bindings of hypotheses
abbrev pub bound : List NumberedHypothesis → List (List ℕ) → ℕ → List ℕ
bound hypotheses entries = text_in nat_eq (bindings_of hypotheses entries)

entry-here : (entries : List (List ℕ)) (k : ℕ) (e : List ℕ) (es : List (List ℕ))
    → e ∷ es ≡ drop k entries → get_or entries k [] ≡ e
entry-here entries k e es is =
    let at : k + 0 ≡ k = omega arith in
    sym (ap (λ (xs : List (List ℕ)).
    get_or xs 0 []) is ∙ get_or-drop k entries 0 [] ∙ ap (λ (n : ℕ). get_or entries n []) at)

entries-behind : (entries : List (List ℕ)) (k : ℕ) (e : List ℕ) (es : List (List ℕ))
    → e ∷ es ≡ drop k entries → es ≡ drop (k + 1) entries
entries-behind entries k e es is = ap (λ (xs : List (List ℕ)). drop 1 xs) is ∙ drop-drop 1 k entries

text-place : (entries : List (List ℕ)) (hypotheses : List NumberedHypothesis) (k : ℕ)
    (es : List (List ℕ)) (symbol : ℕ) → es ≡ drop k entries → length hypotheses ≡ length es
    → bound hypotheses es symbol
    ≡ at_place entries symbol (position_from (types_number symbol) k hypotheses)
text-place entries [] k es symbol is long = refl
text-place entries (h ∷ hs) k [] symbol is long = absurd (none (length hs) long)
  where
    none : (n : ℕ) → suc n ≡ 0 → ⊥
    none n e = omega (arith, e)
text-place entries (essential label statement ∷ hs) k (e ∷ es) symbol is long =
    text-place entries hs (k + 1) es symbol (entries-behind entries k e es is) (omega (arith, long))
text-place entries (floating label typecode variable ∷ hs) k (e ∷ es) symbol is long =
    go (nat_eq variable symbol) (text-place entries hs (k + 1) es symbol
    (entries-behind entries k e es is) (omega (arith, long)))
  where
    go : (b : Bool)
        → bound hs es symbol
        ≡ at_place entries symbol (position_from (types_number symbol) (k + 1) hs)
        → cond b (behind_first e) (bound hs es symbol)
        ≡ at_place entries symbol
        (cond b (Some k) (position_from (types_number symbol) (k + 1) hs))
    go true h = sym (ap behind_first (entry-here entries k e es is))
    go false h = h

pub sigma-place : (hypotheses : List NumberedHypothesis) (entries : List (List ℕ)) (symbol : ℕ)
    → length hypotheses ≡ length entries
    → bound hypotheses entries symbol ≡ at_place entries symbol (place_of hypotheses symbol)
sigma-place hypotheses entries symbol long =
    text-place entries hypotheses 0 entries symbol refl long

part-place : (entries : List (List ℕ)) (p : Part)
    → part_text entries p ≡ at_place entries (symbol_of p) (place_in p)
part-place entries p = go (place_in p)
  where
    go : (o : Option ℕ) → placed_text entries (symbol_of p) o ≡ at_place entries (symbol_of p) o
    go None = refl
    go (Some place) = refl

-- the first of some parts that have their places, and the others
pub first-placed : (hypotheses : List NumberedHypothesis) (p : Part) (ps : List Part)
    → ArePlaced hypotheses (p ∷ ps) → place_in p ≡ place_of hypotheses (symbol_of p)
first-placed hypotheses p ps h = ap (λ (os : List (Option ℕ)). get_or os 0 None) h

pub others-placed : (hypotheses : List NumberedHypothesis) (p : Part) (ps : List Part)
    → ArePlaced hypotheses (p ∷ ps) → ArePlaced hypotheses ps
others-placed hypotheses p ps h = ap (λ (os : List (Option ℕ)). drop 1 os) h

pub placed-front : (hypotheses : List NumberedHypothesis) (ps qs : List Part)
    → ArePlaced hypotheses (ps ++ qs) → ArePlaced hypotheses ps
placed-front hypotheses [] qs h = refl
placed-front hypotheses (p ∷ ps) qs h =
    ap (λ (o : Option ℕ). o ∷ map place_in ps) (first-placed hypotheses p (ps ++ qs) h)
    ∙ ap (λ (os : List (Option ℕ)). place_of hypotheses (symbol_of p) ∷ os)
    (placed-front hypotheses ps qs (others-placed hypotheses p (ps ++ qs) h))

pub placed-behind : (hypotheses : List NumberedHypothesis) (ps qs : List Part)
    → ArePlaced hypotheses (ps ++ qs) → ArePlaced hypotheses qs
placed-behind hypotheses [] qs h = h
placed-behind hypotheses (p ∷ ps) qs h =
    placed-behind hypotheses ps qs (others-placed hypotheses p (ps ++ qs) h)

pub filled-is : (hypotheses : List NumberedHypothesis) (entries : List (List ℕ)) (parts : List Part)
    → length hypotheses ≡ length entries → ArePlaced hypotheses parts
    → filled entries parts ≡ substituted (bound hypotheses entries) (map symbol_of parts)
filled-is hypotheses entries [] long h = refl
filled-is hypotheses entries (p ∷ ps) long h =
    let one : part_text entries p ≡ bound hypotheses entries (symbol_of p) =
    part-place entries p
    ∙ ap (λ (o : Option ℕ). at_place entries (symbol_of p) o)
    (first-placed hypotheses p ps h)
    ∙ sym (sigma-place hypotheses entries (symbol_of p) long) in
    ap (λ (t : List ℕ). t ++ filled entries ps) one
    ∙ ap (λ (t : List ℕ). bound hypotheses entries (symbol_of p) ++ t)
    (filled-is hypotheses entries ps long (others-placed hypotheses p ps h))

wanted-is : (hypotheses : List NumberedHypothesis) (entries : List (List ℕ)) (w : Wanted)
    (e : List ℕ) → length hypotheses ≡ length entries → ArePlaced hypotheses (parts_in w)
    → is_wanted entries w e ≡ agrees (bound hypotheses entries) (wanted_hypothesis w) e
wanted-is hypotheses entries (wanted.Typed label typecode variable) e long h = refl
wanted-is hypotheses entries (wanted.Stated label statement) e long h =
    ap (λ (t : List ℕ). same_numbers e t)
    (filled-is hypotheses entries (statement_parts statement) long h)

pub all-wanted-is : (hypotheses : List NumberedHypothesis) (entries : List (List ℕ))
    (ws : List Wanted) (es : List (List ℕ)) → length hypotheses ≡ length entries
    → ArePlaced hypotheses (flat_map parts_in ws)
    → are_wanted entries ws es ≡ all_agree (bound hypotheses entries) (hypotheses_of ws) es
all-wanted-is hypotheses entries [] [] long h = refl
all-wanted-is hypotheses entries [] (e ∷ es) long h = refl
all-wanted-is hypotheses entries (w ∷ ws) [] long h = refl
all-wanted-is hypotheses entries (w ∷ ws) (e ∷ es) long h =
    ap (λ (b : Bool). b && are_wanted entries ws es) (wanted-is hypotheses entries w e long
    (placed-front hypotheses (parts_in w) (flat_map parts_in ws) h))
    ∙ ap (λ (b : Bool). agrees (bound hypotheses entries) (wanted_hypothesis w) e && b)
    (all-wanted-is hypotheses entries ws es long
    (placed-behind hypotheses (parts_in w) (flat_map parts_in ws) h))

-- a place is below the length of the list
place-within : {K : Type 0} (t : K → Bool) (k : ℕ) (xs : List K)
    → IfSome (position_from t k xs) (λ i. i < k + length xs)
place-within t k [] = tt
place-within t k (x ∷ xs) = go (t x) (place-within t (k + 1) xs)
  where
    go : (b : Bool) → IfSome (position_from t (k + 1) xs) (λ i. i < k + 1 + length xs)
        → IfSome (cond b (Some k) (position_from t (k + 1) xs)) (λ i. i < k + suc (length xs))
    go true h = omega arith
    go false h = wider (position_from t (k + 1) xs) h
      where
        wider : (o : Option ℕ) → IfSome o (λ i. i < k + 1 + length xs)
            → IfSome o (λ i. i < k + suc (length xs))
        wider None h = tt
        wider (Some i) h = omega (arith, h)

-- two tests that imply each other are equal
pub same-test : (a b : Bool) → (a ≡ true → b ≡ true) → (b ≡ true → a ≡ true) → a ≡ b
same-test true true f g = refl
same-test true false f g = sym (f refl)
same-test false true f g = g refl
same-test false false f g = refl

pub both-true : (a b : Bool) → (a && b) ≡ true → (a ≡ true) × (b ≡ true)
both-true true b h = (refl, h)
both-true false b h = absurd (cc)

pub and-true : (a b : Bool) → a ≡ true → b ≡ true → (a && b) ≡ true
and-true a b h k = ap (λ (c : Bool). c && b) h ∙ k

-- parts that have their places ask for entries that exist

pub placed-within : (hypotheses : List NumberedHypothesis) (n : ℕ) (parts : List Part)
    → length hypotheses ≡ n → ArePlaced hypotheses parts → AreWithin n parts
placed-within hypotheses n parts long placed =
    All-from_recursion (IsWithin n) parts (each parts placed)
  where
    one : (p : Part) → place_in p ≡ place_of hypotheses (symbol_of p) → IsWithin n p
    one p at =
        subst (λ (o : Option ℕ). IfSome o (λ i. i < n)) (sym at)
        (subst (λ (m : ℕ). IfSome (place_of hypotheses (symbol_of p)) (λ i. i < m))
        (omega (arith, long))
        (place-within (types_number (symbol_of p)) 0 hypotheses))

    each : (parts : List Part) → ArePlaced hypotheses parts → AllByRecursion (IsWithin n) parts
    each [] placed = tt
    each (p ∷ ps) placed = (
      one p (first-placed hypotheses p ps placed),
      each ps (others-placed hypotheses p ps placed),
    )

pub placed-within-each : {X : Type 0} (f : X → List Part) (hypotheses : List NumberedHypothesis)
    (n : ℕ) (xs : List X) → length hypotheses ≡ n → ArePlaced hypotheses (flat_map f xs)
    → All (λ x. AreWithin n (f x)) xs
placed-within-each f hypotheses n xs long placed =
    All-from_recursion (λ x. AreWithin n (f x)) xs (each xs placed)
  where
    each : (xs : List _) → ArePlaced hypotheses (flat_map f xs)
        → AllByRecursion (λ x. AreWithin n (f x)) xs
    each [] placed = tt
    each (x ∷ xs) placed = (
      placed-within hypotheses n (f x) long
          (placed-front hypotheses (f x) (flat_map f xs) placed),
      each xs (placed-behind hypotheses (f x) (flat_map f xs) placed),
    )
