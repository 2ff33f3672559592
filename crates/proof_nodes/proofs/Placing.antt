-- Labels and their places in a table.
use Rattle.std.proofs.Common.{◌≡◌, ℕ, zero, suc, Bool, true, false, cond, List}
use Rattle.std.proofs.Common.{[], ◌∷◌, ◌++◌, length, Option, Some, None, refl, sym, ap, ◌∙◌, subst}
use Rattle.std.proofs.Common.{append-nil, append_assoc}
use Rattle.std.specs.Prelude.{slice_get, MatchOption, nat_eq}
use Rattle.std.proofs.lemmas.Bool.{eqb-true, eqb-false}
use Rattle.std.proofs.lemmas.Grind.{flat_map-append}
use Rattle.indexmap.specs.IndexMap.{IndexMap, get}
use Rattle.proof_nodes.specs.Walking.{label_of, labels_of}
use Rattle.proof_nodes.specs.Numbering.{IsNoneOf, AreNew, AreAmong, IsPlaced, ArePlaced}
use Rattle.proof_nodes.specs.Numbering.{SpellsStep, SpellsSteps}
use Rattle.proof_nodes.specs.declared.walk.ProofStep.{ProofStep}
use Rattle.proof_nodes.specs.declared.walk.ProofStep.TheVariants.{Cites, CitesAndSaves, Repeats}
use Rattle.proof_nodes.proofs.Growing.{slice_get-left, slice_get-seam}

pub IsNoneOf-append : (n : ℕ) (xs ys : List ℕ) → IsNoneOf n xs → IsNoneOf n ys
    → IsNoneOf n (xs ++ ys)
IsNoneOf-append n [] ys h k = k
IsNoneOf-append n (x ∷ xs) ys h k = (h.0, IsNoneOf-append n xs ys h.1 k)

pub IsNoneOf-front : (n : ℕ) (xs ys : List ℕ) → IsNoneOf n (xs ++ ys) → IsNoneOf n xs
IsNoneOf-front n [] ys h = tt
IsNoneOf-front n (x ∷ xs) ys h = (h.0, IsNoneOf-front n xs ys h.1)

pub none_is : (n : ℕ) (xs : List ℕ) (i : ℕ) → IsNoneOf n xs → slice_get xs i ≡ Some n → ⊥
none_is n [] i h is = cc
none_is n (x ∷ xs) zero h is = let same : x ≡ n = cc in h.0 same
none_is n (x ∷ xs) (suc i) h is = none_is n xs i h.1 is

-- the places in a table and one more label
place_more : (label other : ℕ) (table : List ℕ) (found : Option ℕ) (same : Bool)
    → nat_eq label other ≡ same
    → MatchOption found (IsNoneOf other table) (λ place. slice_get table place ≡ Some other)
    → MatchOption (cond same (Some (length table)) found) (IsNoneOf other (table ++ label ∷ []))
    (λ place. slice_get (table ++ label ∷ []) place ≡ Some other)
place_more label other table found true is h =
    slice_get-seam table label [] ∙ ap (λ n. Some n) (eqb-true label other is)
place_more label other table None false is h =
    IsNoneOf-append other table (label ∷ []) h (eqb-false label other is, tt)
place_more label other table (Some place) false is h =
    slice_get-left table (label ∷ []) place other h

pub places-more : {S : Type 0} (old new : IndexMap ℕ ℕ S) (label len : ℕ) (table more : List ℕ)
    → len ≡ length table → more ≡ table ++ label ∷ []
    → ((q : ℕ) → get nat_eq new q ≡ cond (nat_eq label q) (Some len) (get nat_eq old q))
    → ((q : ℕ) → MatchOption (get nat_eq old q) (IsNoneOf q table)
    (λ place. slice_get table place ≡ Some q))
    → (q : ℕ) → MatchOption (get nat_eq new q) (IsNoneOf q more)
    (λ place. slice_get more place ≡ Some q)
places-more old new label len table more long is updates places q =
    subst (λ (ls : List ℕ). MatchOption (get nat_eq new q) (IsNoneOf q ls)
    (λ place. slice_get ls place ≡ Some q)) (sym is)
    (subst (λ (o : Option ℕ). MatchOption o (IsNoneOf q (table ++ label ∷ []))
    (λ place. slice_get (table ++ label ∷ []) place ≡ Some q))
    (sym (updates q ∙ ap (λ n. cond (nat_eq label q) (Some n) (get nat_eq old q)) long))
    (place_more label q table (get nat_eq old q) (nat_eq label q) refl (places q)))

pub AreNew-append : (table xs ys : List ℕ) → AreNew table xs → AreNew (table ++ xs) ys
    → AreNew table (xs ++ ys)
AreNew-append table [] ys h k = subst (λ (ls : List ℕ). AreNew ls ys) (append-nil table) k
AreNew-append table (x ∷ xs) ys h k = (
  h.0,
  AreNew-append (table ++ x ∷ []) xs ys h.1
      (subst (λ (ls : List ℕ). AreNew ls ys) (sym (append_assoc table (x ∷ []) xs)) k),
)

among_left : (labels more : List ℕ) (l : ℕ) → (i : ℕ) × (slice_get labels i ≡ Some l)
    → (i : ℕ) × (slice_get (labels ++ more) i ≡ Some l)
among_left labels more l h = (h.0, slice_get-left labels more h.0 l h.1)

pub among_right : (front labels : List ℕ) (l : ℕ) → (i : ℕ) × (slice_get labels i ≡ Some l)
    → (i : ℕ) × (slice_get (front ++ labels) i ≡ Some l)
among_right [] labels l h = h
among_right (x ∷ front) labels l h =
    let r : (i : ℕ) × (slice_get (front ++ labels) i ≡ Some l) = among_right front labels l h in
    (suc r.0, r.1)

pub AreAmong-append : (labels more xs ys : List ℕ) → AreAmong labels xs → AreAmong more ys
    → AreAmong (labels ++ more) (xs ++ ys)
AreAmong-append labels more [] [] h k = tt
AreAmong-append labels more [] (y ∷ ys) h k =
    (among_right labels more y k.0, AreAmong-append labels more [] ys tt k.1)
AreAmong-append labels more (x ∷ xs) ys h k =
    (among_left labels more x h.0, AreAmong-append labels more xs ys h.1 k)

pub labels_of-push : (steps : List ProofStep) (step : ProofStep)
    → labels_of (steps ++ step ∷ []) ≡ labels_of steps ++ label_of step
labels_of-push steps step =
    flat_map-append label_of steps (step ∷ [])
    ∙ ap (λ (ls : List ℕ). labels_of steps ++ ls) (append-nil (label_of step))

IsPlaced-wider : (table more : List ℕ) (step placed : ProofStep) → IsPlaced table step placed
    → IsPlaced (table ++ more) step placed
IsPlaced-wider table more (Cites label) placed (p, is, at) =
    (p, is, slice_get-left table more p label at)
IsPlaced-wider table more (CitesAndSaves label) placed (p, is, at) =
    (p, is, slice_get-left table more p label at)
IsPlaced-wider table more (Repeats n) placed is = is

pub ArePlaced-wider : (table more : List ℕ) (steps placed : List ProofStep)
    → ArePlaced table steps placed → ArePlaced (table ++ more) steps placed
ArePlaced-wider table more [] placed h = h
ArePlaced-wider table more (step ∷ steps) placed (first, rest, is, one, all) = (
  first,
  rest,
  is,
  IsPlaced-wider table more step first one,
  ArePlaced-wider table more steps rest all,
)

pub ArePlaced-push : (table : List ℕ) (steps placed : List ProofStep) (step p : ProofStep)
    → ArePlaced table steps placed → IsPlaced table step p
    → ArePlaced table (steps ++ step ∷ []) (placed ++ p ∷ [])
ArePlaced-push table [] placed step p h k =
    (p, [], ap (λ (ps : List ProofStep). ps ++ p ∷ []) h, k, refl)
ArePlaced-push table (s ∷ steps) placed step p (first, rest, is, one, all) k = (
  first,
  rest ++ p ∷ [],
  ap (λ (ps : List ProofStep). ps ++ p ∷ []) is,
  one,
  ArePlaced-push table steps rest step p all k,
)

pub SpellsSteps-push : (count : ℕ) (steps : List ProofStep) (step : ProofStep)
    (old mid new : List ℕ) → SpellsSteps count steps old mid → SpellsStep count step mid new
    → SpellsSteps count (steps ++ step ∷ []) old new
SpellsSteps-push count [] step old mid new h k =
    (new, subst (λ (ls : List ℕ). SpellsStep count step ls new) h k, refl)
SpellsSteps-push count (s ∷ steps) step old mid new (letters, one, all) k =
    (letters, one, SpellsSteps-push count steps step letters mid new all k)

-- what steps have listed, and one more step
pub listed_more : (initial table new : List ℕ) (steps : List ProofStep) (step : ProofStep)
    → ((listed : List ℕ) × (table ≡ initial ++ listed) × AreNew initial listed
    × AreAmong (labels_of steps) listed)
    → ((more : List ℕ) × (new ≡ table ++ more) × AreNew table more
    × AreAmong (label_of step) more)
    → ((listed : List ℕ) × (new ≡ initial ++ listed) × AreNew initial listed
    × AreAmong (labels_of (steps ++ step ∷ [])) listed)
listed_more initial table new steps step (listed, is, are, among) (more, gains, others, fresh) = (
  listed ++ more,
  gains ∙ ap (λ (ls : List ℕ). ls ++ more) is ∙ append_assoc initial listed more,
  AreNew-append initial listed more are (subst (λ (ls : List ℕ). AreNew ls more) is others),
  subst (λ (ls : List ℕ). AreAmong ls (listed ++ more)) (sym (labels_of-push steps step))
      (AreAmong-append (labels_of steps) (label_of step) listed more among fresh),
)

pub placed_more : (table new : List ℕ) (steps placed : List ProofStep) (step p : ProofStep)
    → ArePlaced table steps placed
    → ((more : List ℕ) × (new ≡ table ++ more) × AreNew table more
    × AreAmong (label_of step) more)
    → IsPlaced new step p → ArePlaced new (steps ++ step ∷ []) (placed ++ p ∷ [])
placed_more table new steps placed step p all (more, gains, others, fresh) one =
    ArePlaced-push new steps placed step p
    (subst (λ (ls : List ℕ). ArePlaced ls steps placed) (sym gains)
    (ArePlaced-wider table more steps placed all)) one
