-- The use of the lemma for a side.
use Rattle.std.proofs.Common.{◌≡◌, ℕ, ◌<◌, ◌+◌, zero, suc, List, [], ◌∷◌, ◌++◌, Some, None, length}
use Rattle.std.proofs.Common.{take, get_or, inl, inr, refl, sym, ◌∙◌, ap, subst, arith}
use Rattle.std.specs.Prelude.{◌⊎◌, All}
use Rattle.std.specs.List.{AllZip}
use Rattle.std.proofs.lemmas.List.{take_more}
use Rattle.ml_pat.specs.Patterns.{Pattern, imp, equal, next, meta}
use Rattle.ml_kernel.specs.Lemmas.{instance, instances, AreMetasBelow, IsMetaBelow}
use Rattle.ml_kernel.specs.Theorems.{Theorem, conclusions}
use Rattle.ml_derived.specs.Scopes.{Scope, IsOver, IsOverPlaces, IsWithin, AreWithin, CitesWithin}
use Rattle.prove_step.specs.SideLemmas.{IsSideHypothesis, IsSideLemma, step_of}
use Rattle.prove_term.specs.Contexts.{Context}
use Rattle.prove_step.specs.KeptSides.{IsSideLemmaIn}
use Rattle.prove_step.specs.Turning.{IsProofFor, IsTurned, StaysCiting, StaysTurned}
use Rattle.prove_step.specs.declared.side_lemmas.Side.{Side}
use Rattle.prove_step.specs.declared.side_lemmas.Side.TheVariants.{Left, Right}

-- the patterns that replace its pattern variables
abbrev pub three : Pattern → Pattern → Pattern → List Pattern
three p q r = p ∷ q ∷ r ∷ []

-- ---- steps

-- a step is an implication
step_form : (side : Side) (p r : Pattern)
    → (a : Pattern) × (b : Pattern) × (step_of side p r ≡ imp a b)
step_form Left p r = (p, next r, refl)
step_form Right p r = (r, next p, refl)

pub step_parts : (side : Side) (p r q t : Pattern) → step_of side p r ≡ step_of side q t
    → (p ≡ q) × (r ≡ t)
step_parts Left p r q t h = (cc, cc)
step_parts Right p r q t h = (cc, cc)

pub equal_parts : (p q r t : Pattern) → equal p q ≡ equal r t → (p ≡ r) × (q ≡ t)
equal_parts p q r t h = (cc, cc)

step_instance : (side : Side) (ms : List Pattern) (i j : ℕ)
    → instance ms (step_of side (meta i) (meta j))
    ≡ step_of side (instance ms (meta i)) (instance ms (meta j))
step_instance Left ms i j = refl
step_instance Right ms i j = refl

step_metas : (side : Side) (i j : ℕ) → i < 3 → j < 3
    → IsMetaBelow 3 (step_of side (meta i) (meta j))
step_metas Left i j h k = (h, k)
step_metas Right i j h k = (k, h)

step_places : (side : Side) (s : Scope) → IsOverPlaces s (step_of side (meta 1) (meta 2))
step_places Left s = (tt, tt)
step_places Right s = (tt, tt)

other_over : (side : Side) (s : Scope) (p r : Pattern) → IsOver s (step_of side p r) → IsOver s r
other_over Left s p r h = h.1
other_over Right s p r h = h.0

-- ---- proofs of its hypotheses

zip_push : {X Y : Type 0} (R : X → Y → Type 0) (xs : List X) (ys : List Y) (x : X) (y : Y)
    → AllZip R xs ys → R x y → AllZip R (xs ++ x ∷ []) (ys ++ y ∷ [])
zip_push R [] [] x y h k = (k, tt)
zip_push R [] (b ∷ ys) x y h k = absurd h
zip_push R (a ∷ xs) [] x y h k = absurd h
zip_push R (a ∷ xs) (b ∷ ys) x y h k = (h.0, zip_push R xs ys x y h.1 k)

pub one_more_proof : (e step : Theorem) (ps : List Pattern) (i : ℕ) (p : Pattern)
    (ts : List Theorem) (t : Theorem) → i < length ps → p ≡ get_or ps i p
    → AllZip (IsProofFor e step) (take i ps) ts → IsProofFor e step p t
    → AllZip (IsProofFor e step) (take (i + 1) ps) (ts ++ t ∷ [])
one_more_proof e step ps i p ts t low is before here =
    let front : take (i + 1) ps ≡ take i ps ++ p ∷ [] =
    take_more ps i p low ∙ ap (λ (q : Pattern). take i ps ++ q ∷ []) (sym is) in
    subst (λ (qs : List Pattern). AllZip (IsProofFor e step) qs (ts ++ t ∷ [])) (sym front)
    (zip_push (IsProofFor e step) (take i ps) ts p t before here)

-- the equality or the step proves a hypothesis
abbrev Proves : Side → Theorem → Theorem → Pattern → Theorem → Type 0
Proves side e step p t =
    ((p ≡ equal (meta 0) (meta 1)) × (t ≡ e)) ⊎ ((p ≡ step_of side (meta 0) (meta 2)) × (t ≡ step))

proves : (side : Side) (e step : Theorem) (p : Pattern) (t : Theorem) → IsSideHypothesis side p
    → IsProofFor e step p t → Proves side e step p t
proves side e step p t (inl is) for = inl (is, for.equality (meta 0) (meta 1) is)
proves side e step p t (inr is) for =
    let form : (a : Pattern) × (b : Pattern) × (step_of side (meta 0) (meta 2) ≡ imp a b) =
    step_form side (meta 0) (meta 2) in
    inr (is, for.implication form.0 form.1 (is ∙ form.2))

first_of : (side : Side) (p : Pattern) (ps : List Pattern) → All (IsSideHypothesis side) (p ∷ ps)
    → IsSideHypothesis side p
first_of side p ps all = all zero p (omega arith)

rest_of : (side : Side) (p : Pattern) (ps : List Pattern) → All (IsSideHypothesis side) (p ∷ ps)
    → All (IsSideHypothesis side) ps
rest_of side p ps all = λ k d low. all (suc k) d (omega (arith, low))

-- each hypothesis has its proof
each_proves : (side : Side) (e step : Theorem) (ps : List Pattern) (ts : List Theorem)
    → All (IsSideHypothesis side) ps → AllZip (IsProofFor e step) ps ts
    → AllZip (Proves side e step) ps ts
each_proves side e step [] [] all h = tt
each_proves side e step [] (t ∷ ts) all h = absurd h
each_proves side e step (p ∷ ps) [] all h = absurd h
each_proves side e step (p ∷ ps) (t ∷ ts) all h = (
  proves side e step p t (first_of side p ps all) h.0,
  each_proves side e step ps ts (rest_of side p ps all) h.1,
)

metas_of : (side : Side) (p : Pattern) → IsSideHypothesis side p → IsMetaBelow 3 p
metas_of side p (inl is) = subst (IsMetaBelow 3) (sym is) (omega arith, omega arith)
metas_of side p (inr is) =
    subst (IsMetaBelow 3) (sym is) (step_metas side 0 2 (omega arith) (omega arith))

pub hypotheses_metas : (side : Side) (ps : List Pattern) → All (IsSideHypothesis side) ps
    → AreMetasBelow 3 ps
hypotheses_metas side [] all = tt
hypotheses_metas side (p ∷ ps) all =
    (metas_of side p (first_of side p ps all), hypotheses_metas side ps (rest_of side p ps all))

pub conclusion_metas : (side : Side) (lemma : Theorem) → IsSideLemma side lemma
    → IsMetaBelow 3 lemma.conclusion
conclusion_metas side lemma is =
    subst (IsMetaBelow 3) (sym is.says) (step_metas side 1 2 (omega arith) (omega arith))

concludes : (side : Side) (p q r : Pattern) (e step : Theorem) → e.conclusion ≡ equal p q
    → step.conclusion ≡ step_of side p r → (h : Pattern) (t : Theorem) → Proves side e step h t
    → t.conclusion ≡ instance (three p q r) h
concludes side p q r e step one two h t (inl k) =
    ap (λ (u : Theorem). u.conclusion) k.1 ∙ one ∙ ap (instance (three p q r)) (sym k.0)
concludes side p q r e step one two h t (inr k) =
    ap (λ (u : Theorem). u.conclusion) k.1 ∙ two ∙ sym (step_instance side (three p q r) 0 2)
    ∙ ap (instance (three p q r)) (sym k.0)

pair : {p q : Pattern} {ps qs : List Pattern} → p ≡ q → ps ≡ qs → p ∷ ps ≡ q ∷ qs
pair h k = cc

all_conclude : (side : Side) (p q r : Pattern) (e step : Theorem) → e.conclusion ≡ equal p q
    → step.conclusion ≡ step_of side p r → (hs : List Pattern) (ts : List Theorem)
    → AllZip (Proves side e step) hs ts → conclusions ts ≡ instances (three p q r) hs
all_conclude side p q r e step one two [] [] h = refl
all_conclude side p q r e step one two [] (t ∷ ts) h = absurd h
all_conclude side p q r e step one two (g ∷ gs) [] h = absurd h
all_conclude side p q r e step one two (g ∷ gs) (t ∷ ts) (h, rest) =
    pair (concludes side p q r e step one two g t h)
    (all_conclude side p q r e step one two gs ts rest)

pub proofs_conclude : (side : Side) (p q r : Pattern) (lemma e step : Theorem) (ts : List Theorem)
    → IsSideLemma side lemma → e.conclusion ≡ equal p q → step.conclusion ≡ step_of side p r
    → AllZip (IsProofFor e step) lemma.hypotheses ts
    → conclusions ts ≡ instances (three p q r) lemma.hypotheses
proofs_conclude side p q r lemma e step ts is one two proofs =
    all_conclude side p q r e step one two lemma.hypotheses ts
    (each_proves side e step lemma.hypotheses ts is.hypotheses proofs)

all_within : (side : Side) (s : Scope) (e step : Theorem) (ps : List Pattern) (ts : List Theorem)
    → IsWithin s e → IsWithin s step → AllZip (Proves side e step) ps ts → AreWithin s ts
all_within side s e step [] [] first second h = tt
all_within side s e step [] (t ∷ ts) first second h = absurd h
all_within side s e step (p ∷ ps) [] first second h = absurd h
all_within side s e step (p ∷ ps) (t ∷ ts) first second (inl k, rest) =
    (subst (IsWithin s) (sym k.1) first, all_within side s e step ps ts first second rest)
all_within side s e step (p ∷ ps) (t ∷ ts) first second (inr k, rest) =
    (subst (IsWithin s) (sym k.1) second, all_within side s e step ps ts first second rest)

-- ---- the result

pub stays_citing : (side : Side) (p q r : Pattern) (lemma e step t : Theorem) (ts : List Theorem)
    → IsSideLemma side lemma → e.conclusion ≡ equal p q → step.conclusion ≡ step_of side p r
    → AllZip (IsProofFor e step) lemma.hypotheses ts → CitesWithin lemma (three p q r) ts t
    → StaysCiting lemma e step t
stays_citing side p q r lemma e step t ts is one two proofs cites s stated (first, (second, rest)) =
    let sides : IsOver s (equal p q) = subst (IsOver s) one first.conclusion in
    let other : IsOver s r = other_over side s p r (subst (IsOver s) two second.conclusion) in
    cites s stated (subst (IsOverPlaces s) (sym is.says) (step_places side s))
    (sides.0, (sides.1, (other, tt)))
    (all_within side s e step lemma.hypotheses ts first second
    (each_proves side e step lemma.hypotheses ts is.hypotheses proofs))

pub is_turned : (side : Side) (p q r : Pattern) (lemma e step t : Theorem) → IsSideLemma side lemma
    → e.conclusion ≡ equal p q → step.conclusion ≡ step_of side p r
    → t.conclusion ≡ instance (three p q r) lemma.conclusion → IsTurned side (Some e) step t
is_turned side p q r lemma e step t is one two whole = λ a b c turns says.
    let sides : (p ≡ a) × (q ≡ b) = equal_parts p q a b (sym one ∙ turns) in
    let parts : (p ≡ a) × (r ≡ c) = step_parts side p r a c (sym two ∙ says) in
    whole ∙ ap (instance (three p q r)) is.says ∙ step_instance side (three p q r) 1 2
    ∙ ap (λ (x : Pattern). step_of side x r) sides.1 ∙ ap (step_of side b) parts.1

-- if there is no equality, the result is the given step
pub as_it_was : (side : Side) (step : Theorem) → IsTurned side None step step
as_it_was side step = λ p q r turns says. says ∙ ap (λ (x : Pattern). step_of side x r) turns

pub citing_stays : (cx : Context) (side : Side) (lemma e step t : Theorem)
    → IsSideLemmaIn cx side lemma → StaysCiting lemma e step t → StaysTurned cx (Some e) step t
citing_stays cx side lemma e step t is stays =
    λ s has first second. stays s (has.lemmas lemma is.there) (first, (second, tt))
