-- The lemma by which a run goes one step further, and its use.
use Rattle.std.proofs.Common.{◌≡◌, ℕ, ◌<◌, ◌+◌, true, List, [], ◌∷◌, ◌++◌, length, take, get_or}
use Rattle.std.proofs.Common.{inl, inr, refl, ap, ◌∙◌, sym, subst, arith, zero, suc}
use Rattle.std.specs.Prelude.{◌⊎◌, All, Contains, slice_index_or}
use Rattle.std.specs.List.{AllZip}
use Rattle.std.proofs.lemmas.List.{take_more}
use Rattle.ml_pat.specs.Patterns.{Pattern, imp, next, ev, meta}
use Rattle.ml_kernel.specs.Lemmas.{instance, instances, AreMetasBelow, IsMetaBelow, HasNoVariable}
use Rattle.ml_kernel.specs.Lemmas.{HaveNoVariables}
use Rattle.ml_kernel.specs.Theorems.{Theorem, conclusions}
use Rattle.ml_derived.specs.Scopes.{Scope, IsOver, AreOver, IsOverPlaces, IsWithin, AreWithin}
use Rattle.ml_derived.specs.Scopes.{AssumesWithin, StaysWithin, CitesWithin}
use Rattle.ml_derived.specs.Implications.{ReachesOneFurther}
use Rattle.prove_term.specs.Contexts.{Context, IsLemmaIn}
use Rattle.prove_schema.proofs.ScopeLaws.{StaysAssuming, lemma_of}
use Rattle.prove_run.specs.ReachLemma.{sofar_form, step_form, IsReachHypothesis, IsReachLemma}
use Rattle.prove_run.specs.ReachLemma.{ProvesHypothesis, CitesReachLemma}

first_there : (p q : Pattern) → Contains (p ∷ q ∷ []) p
first_there p q = (zero, omega arith, refl)

second_there : (p q : Pattern) → Contains (p ∷ q ∷ []) q
second_there p q = (suc zero, omega arith, refl)

one_of : (p q r : Pattern) → Contains (p ∷ q ∷ []) r → (r ≡ p) ⊎ (r ≡ q)
one_of p q r (zero, low, is) = inl (sym is)
one_of p q r (suc zero, low, is) = inr (sym is)
one_of p q r (suc (suc k), low, is) = absurd (omega (arith, low))

-- ---- the lemma

-- the lemma stays in each context in which its two assumptions may be assumed
reach_assuming : (sofar step t : Theorem) → AssumesWithin sofar_form sofar
    → AssumesWithin step_form step → StaysWithin [] (sofar ∷ step ∷ []) t → (cx : Context)
    → StaysAssuming cx (sofar_form ∷ step_form ∷ []) t
reach_assuming sofar step t first second stays cx s has may =
    stays s tt (
      first s (may sofar_form (first_there sofar_form step_form)) (has.metas 0, has.metas 1),
      (second s (may step_form (second_there sofar_form step_form)) (has.metas 1, has.metas 2), tt),
    )

pub reach_stays : (sofar step t : Theorem) → AssumesWithin sofar_form sofar
    → AssumesWithin step_form step → StaysWithin [] (sofar ∷ step ∷ []) t → (cx : Context)
    → IsLemmaIn cx t
reach_stays sofar step t first second stays cx =
    lemma_of cx (sofar_form ∷ step_form ∷ []) t (reach_assuming sofar step t first second stays cx)

-- a scope of all numbers, in which nothing was stated
abbrev everything : List Pattern → Scope
everything ps = record {
  sort = λ n. true;
  constant = λ n. true;
  object = λ n. true;
  meta = λ n. true;
  stated = [];
  assumed = ps;
}

assumes : (sofar step t : Theorem) → AssumesWithin sofar_form sofar → AssumesWithin step_form step
    → StaysWithin [] (sofar ∷ step ∷ []) t → (p : Pattern) → Contains t.hypotheses p
    → IsReachHypothesis p
assumes sofar step t first second stays p there =
    let s : Scope = everything (sofar_form ∷ step_form ∷ []) in
    let within : IsWithin s t =
    stays s tt (
      first s (first_there sofar_form step_form) (refl, refl),
      (second s (second_there sofar_form step_form) (refl, refl), tt),
    ) in
    one_of sofar_form step_form p (within.hypotheses p there).0

pub reach_says : (sofar step t : Theorem) → AssumesWithin sofar_form sofar
    → AssumesWithin step_form step → StaysWithin [] (sofar ∷ step ∷ []) t
    → sofar.conclusion ≡ sofar_form → step.conclusion ≡ step_form
    → ReachesOneFurther sofar.conclusion step.conclusion t.conclusion → IsReachLemma t
reach_says sofar step t first second stays one two reaches = record {
  says = reaches (meta 0) (meta 1) (meta 2) one two;
  hypotheses =
      λ k d low. assumes sofar step t first second stays (slice_index_or t.hypotheses k d)
      (there t.hypotheses k d low);
}
  where
    there : (ps : List Pattern) (k : ℕ) (d : Pattern) → k < length ps
        → Contains ps (slice_index_or ps k d)
    there [] k d low = absurd (omega (arith, low))
    there (p ∷ ps) zero d low = (zero, omega arith, refl)
    there (p ∷ ps) (suc k) d low =
        let deeper : Contains ps (slice_index_or ps k d) = there ps k d (omega (arith, low)) in
        (suc deeper.0, omega (arith, deeper.1), deeper.2)

-- the assumed forms
pub made_sofar : (p q r s : Pattern) → p ≡ meta 0 → q ≡ meta 1 → r ≡ ev q → s ≡ imp p r
    → s ≡ imp (meta 0) (ev (meta 1))
made_sofar p q r s h k l m = cc

pub made_step : (p q r s : Pattern) → p ≡ meta 1 → q ≡ meta 2 → r ≡ next q → s ≡ imp p r
    → s ≡ imp (meta 1) (next (meta 2))
made_step p q r s h k l m = cc

-- ---- proofs of its hypotheses

zip_push : {X Y : Type 0} (R : X → Y → Type 0) (xs : List X) (ys : List Y) (x : X) (y : Y)
    → AllZip R xs ys → R x y → AllZip R (xs ++ x ∷ []) (ys ++ y ∷ [])
zip_push R [] [] x y h k = (k, tt)
zip_push R [] (b ∷ ys) x y h k = absurd h
zip_push R (a ∷ xs) [] x y h k = absurd h
zip_push R (a ∷ xs) (b ∷ ys) x y h k = (h.0, zip_push R xs ys x y h.1 k)

pub hypothesis_at : (ps : List Pattern) (i : ℕ) (p : Pattern) → All IsReachHypothesis ps
    → i < length ps → p ≡ get_or ps i p → IsReachHypothesis p
hypothesis_at ps i p all low is = subst IsReachHypothesis (sym is) (all i p low)

pub one_more_proof : (sofar step : Theorem) (ps : List Pattern) (i : ℕ) (p : Pattern)
    (ts : List Theorem) (t : Theorem) → i < length ps → p ≡ get_or ps i p
    → AllZip (ProvesHypothesis sofar step) (take i ps) ts → ProvesHypothesis sofar step p t
    → AllZip (ProvesHypothesis sofar step) (take (i + 1) ps) (ts ++ t ∷ [])
one_more_proof sofar step ps i p ts t low is before here =
    let front : take (i + 1) ps ≡ take i ps ++ p ∷ [] =
    take_more ps i p low ∙ ap (λ (q : Pattern). take i ps ++ q ∷ []) (sym is) in
    subst (λ (qs : List Pattern). AllZip (ProvesHypothesis sofar step) qs (ts ++ t ∷ []))
    (sym front)
    (zip_push (ProvesHypothesis sofar step) (take i ps) ts p t before here)

-- ---- its use

-- the patterns that replace its pattern variables
abbrev pub three : Pattern → Pattern → Pattern → List Pattern
three a b c = a ∷ b ∷ c ∷ []

pub three_closed : (a b c p q : Pattern) → p ≡ imp a (ev b) → q ≡ imp b (next c) → HasNoVariable p
    → HasNoVariable q → HaveNoVariables (three a b c)
three_closed a b c p q one two h k =
    let first : HasNoVariable (imp a (ev b)) = subst HasNoVariable one h in
    let second : HasNoVariable (imp b (next c)) = subst HasNoVariable two k in
    (first.0, (first.1, (second.1, tt)))

metas_of : (p : Pattern) → IsReachHypothesis p → IsMetaBelow 3 p
metas_of p (inl is) = subst (IsMetaBelow 3) (sym is) (omega arith, omega arith)
metas_of p (inr is) = subst (IsMetaBelow 3) (sym is) (omega arith, omega arith)

pub hypotheses_metas : (sofar step : Theorem) (ps : List Pattern) (ts : List Theorem)
    → AllZip (ProvesHypothesis sofar step) ps ts → AreMetasBelow 3 ps
hypotheses_metas sofar step [] ts h = tt
hypotheses_metas sofar step (p ∷ ps) [] h = absurd h
hypotheses_metas sofar step (p ∷ ps) (t ∷ ts) (inl k, rest) =
    (metas_of p (inl k.0), hypotheses_metas sofar step ps ts rest)
hypotheses_metas sofar step (p ∷ ps) (t ∷ ts) (inr k, rest) =
    (metas_of p (inr k.0), hypotheses_metas sofar step ps ts rest)

pub conclusion_metas : (lemma : Theorem) → IsReachLemma lemma → IsMetaBelow 3 lemma.conclusion
conclusion_metas lemma is = subst (IsMetaBelow 3) (sym is.says) (omega arith, omega arith)

concludes : (a b c : Pattern) (sofar step : Theorem) → sofar.conclusion ≡ imp a (ev b)
    → step.conclusion ≡ imp b (next c) → (p : Pattern) (t : Theorem)
    → ProvesHypothesis sofar step p t → t.conclusion ≡ instance (three a b c) p
concludes a b c sofar step one two p t (inl k) =
    ap (λ (u : Theorem). u.conclusion) k.1 ∙ one ∙ ap (instance (three a b c)) (sym k.0)
concludes a b c sofar step one two p t (inr k) =
    ap (λ (u : Theorem). u.conclusion) k.1 ∙ two ∙ ap (instance (three a b c)) (sym k.0)

pair : {p q : Pattern} {ps qs : List Pattern} → p ≡ q → ps ≡ qs → p ∷ ps ≡ q ∷ qs
pair h k = cc

pub proofs_conclude : (a b c : Pattern) (sofar step : Theorem) → sofar.conclusion ≡ imp a (ev b)
    → step.conclusion ≡ imp b (next c) → (ps : List Pattern) (ts : List Theorem)
    → AllZip (ProvesHypothesis sofar step) ps ts → conclusions ts ≡ instances (three a b c) ps
proofs_conclude a b c sofar step one two [] [] h = refl
proofs_conclude a b c sofar step one two [] (t ∷ ts) h = absurd h
proofs_conclude a b c sofar step one two (p ∷ ps) [] h = absurd h
proofs_conclude a b c sofar step one two (p ∷ ps) (t ∷ ts) (h, rest) =
    pair (concludes a b c sofar step one two p t h)
    (proofs_conclude a b c sofar step one two ps ts rest)

proofs_within : (s : Scope) (sofar step : Theorem) (ps : List Pattern) (ts : List Theorem)
    → IsWithin s sofar → IsWithin s step → AllZip (ProvesHypothesis sofar step) ps ts
    → AreWithin s ts
proofs_within s sofar step [] [] first second h = tt
proofs_within s sofar step [] (t ∷ ts) first second h = absurd h
proofs_within s sofar step (p ∷ ps) [] first second h = absurd h
proofs_within s sofar step (p ∷ ps) (t ∷ ts) first second (inl k, rest) =
    (subst (IsWithin s) (sym k.1) first, proofs_within s sofar step ps ts first second rest)
proofs_within s sofar step (p ∷ ps) (t ∷ ts) first second (inr k, rest) =
    (subst (IsWithin s) (sym k.1) second, proofs_within s sofar step ps ts first second rest)

-- the three patterns are over the scope if the conclusions of both theorems are
parts_over : (s : Scope) (a b c p q : Pattern) → p ≡ imp a (ev b) → q ≡ imp b (next c) → IsOver s p
    → IsOver s q → AreOver s (three a b c)
parts_over s a b c p q one two first second =
    let over : IsOver s (imp a (ev b)) = subst (IsOver s) one first in
    let over' : IsOver s (imp b (next c)) = subst (IsOver s) two second in
    (over.0, (over.1, (over'.1, tt)))

pub goes_further : (a b c : Pattern) (lemma sofar step t : Theorem) (ts : List Theorem)
    → IsReachLemma lemma → sofar.conclusion ≡ imp a (ev b) → step.conclusion ≡ imp b (next c)
    → AllZip (ProvesHypothesis sofar step) lemma.hypotheses ts
    → CitesWithin lemma (three a b c) ts t → CitesReachLemma lemma sofar step t
goes_further a b c lemma sofar step t ts is one two proofs cites s stated (first, (second, rest)) =
    cites s stated (subst (IsOverPlaces s) (sym is.says) (tt, tt)) (parts_over s a b c
    sofar.conclusion step.conclusion one two first.conclusion second.conclusion)
    (proofs_within s sofar step lemma.hypotheses ts first second proofs)

pub says_further : (a b c : Pattern) (lemma sofar step t : Theorem) → IsReachLemma lemma
    → sofar.conclusion ≡ imp a (ev b) → step.conclusion ≡ imp b (next c)
    → t.conclusion ≡ instance (three a b c) lemma.conclusion
    → ReachesOneFurther sofar.conclusion step.conclusion t.conclusion
says_further a b c lemma sofar step t is one two whole a' b' c' one' two' =
    whole ∙ ap (instance (three a b c)) is.says ∙ same (sym one ∙ one') (sym two ∙ two')
  where
    same : imp a (ev b) ≡ imp a' (ev b') → imp b (next c) ≡ imp b' (next c')
        → imp a (ev c) ≡ imp a' (ev c')
    same h k = cc
