-- The lemmas for sides: how they are made, and that they stay when a context grows.
use Rattle.std.proofs.Common.{◌≡◌, ℕ, ◌<◌, true, zero, suc, List, [], ◌∷◌, ◌++◌, Option, Some, None}
use Rattle.std.proofs.Common.{length, inl, inr, refl, sym, ◌∙◌, ap, subst, arith}
use Rattle.std.specs.Prelude.{◌⊎◌, Contains, IfSome, slice_index_or}
use Rattle.std.proofs.lemmas.List.Elements.{Contains-append_left, Contains-append_right}
use Rattle.ml_pat.specs.Patterns.{Pattern, equal, var, meta}
use Rattle.ml_pat.specs.Judgements.{substituted}
use Rattle.ml_kernel.specs.Theorems.{Theorem}
use Rattle.ml_derived.specs.Scopes.{Scope, IsOver, IsWithin, AssumesWithin, StaysWithin}
use Rattle.ml_derived.specs.Equalities.{CanCarry, IsCarried}
use Rattle.ml_image.proofs.ImageLaws.{some_same}
use Rattle.prove_term.specs.Contexts.{Context, HasGrown, IsLemmaIn}
use Rattle.prove_schema.proofs.ScopeLaws.{StaysAssuming, lemma_of}
use Rattle.prove_step.specs.SideLemmas.{IsSideHypothesis, IsSideLemma, step_of}
use Rattle.prove_step.specs.KeptSides.{AreSideLemmas, IsSideLemmaIn}
use Rattle.prove_step.specs.declared.side_lemmas.Side.{Side}
use Rattle.prove_step.specs.declared.side_lemmas.Side.TheVariants.{Left, Right}
use Rattle.prove_step.specs.declared.side_lemmas.SideLemmas.{SideLemmas}

-- the assumed equality, and the assumed step
abbrev pub same : Pattern
same = equal (meta 0) (meta 1)

abbrev pub given : Side → Pattern
given side = step_of side (meta 0) (meta 2)

-- the step with the place at a side
abbrev pub place : Side → Pattern
place side = step_of side (var 0) (meta 2)

-- the pattern that the code makes is the assumed equality
pub made_same : (p q r : Pattern) → p ≡ meta 0 → q ≡ meta 1 → r ≡ equal p q → r ≡ same
made_same p q r h k l = cc

pub made_given : (side : Side) (p r s : Pattern) → p ≡ meta 0 → r ≡ meta 2 → s ≡ step_of side p r
    → s ≡ given side
made_given side p r s h k l =
    l ∙ ap (λ (x : Pattern). step_of side x r) h ∙ ap (step_of side (meta 0)) k

pub made_place : (side : Side) (p r s : Pattern) → p ≡ var 0 → r ≡ meta 2 → s ≡ step_of side p r
    → s ≡ place side
made_place side p r s h k l =
    l ∙ ap (λ (x : Pattern). step_of side x r) h ∙ ap (step_of side (var 0)) k

-- substitution at the place
pub at_place : (side : Side) (p : Pattern)
    → substituted (place side) 0 p ≡ Some (step_of side p (meta 2))
at_place Left p = refl
at_place Right p = refl

pub can_carry : (side : Side) (e context step : Pattern) → e ≡ same → context ≡ place side
    → step ≡ given side → CanCarry e context 0 step
can_carry side e context step is at says =
    let makes : (p : Pattern) → substituted context 0 p ≡ Some (step_of side p (meta 2)) =
    λ p. ap (λ (c : Pattern). substituted c 0 p) at ∙ at_place side p in (
      meta 0,
      (
        meta 1,
        (
          step_of side (meta 1) (meta 2),
          (is, (makes (meta 0) ∙ ap (λ (q : Pattern). Some q) (sym says), makes (meta 1))),
        ),
      ),
    )

carried_says : (side : Side) (e context made : Pattern) → e ≡ same → context ≡ place side
    → IsCarried e context 0 made → made ≡ step_of side (meta 1) (meta 2)
carried_says side e context made is at carried =
    some_same made (step_of side (meta 1) (meta 2)) (sym (carried (meta 0) (meta 1) is)
    ∙ ap (λ (c : Pattern). substituted c 0 (meta 1)) at ∙ at_place side (meta 1))

-- ---- the lemma has at most these two assumptions

first_there : (p q : Pattern) → Contains (p ∷ q ∷ []) p
first_there p q = (zero, omega arith, refl)

second_there : (p q : Pattern) → Contains (p ∷ q ∷ []) q
second_there p q = (suc zero, omega arith, refl)

one_of : (p q r : Pattern) → Contains (p ∷ q ∷ []) r → (r ≡ p) ⊎ (r ≡ q)
one_of p q r (zero, low, is) = inl (sym is)
one_of p q r (suc zero, low, is) = inr (sym is)
one_of p q r (suc (suc k), low, is) = absurd (omega (arith, low))

-- a scope of all numbers, in which nothing was stated
abbrev everything : List Pattern → Scope
everything ps = record {
  sort = λ n. true;
  constant = λ n. true;
  object = λ n. true;
  meta = λ n. true;
  stated = [];
  assumed = ps;
}

given_over : (side : Side) (s : Scope) → ((i : ℕ) → IsOver s (meta i)) → IsOver s (given side)
given_over Left s metas = (metas 0, metas 2)
given_over Right s metas = (metas 2, metas 0)

place_over : (side : Side) (s : Scope) → IsOver s (var 0) → IsOver s (meta 2)
    → IsOver s (place side)
place_over Left s object other = (object, other)
place_over Right s object other = (other, object)

-- the theorem is made from the two assumed ones
pub record IsMadeOfSides (side : Side) (e step t : Theorem) : Type 0 where
  pub equality : AssumesWithin same e
  pub moved : AssumesWithin (given side) step
  pub stays : StaysWithin (place side ∷ var 0 ∷ []) (e ∷ step ∷ []) t

pub made_of : (side : Side) (e step t : Theorem) (p q context : Pattern) → p ≡ same → q ≡ given side
    → context ≡ place side → AssumesWithin p e → AssumesWithin q step
    → StaysWithin (context ∷ var 0 ∷ []) (e ∷ step ∷ []) t → IsMadeOfSides side e step t
made_of side e step t p q context one two at first second stays = record {
  equality = subst (λ (h : Pattern). AssumesWithin h e) one first;
  moved = subst (λ (h : Pattern). AssumesWithin h step) two second;
  stays = subst (λ (h : Pattern). StaysWithin (h ∷ var 0 ∷ []) (e ∷ step ∷ []) t) at stays;
}

-- a scope of all variables has the theorem if both may be assumed
made_within : (side : Side) (e step t : Theorem) → IsMadeOfSides side e step t → (s : Scope)
    → ((x : ℕ) → IsOver s (var x)) → ((i : ℕ) → IsOver s (meta i)) → Contains s.assumed same
    → Contains s.assumed (given side) → IsWithin s t
made_within side e step t made s objects metas one two =
    made.stays s (place_over side s (objects 0) (metas 2), (objects 0, tt))
    (made.equality s one (metas 0, metas 1), (made.moved s two (given_over side s metas), tt))

made_assuming : (side : Side) (e step t : Theorem) → IsMadeOfSides side e step t → (cx : Context)
    → StaysAssuming cx (same ∷ given side ∷ []) t
made_assuming side e step t made cx s has may =
    made_within side e step t made s has.objects has.metas
    (may same (first_there same (given side)))
    (may (given side) (second_there same (given side)))

pub made_stays : (side : Side) (e step t : Theorem) → IsMadeOfSides side e step t → (cx : Context)
    → IsLemmaIn cx t
made_stays side e step t made cx =
    lemma_of cx (same ∷ given side ∷ []) t (made_assuming side e step t made cx)

made_assumes : (side : Side) (e step t : Theorem) → IsMadeOfSides side e step t → (p : Pattern)
    → Contains t.hypotheses p → IsSideHypothesis side p
made_assumes side e step t made p there =
    let s : Scope = everything (same ∷ given side ∷ []) in
    let within : IsWithin s t =
    made_within side e step t made s (λ x. refl) (λ i. refl) (first_there same (given side))
    (second_there same (given side)) in
    one_of same (given side) p (within.hypotheses p there).0

there_at : (ps : List Pattern) (k : ℕ) (d : Pattern) → k < length ps
    → Contains ps (slice_index_or ps k d)
there_at [] k d low = absurd (omega (arith, low))
there_at (p ∷ ps) zero d low = (zero, omega arith, refl)
there_at (p ∷ ps) (suc k) d low =
    let deeper : Contains ps (slice_index_or ps k d) = there_at ps k d (omega (arith, low)) in
    (suc deeper.0, omega (arith, deeper.1), deeper.2)

pub made_says : (side : Side) (e step t : Theorem) (context : Pattern) → IsMadeOfSides side e step t
    → e.conclusion ≡ same → context ≡ place side → IsCarried e.conclusion context 0 t.conclusion
    → IsSideLemma side t
made_says side e step t context made is at carried = record {
  says = carried_says side e.conclusion context t.conclusion is at carried;
  hypotheses =
      λ k d low. made_assumes side e step t made (slice_index_or t.hypotheses k d)
      (there_at t.hypotheses k d low);
}

-- ---- they stay

if_some : {A : Type 0} {P Q : A → Type 0} (o : Option A) → ((x : A) → P x → Q x) → IfSome o P
    → IfSome o Q
if_some None f h = tt
if_some (Some x) f h = f x h

pub side_lemma_grown : (old new : Context) (side : Side) (t : Theorem) → HasGrown old new
    → IsSideLemmaIn old side t → IsSideLemmaIn new side t
side_lemma_grown old new side t g is = record {
  there =
      subst (λ (ts : List Theorem). Contains ts t) (sym g.more_lemmas)
      (Contains-append_left old.lemmas g.lemmas t is.there);
  is = is.is;
}

pub side_lemmas_grown : (old new : Context) (lemmas : SideLemmas) → HasGrown old new
    → AreSideLemmas old lemmas → AreSideLemmas new lemmas
side_lemmas_grown old new lemmas g are = record {
  left = if_some lemmas.left (λ t is. side_lemma_grown old new Left t g is) are.left;
  right = if_some lemmas.right (λ t is. side_lemma_grown old new Right t g is) are.right;
}

-- the last kept lemma is there
pub added_there : (old new : Context) (t lemma : Theorem)
    → new ≡ record old { lemmas = old.lemmas ++ t ∷ [] } → lemma ≡ t → Contains new.lemmas lemma
added_there old new t lemma is alike =
    subst (λ (cx : Context). Contains cx.lemmas lemma) (sym is)
    (Contains-append_right old.lemmas (t ∷ []) lemma (zero, omega arith, sym alike))
