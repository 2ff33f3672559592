-- A sentence as a schema, from the sentence and assumed facts.
use Rattle.std.proofs.Common.{◌≡◌, ◌+◌, ℕ, zero, suc, List, [], ◌∷◌, ◌++◌, length, refl, sym, ◌∙◌}
use Rattle.std.proofs.Common.{ap, subst, arith, append_assoc}
use Rattle.std.specs.Prelude.{Contains}
use Rattle.std.proofs.lemmas.List.Elements.{Contains-append_left, Contains-append_right}
use Rattle.ml_pat.specs.Patterns.{Pattern, imp, and, fun, all, meta}
use Rattle.ml_pat.specs.PatternView.{pattern_of}
use Rattle.ml_pat.specs.declared.patterns.MForm.{MForm}
use Rattle.ml_pat.specs.declared.patterns.MForm.TheVariants as form
use Rattle.ml_kernel.specs.Theorems.{Theorem, conclusions}
use Rattle.ml_derived.specs.Scopes.{Scope, AreAssumed, AreWithin, IsOver, AssumesWithin}
use Rattle.ml_derived.specs.Scopes.{StaysWithin}
use Rattle.ml_derived.specs.Instances.{IsInstance, HasInstance}
use Rattle.ml_derived.proofs.InstanceSteps.{IsInstance-unique}
use Rattle.prove_schema.specs.Schemas.{with_metas, IsBodyFrom, closed, meta_facts, parts_of}
use Rattle.prove_schema.specs.Schemas.{IsSentence}
use Rattle.prove_schema.specs.Opening.{IsForAll, IsSchemaOf, StaysOpen, IsFollowing, StaysFollowing}
use Rattle.prove_schema.specs.Assumptions.{AreAssumptions, facts_of, HoldsByParts}
use Rattle.prove_schema.proofs.ClosingLaws.{schema_instance}

-- ---- the assumed facts

first : {X : Type 0} (x : X) (xs : List X) → Contains (x ∷ xs) x
first x xs = (zero, omega arith, refl)

later : {X : Type 0} (x : X) (xs : List X) (y : X) → Contains xs y → Contains (x ∷ xs) y
later x xs y (k, low, is) = (suc k, omega (arith, low), is)

pub assumptions_within : (s : Scope) (ts : List Theorem) → AreAssumptions ts
    → AreAssumed s (conclusions ts) → AreWithin s ts
assumptions_within s [] are may = tt
assumptions_within s (t ∷ ts) are may =
    let own : Contains s.assumed t.conclusion × IsOver s t.conclusion =
    may t.conclusion (first t.conclusion (conclusions ts)) in (
      are.0 s own.0 own.1,
      assumptions_within s ts are.1
          (λ p there. may p (later t.conclusion (conclusions ts) p there)),
    )

-- one more assumption
pub one_more_assumption : (ts : List Theorem) (t : Theorem) → AreAssumptions ts
    → AssumesWithin t.conclusion t → AreAssumptions (ts ++ t ∷ [])
one_more_assumption [] t are one = (one, tt)
one_more_assumption (u ∷ ts) t are one = (are.0, one_more_assumption ts t are.1 one)

pub one_more_conclusion : (ts : List Theorem) (t : Theorem)
    → conclusions (ts ++ t ∷ []) ≡ conclusions ts ++ t.conclusion ∷ []
one_more_conclusion [] t = refl
one_more_conclusion (u ∷ ts) t =
    ap (λ (ps : List Pattern). u.conclusion ∷ ps) (one_more_conclusion ts t)

-- the fact of the next quantifier
pub one_more_quantifier : (ts : List Theorem) (t : Theorem) (p fact : Pattern)
    (rest all_facts : List Pattern) → t.conclusion ≡ fact → facts_of p ≡ fact ∷ rest
    → conclusions ts ++ facts_of p ≡ all_facts → conclusions (ts ++ t ∷ []) ++ rest ≡ all_facts
one_more_quantifier ts t p fact rest all_facts is front before =
    ap (λ (ps : List Pattern). ps ++ rest) (one_more_conclusion ts t)
    ∙ append_assoc (conclusions ts) (t.conclusion ∷ []) rest
    ∙ ap (λ (q : Pattern). conclusions ts ++ q ∷ rest) is
    ∙ ap (λ (ps : List Pattern). conclusions ts ++ ps) (sym front) ∙ before

-- ---- the sentence at pattern variables

body_no_facts : (k n : ℕ) (p : Pattern) → IsBodyFrom k n p → facts_of p ≡ []
body_no_facts k n (all x s p) h = absurd h
body_no_facts k n p h = refl

closed_facts : (k : ℕ) (ns : List ℕ) (p : Pattern) → facts_of p ≡ []
    → facts_of (closed k ns p) ≡ meta_facts k ns
closed_facts k [] p none = none
closed_facts k (n ∷ ns) p none =
    ap (λ (ps : List Pattern). fun (meta k) n ∷ ps) (closed_facts (k + 1) ns p none)

-- the leading quantifiers of a sentence are those of its variables
pub sentence_facts : (numbers : List ℕ) (body p : Pattern) → IsSentence numbers body p
    → facts_of p ≡ meta_facts 0 numbers
sentence_facts numbers body p is = ap facts_of is.says
    ∙ closed_facts 0 numbers body (body_no_facts 0 (length numbers) body is.is_open)

pub sentence_instance : (numbers : List ℕ) (body p : Pattern) (facts : List Pattern)
    → IsSentence numbers body p → facts ≡ facts_of p
    → IsInstance p facts (with_metas (length numbers) body)
sentence_instance numbers body p facts is are =
    let same : facts ≡ meta_facts 0 numbers = are ∙ sentence_facts numbers body p is in
    let zero_more : 0 + length numbers ≡ length numbers = omega arith in
    subst (λ (fs : List Pattern). IsInstance p fs (with_metas (length numbers) body)) (sym same)
    (subst (λ (q : Pattern). IsInstance q (meta_facts 0 numbers) (with_metas (length numbers) body))
    (sym is.says)
    (schema_instance 0 (length numbers) numbers body zero_more is.is_open))

pub sentence_has_instance : (p : Pattern) (facts : List Pattern) → IsForAll p → facts ≡ facts_of p
    → HasInstance p facts
sentence_has_instance p facts (numbers, body, is) are =
    (with_metas (length numbers) body, sentence_instance numbers body p facts is are)

pub opened_says : (p q : Pattern) (facts : List Pattern) → facts ≡ facts_of p → IsInstance p facts q
    → IsSchemaOf p q
opened_says p q facts are made numbers body is =
    IsInstance-unique p facts q (with_metas (length numbers) body) made
    (sentence_instance numbers body p facts is are)

pub opened_stays : (sentence t : Theorem) (ts : List Theorem)
    → conclusions ts ≡ facts_of sentence.conclusion → AreAssumptions ts
    → StaysWithin [] (sentence ∷ ts) t → StaysOpen sentence t
opened_stays sentence t ts are assumed stays numbers body is s within may =
    let same : conclusions ts ≡ meta_facts 0 numbers =
    are ∙ sentence_facts numbers body sentence.conclusion is in
    stays s tt (within, assumptions_within s ts assumed (subst (AreAssumed s) (sym same) may))

-- ---- conditions

-- a pattern that is not a conjunction is its only part
pub alone : (f : MForm) → (f ≡ form.Top → ⊥) → ((p q : Pattern) → f ≡ form.And p q → ⊥)
    → parts_of (pattern_of f) ≡ pattern_of f ∷ []
alone form.Bot h k = refl
alone form.Top h k = absurd (h refl)
alone (form.Imp p q) h k = refl
alone (form.Not p) h k = refl
alone (form.And p q) h k = absurd (k p q refl)
alone (form.Or p q) h k = refl
alone (form.Equal p q) h k = refl
alone (form.Member p q) h k = refl
alone (form.Fun p s) h k = refl
alone (form.Ex x s p) h k = refl
alone (form.All x s p) h k = refl
alone (form.App p q) h k = refl
alone (form.At p s) h k = refl
alone (form.Next p) h k = refl
alone (form.Ev p) h k = refl
alone (form.Var x) h k = refl
alone (form.Meta i) h k = refl
alone (form.Const c) h k = refl

pub whole_held : (p : Pattern) (t : Theorem) → parts_of p ≡ p ∷ [] → AssumesWithin p t
    → HoldsByParts p t
whole_held p t one assumes s may =
    let here : Contains s.assumed p × IsOver s p =
    may p (subst (λ (ps : List Pattern). Contains ps p) (sym one) (first p [])) in
    assumes s here.0 here.1

pub both_held : (p q : Pattern) (a b t : Theorem) → HoldsByParts p a → HoldsByParts q b
    → StaysWithin [] (a ∷ b ∷ []) t → HoldsByParts (and p q) t
both_held p q a b t ha hb stays s may =
    stays s tt (
      ha s (λ r there. may r (Contains-append_left (parts_of p) (parts_of q) r there)),
      (hb s (λ r there. may r (Contains-append_right (parts_of p) (parts_of q) r there)), tt),
    )

pub following_says : (conditional condition rest t : Pattern) → conditional ≡ imp condition rest
    → t ≡ rest → IsFollowing conditional t
following_says conditional condition rest t split is p q other =
    is ∙ same condition rest p q (sym split ∙ other)
  where
    same : (a b c d : Pattern) → imp a b ≡ imp c d → b ≡ d
    same a b c d e = cc

pub following_stays : (conditional held t : Theorem) (condition rest : Pattern)
    → conditional.conclusion ≡ imp condition rest → HoldsByParts condition held
    → StaysWithin [] (held ∷ conditional ∷ []) t → StaysFollowing conditional t
following_stays conditional held t condition rest split holds stays p q other s within may =
    stays s tt (
      holds s (subst (λ (r : Pattern). AreAssumed s (parts_of r))
          (sym (same condition rest p q (sym split ∙ other))) may),
      (within, tt),
    )
  where
    same : (a b c d : Pattern) → imp a b ≡ imp c d → a ≡ c
    same a b c d e = cc
