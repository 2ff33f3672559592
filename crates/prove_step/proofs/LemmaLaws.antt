-- How the lemma of a rule is made from its axiom as a schema.
use Rattle.std.proofs.Common.{◌≡◌, ◌+◌, ℕ, zero, suc, List, [], ◌∷◌, ◌++◌, Option, Some, slice_get}
use Rattle.std.proofs.Common.{length, inl, inr, sym, ◌∙◌, ap, subst, arith}
use Rattle.std.specs.Prelude.{IsTrue, Contains, ◌⊎◌}
use Rattle.std.proofs.lemmas.List.Elements.{Contains-append_left, Contains-append_right}
use Rattle.ml_pat.specs.PatternView.{pattern_of}
use Rattle.ml_pat.specs.declared.patterns.MForm.{MForm}
use Rattle.ml_pat.specs.declared.patterns.MForm.TheVariants as form
use Rattle.ml_pat.specs.Patterns.{Pattern, top, imp, and, fun, next, meta}
use Rattle.ml_kernel.specs.Theorems.{Theorem}
use Rattle.ml_derived.specs.Scopes.{Scope, IsOver, IsWithin, AreAssumed, StaysWithin}
use Rattle.ml_derived.specs.Implications.{HasCondition, IsFreedOf}
use Rattle.rule_core.specs.ProgramView.{rewrite_rule}
use Rattle.rule_core.specs.declared.rules.Rule.{Rule}
use Rattle.rule_core.specs.declared.rules.Program.{Program}
use Rattle.ml_image.specs.HasImages.{HasRuleImage}
use Rattle.ml_image.specs.Images.{both, sort_image}
use Rattle.ml_image.specs.Sentences.{functional}
use Rattle.ml_image.specs.Sentences as says
use Rattle.ml_image.proofs.ImageLaws.{some_same}
use Rattle.prove_term.specs.Contexts.{Context, HasContext, HasGrown, StaysIn, IsLemmaIn}
use Rattle.prove_term.specs.RuleAxioms.{HasImageAt, SaysRuleAt}
use Rattle.prove_schema.specs.Assumptions.{HoldsByParts}
use Rattle.prove_schema.specs.Schemas.{with_metas, meta_facts, parts_of}
use Rattle.prove_schema.specs.Opening.{IsForAll, IsSchemaOf, StaysOpen}
use Rattle.prove_schema.proofs.OpeningLaws.{alone}
use Rattle.prove_schema.proofs.ScopeLaws.{StaysAssuming, lemma_of, assumes_only}
use Rattle.prove_equation.proofs.LemmaLaws.{parts_over}
use Rattle.prove_step.specs.RuleLemmas.{AreNumbers, IsCondition, IsConditional, SaysRuleSchema}
use Rattle.prove_step.specs.RuleLemmas.{SaysSchemaAt}
use Rattle.prove_step.proofs.AxiomLaws.{body_of, IsRuleImage, rule_image, image_sentence}
use Rattle.prove_step.proofs.AxiomLaws.{image_condition}

either : {A B C : Type 0} → (A → C) → (B → C) → A ⊎ B → C
either f g (inl a) = f a
either f g (inr b) = g b

-- ---- assumed facts

first_or_later : {X : Type 0} (x : X) (xs : List X) (y : X) → Contains (x ∷ xs) y
    → (x ≡ y) ⊎ Contains xs y
first_or_later x xs y (zero, low, is) = inl is
first_or_later x xs y (suc k, low, is) = inr (k, omega (arith, low), is)

-- a scope that has a context has the numbers of its sorts
has_sort : (s : Scope) (cx : Context) (sort n : ℕ) → HasContext s cx
    → sort_image cx.program.sig cx.names sort ≡ Some n → IsTrue (s.sort n)
has_sort s cx sort n has is =
    (has.images (functional says.top sort) (fun top n) (ap (says_functional) is)).1
  where
    says_functional : Option ℕ → Option Pattern
    says_functional o = both fun (Some top) o

facts_over : (s : Scope) (cx : Context) (k : ℕ) (ss ns : List ℕ) (p : Pattern) → HasContext s cx
    → AreNumbers cx.program.sig cx.names ss ns → Contains (meta_facts k ns) p → IsOver s p
facts_over s cx k ss [] p has are there = absurd (omega (arith, there.1))
facts_over s cx k [] (n ∷ ns) p has are there = absurd are
facts_over s cx k (sort ∷ ss) (n ∷ ns) p has are there =
    either (λ (here : fun (meta k) n ≡ p).
    subst (IsOver s) here (has.metas k, has_sort s cx sort n has are.0))
    (λ (below : Contains (meta_facts (k + 1) ns) p).
    facts_over s cx (k + 1) ss ns p has are.1 below)
    (first_or_later (fun (meta k) n) (meta_facts (k + 1) ns) p there)

-- ---- the condition

-- a condition is not a conjunction
no_conjunction : (p q : Pattern) → IsCondition (and p q) → ⊥
no_conjunction p q (inl h) = cc
no_conjunction p q (inr (a, b, h)) = cc

-- a condition other than `top` is its only part
pub only_part : (f : MForm) → IsCondition (pattern_of f) → (f ≡ form.Top → ⊥)
    → parts_of (pattern_of f) ≡ pattern_of f ∷ []
only_part f is some =
    alone f some
    (λ p q e. no_conjunction p q (subst (λ (x : MForm). IsCondition (pattern_of x)) e is))

condition_same : (l c r m d q : Pattern) → imp (and l c) r ≡ imp (and m d) q → c ≡ d
condition_same l c r m d q e = cc

-- ---- the lemma

-- the image of the rule at a place
pub record ImageAt (cx : Context) (i : ℕ) (p : Pattern) : Type 0 where
  pub rule : Rule
  pub there : slice_get cx.program.rules.items i ≡ Some rule
  pub has : HasRuleImage cx.program.sig (rewrite_rule rule)
  pub image : IsRuleImage cx.program.sig cx.names (rewrite_rule rule) p

pub image_at : (old cx : Context) (i : ℕ) (p : Pattern) → HasGrown old cx → HasImageAt old.program i
    → SaysRuleAt cx i p → ImageAt cx i p
image_at old cx i p g has says = go (subst (λ (q : Program). HasImageAt q i) (sym g.program) has)
  where
    go : HasImageAt cx.program i → ImageAt cx i p
    go (r, there, image) =
        record {
          rule = r;
          there = there;
          has = image;
          image = rule_image cx.program.sig cx.names (rewrite_rule r) p image (says r there);
        }

pub image_for_all : (cx : Context) (i : ℕ) (p : Pattern) → ImageAt cx i p → IsForAll p
image_for_all cx i p a = (
  a.image.numbers,
  body_of a.image.left a.image.condition a.image.right,
  image_sentence cx.program.sig cx.names (rewrite_rule a.rule) p a.image,
)

-- the rule at pattern variables
pub whole_says : (cx : Context) (i : ℕ) (p q : Pattern) (a : ImageAt cx i p) → IsSchemaOf p q
    → q
    ≡ body_of (with_metas (length a.image.numbers) a.image.left)
    (with_metas (length a.image.numbers) a.image.condition)
    (with_metas (length a.image.numbers) a.image.right)
whole_says cx i p q a schema =
    schema a.image.numbers (body_of a.image.left a.image.condition a.image.right)
    (image_sentence cx.program.sig cx.names (rewrite_rule a.rule) p a.image)

pub whole_conditional : (cx : Context) (i : ℕ) (p q : Pattern) → ImageAt cx i p → IsSchemaOf p q
    → IsConditional q
whole_conditional cx i p q a schema = (
  with_metas (length a.image.numbers) a.image.left,
  with_metas (length a.image.numbers) a.image.condition,
  next (with_metas (length a.image.numbers) a.image.right),
  whole_says cx i p q a schema,
)

pub whole_condition : (cx : Context) (i : ℕ) (p q c : Pattern) (a : ImageAt cx i p) → IsSchemaOf p q
    → HasCondition c q → c ≡ with_metas (length a.image.numbers) a.image.condition
whole_condition cx i p q c a schema (l, (r, is)) =
    condition_same l c r (with_metas (length a.image.numbers) a.image.left)
    (with_metas (length a.image.numbers) a.image.condition)
    (next (with_metas (length a.image.numbers) a.image.right))
    (sym is ∙ whole_says cx i p q a schema)

pub is_condition : (cx : Context) (i : ℕ) (p q c : Pattern) → ImageAt cx i p → IsSchemaOf p q
    → HasCondition c q → IsCondition c
is_condition cx i p q c a schema has =
    subst IsCondition (sym (whole_condition cx i p q c a schema has))
    (image_condition cx.program.sig cx.names (rewrite_rule a.rule) p a.has a.image)

-- what is known of a rule, its axiom, the axiom as a schema, and its condition
pub record Opened (cx : Context) (i : ℕ) (stated whole held : Theorem) : Type 0 where
  pub at : ImageAt cx i stated.conclusion
  pub axiom_stays : StaysIn cx stated
  pub schema : IsSchemaOf stated.conclusion whole.conclusion
  pub whole_stays : StaysOpen stated whole
  pub held_has : HasCondition held.conclusion whole.conclusion
  pub held_stays : HoldsByParts held.conclusion held

-- the theorem without its condition is the lemma
opened_assuming : (cx : Context) (i : ℕ) (stated whole held freed : Theorem)
    (o : Opened cx i stated whole held) → StaysWithin [] (whole ∷ held ∷ []) freed
    → StaysAssuming cx
    (meta_facts 0 o.at.image.numbers ++ parts_of
    (with_metas (length o.at.image.numbers) o.at.image.condition)) freed
opened_assuming cx i stated whole held freed o freed_stays s has may =
    let facts_assumed : AreAssumed s (meta_facts 0 o.at.image.numbers) =
    λ p there. (
      may p (Contains-append_left (meta_facts 0 o.at.image.numbers)
          (parts_of (with_metas (length o.at.image.numbers) o.at.image.condition)) p there),
      facts_over s cx 0 (rewrite_rule o.at.rule).variables o.at.image.numbers p has o.at.image.are
          there,
    ) in
    let whole_within : IsWithin s whole =
    o.whole_stays o.at.image.numbers (body_of o.at.image.left o.at.image.condition o.at.image.right)
    (image_sentence cx.program.sig cx.names (rewrite_rule o.at.rule) stated.conclusion
    o.at.image) s (o.axiom_stays s has) facts_assumed in
    let over : IsOver s (body_of (with_metas (length o.at.image.numbers) o.at.image.left)
    (with_metas (length o.at.image.numbers) o.at.image.condition)
    (with_metas (length o.at.image.numbers) o.at.image.right)) =
    subst (IsOver s) (whole_says cx i stated.conclusion whole.conclusion o.at o.schema)
    whole_within.conclusion in
    let parts_assumed : AreAssumed s
    (parts_of (with_metas (length o.at.image.numbers) o.at.image.condition)) =
    λ p there. (
      may p (Contains-append_right (meta_facts 0 o.at.image.numbers)
          (parts_of (with_metas (length o.at.image.numbers) o.at.image.condition)) p there),
      parts_over s (with_metas (length o.at.image.numbers) o.at.image.condition) p over.0.1 there,
    ) in
    let same : held.conclusion ≡ with_metas (length o.at.image.numbers) o.at.image.condition =
    whole_condition cx i stated.conclusion whole.conclusion held.conclusion o.at o.schema
    o.held_has in
    freed_stays s tt (
      whole_within,
      (
        o.held_stays s
            (subst (λ (c : Pattern). AreAssumed s (parts_of c)) (sym same) parts_assumed),
        tt,
      ),
    )

pub opened_lemma : (cx : Context) (i : ℕ) (stated whole held freed : Theorem)
    → Opened cx i stated whole held → StaysWithin [] (whole ∷ held ∷ []) freed → IsLemmaIn cx freed
opened_lemma cx i stated whole held freed o freed_stays =
    lemma_of cx (meta_facts 0 o.at.image.numbers ++ parts_of
    (with_metas (length o.at.image.numbers) o.at.image.condition))
    freed (opened_assuming cx i stated whole held freed o freed_stays)

opened_schema : (cx : Context) (i : ℕ) (stated whole held freed : Theorem)
    (o : Opened cx i stated whole held)
    → IsFreedOf held.conclusion whole.conclusion freed.conclusion
    → StaysWithin [] (whole ∷ held ∷ []) freed → SaysRuleSchema cx (rewrite_rule o.at.rule) freed
opened_schema cx i stated whole held freed o freed_is freed_stays =
    let same : held.conclusion ≡ with_metas (length o.at.image.numbers) o.at.image.condition =
    whole_condition cx i stated.conclusion whole.conclusion held.conclusion o.at o.schema
    o.held_has in
    record {
      numbers = o.at.image.numbers;
      are = o.at.image.are;
      left = o.at.image.left;
      left_image = o.at.image.left_image;
      holds = o.at.image.holds;
      is_holds = o.at.image.is_holds;
      condition = o.at.image.condition;
      condition_image = o.at.image.condition_image;
      right = o.at.image.right;
      right_image = o.at.image.right_image;
      says = freed_is (with_metas (length o.at.image.numbers) o.at.image.left)
          (next (with_metas (length o.at.image.numbers) o.at.image.right))
          (whole_says cx i stated.conclusion whole.conclusion o.at o.schema
          ∙ ap (λ (c : Pattern).
          body_of (with_metas (length o.at.image.numbers) o.at.image.left) c
          (with_metas (length o.at.image.numbers) o.at.image.right))
          (sym same));
      assumes =
          assumes_only cx
          (meta_facts 0 o.at.image.numbers ++ parts_of
          (with_metas (length o.at.image.numbers) o.at.image.condition)) freed
          (opened_assuming cx i stated whole held freed o freed_stays);
    }

pub opened_says : (cx : Context) (i : ℕ) (stated whole held freed : Theorem)
    → Opened cx i stated whole held → IsFreedOf held.conclusion whole.conclusion freed.conclusion
    → StaysWithin [] (whole ∷ held ∷ []) freed → SaysSchemaAt cx i freed
opened_says cx i stated whole held freed o freed_is freed_stays q there =
    let same : o.at.rule ≡ q = some_same o.at.rule q (sym o.at.there ∙ there) in
    subst (λ (x : Rule). SaysRuleSchema cx (rewrite_rule x) freed) same
    (opened_schema cx i stated whole held freed o freed_is freed_stays)
