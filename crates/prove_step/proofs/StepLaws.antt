-- What the lemma of a rule says at the images of the terms for its variables.
use Rattle.std.proofs.Common.{◌≡◌, ◌⊎◌, ℕ, List, [], ◌++◌, Option, length, inl, inr, sym, ◌∙◌, ap}
use Rattle.std.proofs.Common.{subst}
use Rattle.std.specs.Prelude.{Contains, Some, slice_index_or}
use Rattle.std.proofs.lemmas.List.Elements.{Contains-get_or, Contains-append_cases}
use Rattle.ml_pat.specs.Patterns.{Pattern, imp, next}
use Rattle.ml_kernel.specs.Lemmas.{instance, IsMetaBelow, HasNoMeta, HasNoVariable, HaveNoVariables}
use Rattle.ml_kernel.specs.Theorems.{Theorem}
use Rattle.ml_derived.specs.Scopes.{Scope, IsOverPlaces}
use Rattle.term_core.specs.Terms.{Tree}
use Rattle.term_core.specs.Patterns.{ground_pattern}
use Rattle.rule_core.specs.Rules.{RewriteRule}
use Rattle.rule_core.specs.Sorting.{IsTermOf}
use Rattle.rule_core.specs.WellSorted.{IsSignature}
use Rattle.rule_core.specs.declared.signature.Signature.{Signature}
use Rattle.ml_image.specs.Images.{image_of}
use Rattle.ml_image.specs.NamedSides.{left_sentence, of_child}
use Rattle.ml_image.specs.Sentences.{Sentence, term, sentence_image}
use Rattle.ml_image.proofs.WellSortedLaws.{sorted_has_image}
use Rattle.prove_term.specs.Contexts.{Context, HasContext, StaysIn}
use Rattle.prove_schema.specs.Schemas.{with_metas, meta_facts, parts_of}
use Rattle.prove_schema.specs.Using.{IsProved, IsUsable, IsUsed, StaysUsed}
use Rattle.prove_schema.specs.Elements.{AreElementsFor}
use Rattle.prove_schema.proofs.OpenLaws.{IsOpenFrom, open_no_variable, open_metas, open_closed}
use Rattle.prove_schema.proofs.OpenLaws.{image_is_open}
use Rattle.prove_schema.proofs.ClosingLaws.{numbers_length}
use Rattle.prove_schema.proofs.InstanceLaws.{AllThere, filled_image, instance_closed}
use Rattle.prove_schema.proofs.LeftSides.{side_is_open, filled_side}
use Rattle.prove_schema.proofs.SentenceLaws.{sentence_is_open, schema_over_places}
use Rattle.prove_schema.proofs.UsingLaws.{as_many_facts, facts_closed}
use Rattle.prove_schema.proofs.BindingLaws.{HasImages, elements_have, elements_within, proved_fact}
use Rattle.prove_equation.specs.Conditions.{listed}
use Rattle.prove_equation.proofs.FillingLaws.{all_there, part_proved, condition_within}
use Rattle.prove_step.specs.Applying.{CanApply, SaysFilledStep}
use Rattle.prove_step.specs.RuleLemmas.{SaysRuleSchema}
use Rattle.prove_step.proofs.AxiomLaws.{rule_side}

-- ---- closed images

-- the image of a term has neither object variables nor pattern variables
pub closed_term : (sig : Signature) (names : List (List ℕ)) (t : Tree) (sort : ℕ) (p : Pattern)
    → IsSignature sig → IsTermOf sig t sort → image_of sig names (ground_pattern t) ≡ Some p
    → HasNoVariable p × HasNoMeta p
closed_term sig names t sort p ok sorted image =
    let is_open : IsOpenFrom 0 0 p =
    image_is_open sig names 0 (ground_pattern t)
    (sorted_has_image sig [] (ground_pattern t) sort ok sorted) p image in
    let same : with_metas 0 p ≡ p = open_closed 0 p is_open in (
      subst HasNoVariable same (open_no_variable 0 0 p is_open),
      subst (IsMetaBelow 0) same (open_metas 0 0 p is_open),
    )

-- ---- citing the lemma

-- a schema has as many pattern variables as the rule has variables
schema_many : (cx : Context) (r : RewriteRule) (lemma : Theorem)
    → (s : SaysRuleSchema cx r lemma) → length s.numbers ≡ length r.variables
schema_many cx r lemma s =
    numbers_length cx.program.sig cx.names r.variables s.numbers s.are

schema_says : (cx : Context) (r : RewriteRule) (lemma : Theorem) → (s : SaysRuleSchema cx r lemma)
    → lemma.conclusion ≡ imp (with_metas (length r.variables) s.left)
    (next (with_metas (length r.variables) s.right))
schema_says cx r lemma s =
    s.says
    ∙ ap (λ (n : ℕ). imp (with_metas n s.left) (next (with_metas n s.right)))
    (schema_many cx r lemma s)

schema_assumes : (cx : Context) (r : RewriteRule) (lemma : Theorem)
    → (s : SaysRuleSchema cx r lemma) → (h : Pattern) → Contains lemma.hypotheses h
    → Contains (meta_facts 0 s.numbers ++ parts_of (with_metas (length r.variables) s.condition)) h
schema_assumes cx r lemma s h there =
    subst (λ (n : ℕ). Contains (meta_facts 0 s.numbers ++ parts_of (with_metas n s.condition)) h)
    (schema_many cx r lemma s) (s.assumes h there)

-- what is known when the lemma of a rule is cited
pub record IsCited (cx : Context) (r : RewriteRule) (lemma : Theorem) (theta : List (Option Tree))
    (o : Option Theorem) (ts : List Theorem) : Type 0 where
  pub can : CanApply cx r lemma theta o
  pub elements : AreElementsFor cx theta ts

-- the images of the terms, and what is proved of them
record IsReadyToStep (cx : Context) (r : RewriteRule) (lemma : Theorem) (theta : List (Option Tree))
    (o : Option Theorem) (ts : List Theorem) (w : IsCited cx r lemma theta o ts) : Type 0 where
  images : HasImages cx theta w.can.schema.numbers ts
  there : AllThere theta (length r.variables)
  left_open : IsOpenFrom 0 (length r.variables) w.can.schema.left
  right_open : IsOpenFrom 0 (length r.variables) w.can.schema.right
  usable : IsUsable images.patterns w.can.schema.numbers lemma ts (listed o)

ready : (cx : Context) (r : RewriteRule) (lemma : Theorem) (theta : List (Option Tree))
    (o : Option Theorem) (ts : List Theorem) (w : IsCited cx r lemma theta o ts)
    → IsReadyToStep cx r lemma theta o ts w
ready cx r lemma theta o ts w =
    let i : HasImages cx theta w.can.schema.numbers ts =
    elements_have cx theta r.variables w.can.schema.numbers ts w.elements w.can.schema.are
    w.can.respects w.can.room in
    let many : (length i.patterns ≡ length ts) × (length w.can.schema.numbers ≡ length ts) =
    as_many_facts i.patterns w.can.schema.numbers ts i.facts in
    let total : length r.variables ≡ length i.patterns =
    sym (numbers_length cx.program.sig cx.names r.variables w.can.schema.numbers
    w.can.schema.are) ∙ many.1 ∙ sym many.0 in
    let left : IsOpenFrom 0 (length r.variables) w.can.schema.left =
    sentence_is_open cx.program.sig cx.names (length r.variables)
    (left_sentence (of_child 0 r.names) r.left)
    (side_is_open cx.program.sig (length r.variables) (left_sentence (of_child 0 r.names) r.left)
    (rule_side cx.program.sig r w.can.image)) w.can.schema.left w.can.schema.left_image in
    let right : IsOpenFrom 0 (length r.variables) w.can.schema.right =
    image_is_open cx.program.sig cx.names (length r.variables) r.right w.can.image.right
    w.can.schema.right w.can.schema.right_image in
    let left_below : IsMetaBelow (length r.variables)
    (with_metas (length r.variables) w.can.schema.left) =
    open_metas 0 (length r.variables) w.can.schema.left left in
    let right_below : IsMetaBelow (length r.variables)
    (with_metas (length r.variables) w.can.schema.right) =
    open_metas 0 (length r.variables) w.can.schema.right right in
    let proved : (h : Pattern)
    → Contains (parts_of (with_metas (length r.variables) w.can.schema.condition)) h →
    IsProved i.patterns w.can.schema.numbers (listed o) h =
    part_proved cx r.variables theta i.patterns w.can.schema.numbers w.can.schema.holds
    w.can.schema.condition r.condition o w.can.schema.is_holds w.can.schema.condition_image
    w.can.image.condition i.images (all_there r.variables theta w.can.bound) total
    w.can.condition in
    let one : (h : Pattern) → Contains (meta_facts 0 w.can.schema.numbers) h ⊎ Contains
    (parts_of (with_metas (length r.variables) w.can.schema.condition)) h
    → IsProved i.patterns w.can.schema.numbers
    (listed o) h =
    λ h. either (proved_fact i.patterns w.can.schema.numbers (listed o) h) (proved h) in
    record {
      images = i;
      there = all_there r.variables theta w.can.bound;
      left_open = left;
      right_open = right;
      usable = record {
        are = i.facts;
        proved = λ k d low. one (slice_index_or lemma.hypotheses k d)
            (Contains-append_cases (meta_facts 0 w.can.schema.numbers)
            (parts_of (with_metas (length r.variables) w.can.schema.condition))
            (slice_index_or lemma.hypotheses k d)
            (schema_assumes cx r lemma w.can.schema (slice_index_or lemma.hypotheses k d)
            (Contains-get_or lemma.hypotheses k d low)));
        below = subst (IsMetaBelow (length i.patterns)) (sym (schema_says cx r lemma w.can.schema))
            (subst (λ (n : ℕ). IsMetaBelow n (with_metas (length r.variables) w.can.schema.left)
            × IsMetaBelow n (with_metas (length r.variables) w.can.schema.right)) total
            (left_below, right_below));
      };
    }
  where
    either : {A B C : Type 0} → (A → C) → (B → C) → A ⊎ B → C
    either f g (inl a) = f a
    either f g (inr b) = g b

pub cited_usable : (cx : Context) (r : RewriteRule) (lemma : Theorem) (theta : List (Option Tree))
    (o : Option Theorem) (ts : List Theorem) → IsCited cx r lemma theta o ts
    → (qs : List Pattern) × (ns : List ℕ) × IsUsable qs ns lemma ts (listed o)
cited_usable cx r lemma theta o ts w =
    let g : IsReadyToStep cx r lemma theta o ts w = ready cx r lemma theta o ts w in
    (g.images.patterns, w.can.schema.numbers, g.usable)

-- The lemma says that the left side steps to the right side. The variables of both are replaced by
-- terms.
pub cited_says : (cx : Context) (r : RewriteRule) (lemma : Theorem) (theta : List (Option Tree))
    (o : Option Theorem) (ts : List Theorem) (t : Theorem) → IsCited cx r lemma theta o ts
    → IsUsed lemma ts (listed o) t
    → SaysFilledStep cx theta (left_sentence (of_child 0 r.names) r.left) r.right t.conclusion
cited_says cx r lemma theta o ts t w used =
    let g : IsReadyToStep cx r lemma theta o ts w = ready cx r lemma theta o ts w in
    let is : t.conclusion ≡ instance g.images.patterns lemma.conclusion =
    used g.images.patterns w.can.schema.numbers g.usable in
    let closed : HaveNoVariables g.images.patterns =
    facts_closed g.images.patterns w.can.schema.numbers ts g.images.facts in
    record {
      from = instance g.images.patterns (with_metas (length r.variables) w.can.schema.left);
      from_image =
          filled_side cx.program.sig cx.names theta g.images.patterns (length r.variables)
          (left_sentence (of_child 0 r.names) r.left) g.images.images g.there
          (rule_side cx.program.sig r w.can.image) w.can.schema.left w.can.schema.left_image;
      to = instance g.images.patterns (with_metas (length r.variables) w.can.schema.right);
      to_image =
          filled_image cx.program.sig cx.names theta g.images.patterns (length r.variables) r.right
          g.images.images g.there w.can.image.right w.can.schema.right w.can.schema.right_image;
      says = is ∙ ap (instance g.images.patterns) (schema_says cx r lemma w.can.schema);
      no_variable = (
        instance_closed g.images.patterns (with_metas (length r.variables) w.can.schema.left) closed
            (open_no_variable 0 (length r.variables) w.can.schema.left g.left_open),
        instance_closed g.images.patterns (with_metas (length r.variables) w.can.schema.right)
            closed
            (open_no_variable 0 (length r.variables) w.can.schema.right g.right_open),
      );
    }

-- what the lemma says stays in the context
side_over : (s : Scope) (cx : Context) (n : ℕ) (side : Sentence) (image : Pattern)
    → HasContext s cx → sentence_image cx.program.sig cx.names side ≡ Some image
    → IsOverPlaces s (with_metas n image)
side_over s cx n side image has is = schema_over_places s cx n side image has is

pub cited_stays : (cx : Context) (r : RewriteRule) (lemma : Theorem) (theta : List (Option Tree))
    (o : Option Theorem) (ts : List Theorem) (t : Theorem) → IsCited cx r lemma theta o ts
    → StaysUsed lemma ts (listed o) t → StaysIn cx t
cited_stays cx r lemma theta o ts t w used s has =
    let over : IsOverPlaces s lemma.conclusion =
    subst (IsOverPlaces s) (sym (schema_says cx r lemma w.can.schema)) (
      side_over s cx (length r.variables) (left_sentence (of_child 0 r.names) r.left)
          w.can.schema.left has
          w.can.schema.left_image,
      side_over s cx (length r.variables) (term r.right) w.can.schema.right has
          w.can.schema.right_image,
    ) in
    used s (has.lemmas lemma w.can.listed) over (elements_within s cx theta ts has w.elements)
    (condition_within cx r.variables theta r.condition o w.can.condition s has)
