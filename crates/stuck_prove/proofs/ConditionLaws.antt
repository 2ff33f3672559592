-- What follows if a configuration is an instance of a rule's left side: the rule's variables equal the
-- terms of the substitution that matches, and so the rule's condition does not hold if it is not true
-- with these terms.
use Rattle.std.proofs.Common.{◌≡◌, ◌⊎◌, inl, inr, ℕ, List, [], ◌∷◌, Option, Some}
use Rattle.std.proofs.Common.{refl, sym, ◌∙◌, ap, subst}
use Rattle.std.specs.Prelude.{Contains, IfSome}
use Rattle.std.proofs.lemmas.Option.{slice_get_within}
use Rattle.ml_pat.specs.Patterns.{Pattern as LogicPattern, bot, imp}
use Rattle.ml_pat.specs.Patterns as logic
use Rattle.ml_kernel.specs.Theorems.{Theorem}
use Rattle.ml_derived.specs.Scopes.{IsOver, StaysWithin}
use Rattle.term_core.specs.RulePatterns.{sort_numbers}
use Rattle.term_core.specs.Terms.{Tree}
use Rattle.term_core.specs.declared.ids.SortId.{SortId}
use Rattle.term_core.specs.Patterns.{Pattern, binding, ground_pattern, no_pattern, more_patterns}
use Rattle.rule_core.specs.FirstRule.{Matches}
use Rattle.rule_core.specs.Matching.{OccursIn, OccursInSome}
use Rattle.rule_core.specs.NamedParts.{IsNamed}
use Rattle.rule_core.specs.ProgramView.{names_of, rewrite_rule}
use Rattle.rule_core.specs.Rules.{RewriteRule}
use Rattle.rule_core.specs.Theories.{RewriteTheory}
use Rattle.rule_core.specs.WellSorted.{IsCondition, IsRuleOf}
use Rattle.rule_core.specs.declared.rules.Named.{Named}
use Rattle.rule_core.specs.declared.rules.Program.{Program}
use Rattle.rule_core.specs.declared.rules.Rule.{Rule}
use Rattle.rule_core.specs.declared.signature.Signature.{Signature}
use Rattle.rule_core.proofs.Bindings.{given}
use Rattle.ml_image.specs.Images.{both}
use Rattle.ml_image.specs.NamedSides.{left_sentence, of_child}
use Rattle.ml_image.specs.Premises.{condition_sentence, is_true, sort_of}
use Rattle.ml_image.specs.Sentences.{Sentence, and, not, sentence_image, term}
use Rattle.ml_image.proofs.ImageLaws.{some_same}
use Rattle.prove_term.specs.Contexts.{Context, HasGrown, StaysIn}
use Rattle.prove_term.specs.Filling.{filled}
use Rattle.prove_term.proofs.ContextLaws.{image_grown, stays_grown}
use Rattle.prove_term.proofs.ImageShapes.{both_some, map_some}
use Rattle.prove_open.specs.Givens.{HasFact, all_sorted}
use Rattle.refute.specs.NamedRefutations.{inverted_named, named_in_common, variables_as_written}
use Rattle.refute.specs.Refutations.{SaysSentence, all_bound}
use Rattle.refute.proofs.Growing.{program_grown}
use Rattle.refute_body.specs.Conditions.{CanFill, IsFilled}
use Rattle.refute_body.specs.Implications.{IsUnderTwo}
use Rattle.refute_body.proofs.BodyImages.{filled_closed}
use Rattle.refute_body.proofs.Shapes.{and_left, and_right, imp_left}
use Rattle.refute_guard.proofs.WrittenVariables.{child_named, written_variables}
use Rattle.refute_guard.proofs.NamedWritten.{variable_written}
use Rattle.stuck_prove.specs.NotMet.{meets_body}
use Rattle.stuck_prove.specs.Settings.{AreInverted, DeniesBody, IsSettingOf}
use Rattle.stuck_prove.specs.declared.settings.Setting.{Setting}

-- ---- the variables

-- the variables of the left side, as it is written
abbrev pub variables_of : RewriteRule → List ℕ
variables_of rule = variables_as_written (of_child 0 rule.names) rule.left

-- the substitution gives each of them a term
pub written_bound : (theory : RewriteTheory) (rule : RewriteRule) (t : Tree)
    (theta : List (Option Tree)) → Matches theory rule t theta → (x : ℕ)
    → Contains (variables_of rule) x → (u : Tree) × (binding theta x ≡ Some u)
written_bound theory rule t theta match =
    written_variables (of_child 0 rule.names) rule.left
    (λ (x : ℕ). (u : Tree) × (binding theta x ≡ Some u))
    (λ x is. given (binding theta x) ((match.binds.just x).1 (go x is)))
  where
    go : (x : ℕ) → OccursIn x rule.left ⊎ IsNamed (of_child 0 rule.names) x
        → OccursInSome x (more_patterns rule.left no_pattern) ⊎ IsNamed rule.names x
    go x (inl occurs) = inl (inl occurs)
    go x (inr named) = inr (child_named 0 rule.names x named)

pub written_given : (cx : Context) (rule : RewriteRule) (s : Setting) (theory : RewriteTheory)
    (t : Tree) (theta : List (Option Tree)) → IsSettingOf cx rule s → Matches theory rule t theta
    → (x : ℕ) → Contains (variables_of rule) x → HasFact s.given x
written_given cx rule s theory t theta is match x there =
    let b : (u : Tree) × (binding theta x ≡ Some u) =
    written_bound theory rule t theta match x there in
    let told = match.binds.sorted x b.0 b.1 in
    is.facts x (slice_get_within rule.variables x told.1.0 told.1.1)

-- the condition has only these
pub condition_written : (sig : Signature) (sort : ℕ) (rule : RewriteRule) (q : Pattern)
    → IsRuleOf sig sort rule → rule.condition ≡ Some q → (x : ℕ) → OccursIn x q
    → Contains (variables_of rule) x
condition_written sig sort rule q is there x occurs =
    let has : IsCondition sig rule.variables (more_patterns rule.left no_pattern) rule.names q =
    subst (λ (o : Option Pattern). IfSome o
    (IsCondition sig rule.variables (more_patterns rule.left no_pattern) rule.names)) there
    is.condition in
    variable_written sig rule.variables rule.names rule.left x is.names (go (has.6 x occurs))
  where
    go : OccursInSome x (more_patterns rule.left no_pattern) ⊎ IsNamed rule.names x
        → OccursIn x rule.left ⊎ IsNamed rule.names x
    go (inl (inl o)) = inl o
    go (inl (inr none)) = absurd none
    go (inr named) = inr named

-- ---- the inversion

-- what the theorem of an inversion says
pub record IsInversion (cx : Context) (rule : RewriteRule) (theta : List (Option Tree)) (t : Tree)
    (n : LogicPattern) : Type 0 where
  pub h : LogicPattern
  pub is_h : sentence_image cx.program.sig cx.names
      (all_sorted rule.variables (variables_of rule)) ≡ Some h
  pub right : LogicPattern
  pub is_right : sentence_image cx.program.sig cx.names
      (left_sentence (of_child 0 rule.names) rule.left) ≡ Some right
  pub left : LogicPattern
  pub is_left : sentence_image cx.program.sig cx.names (term (ground_pattern t)) ≡ Some left
  pub equations : LogicPattern
  pub are_equations : sentence_image cx.program.sig cx.names (all_bound theta (variables_of rule))
      ≡ Some equations
  pub says : n ≡ imp (logic.and h (logic.and right left)) equations

pub inversion_is : (cx : Context) (rule : RewriteRule) (theta : List (Option Tree)) (t : Tree)
    (n : LogicPattern)
    → SaysSentence cx (inverted_named rule.variables theta (of_child 0 rule.names) rule.left t) n
    → IsInversion cx rule theta t n
inversion_is cx rule theta t n says =
    let common : Sentence = named_in_common (of_child 0 rule.names) rule.left t in
    let w = both_some imp (sentence_image cx.program.sig cx.names
    (and (all_sorted rule.variables (variables_of rule)) common))
    (sentence_image cx.program.sig cx.names (all_bound theta (variables_of rule))) n says in
    let v = both_some logic.and (sentence_image cx.program.sig cx.names
    (all_sorted rule.variables (variables_of rule))) (sentence_image cx.program.sig cx.names common)
    w.0 w.2 in
    let u = both_some logic.and (sentence_image cx.program.sig cx.names
    (left_sentence (of_child 0 rule.names) rule.left))
    (sentence_image cx.program.sig cx.names (term (ground_pattern t))) v.1 v.3 in
    record {
      h = v.0;
      is_h = v.2;
      right = u.0;
      is_right = u.2;
      left = u.1;
      is_left = u.3;
      equations = w.1;
      are_equations = w.3;
      says = parts n w.0 w.1 v.0 v.1 u.0 u.1 w.4 v.4 u.4;
    }
  where
    parts : (n p e h c r l : LogicPattern) → n ≡ imp p e → p ≡ logic.and h c → c ≡ logic.and r l
        → n ≡ imp (logic.and h (logic.and r l)) e
    parts n p e h c r l whole premise common =
        whole ∙ ap (λ (q : LogicPattern). imp q e) (premise ∙ ap (logic.and h) common)

-- the same, with the slices that the code passes
pub inversion_read : (cx : Context) (rule : Rule) (theta : List (Option Tree)) (t : Tree)
    (n : LogicPattern) (s : Setting) (sorts : List SortId) (named : List Named)
    → sorts ≡ s.sorts.items → sort_numbers s.sorts.items ≡ (rewrite_rule rule).variables
    → named ≡ rule.named.items
    → SaysSentence cx (inverted_named (sort_numbers sorts) theta (of_child 0 (names_of named))
    (rewrite_rule rule).left t) n → IsInversion cx (rewrite_rule rule) theta t n
inversion_read cx rule theta t n s sorts named own numbers own_names says =
    inversion_is cx (rewrite_rule rule) theta t n
    (subst (λ (ns : List Named). SaysSentence cx (inverted_named (rewrite_rule rule).variables theta
    (of_child 0 (names_of ns)) (rewrite_rule rule).left t) n) own_names
    (subst (λ (vs : List ℕ). SaysSentence cx (inverted_named vs theta
    (of_child 0 (names_of named)) (rewrite_rule rule).left t) n)
    (ap sort_numbers own ∙ numbers) says))

-- its premise, and the parts of that, as the code reads them
pub premise_read : (cx : Context) (rule : RewriteRule) (theta : List (Option Tree)) (t : Tree)
    (n c l r : LogicPattern) (m : IsInversion cx rule theta t n) → c ≡ n → c ≡ imp l r
    → l ≡ logic.and m.h (logic.and m.right m.left)
premise_read cx rule theta t n c l r m own is =
    sym (imp_left (logic.and m.h (logic.and m.right m.left)) m.equations l r
    (sym m.says ∙ sym own ∙ is))

pub hypothesis_read : (h l r p q : LogicPattern) → l ≡ logic.and h r → l ≡ logic.and p q → h ≡ p
hypothesis_read h l r p q one other = and_left h r p q (sym one ∙ other)

pub common_read : (h l r p q : LogicPattern) → l ≡ logic.and h r → l ≡ logic.and p q → q ≡ r
common_read h l r p q one other = sym (and_right h r p q (sym one ∙ other))

pub are_inverted : (cx : Context) (rule : RewriteRule) (theta : List (Option Tree)) (t : Tree)
    (g n weaker : LogicPattern) (m : IsInversion cx rule theta t n) → weaker ≡ imp g m.h
    → AreInverted g n weaker
are_inverted cx rule theta t g n weaker m is = record {
  h = m.h;
  q = m.right;
  t = m.left;
  e = m.equations;
  is_rule = m.says;
  is_weaker = is;
}

-- the image of the body
abbrev pub body_of : (cx : Context) (rule : RewriteRule) (theta : List (Option Tree)) (t : Tree)
    (n : LogicPattern) → IsInversion cx rule theta t n → LogicPattern → LogicPattern
body_of cx rule theta t n m c = logic.and (logic.and m.left m.right) c

-- ---- the condition

-- the sort of the setting's condition
pub record HasTruth (cx : Context) (rule : RewriteRule) (s : Setting) (q : Pattern) : Type 0 where
  pub sort : ℕ
  pub is_sort : sort_of cx.program.sig rule.variables q ≡ Some sort
  pub is_image : sentence_image cx.program.sig cx.names (is_true q sort) ≡ Some s.condition

pub has_truth : (cx : Context) (rule : RewriteRule) (s : Setting) (q : Pattern)
    → IsSettingOf cx rule s → rule.condition ≡ Some q → HasTruth cx rule s q
has_truth cx rule s q is there =
    let w : (sort : ℕ) × (sort_of cx.program.sig rule.variables q ≡ Some sort)
    × (is.sentence ≡ is_true q sort) =
    map_some (is_true q) (sort_of cx.program.sig rule.variables q) is.sentence
    (subst (λ (o : Option Pattern).
    condition_sentence cx.program.sig rule.variables o ≡ Some is.sentence) there is.is_sentence) in
    record {
      sort = w.0;
      is_sort = w.1;
      is_image =
          ap (λ (c : Sentence). sentence_image cx.program.sig cx.names c) (sym w.2) ∙ is.condition;
    }

-- the terms can be put in place of its variables
pub record IsReady (cx : Context) (rule : RewriteRule) (theta : List (Option Tree)) (t : Tree)
    (s : Setting) (q : Pattern) (n : LogicPattern) (equations start : Theorem) : Type 0 where
  pub inversion : IsInversion cx rule theta t n
  pub truth : HasTruth cx rule s q
  pub can : CanFill cx s.given.hypothesis (body_of cx rule theta t n inversion s.condition)
      (variables_of rule) theta q truth.sort equations start

pub ready : (cx : Context) (rule : RewriteRule) (theta : List (Option Tree)) (t : Tree)
    (s : Setting) (q : Pattern) (theory : RewriteTheory) (inversion weaker equations start : Theorem)
    (common : LogicPattern) (m : IsInversion cx rule theta t inversion.conclusion)
    → IsSettingOf cx rule s → rule.condition ≡ Some q → Matches theory rule t theta
    → common ≡ logic.and m.right m.left
    → ((h q t e : LogicPattern) → inversion.conclusion ≡ imp (logic.and h (logic.and q t)) e
    → equations.conclusion ≡ imp s.given.hypothesis (imp (logic.and (logic.and t q) s.condition) e))
    → ((q t : LogicPattern) → common ≡ logic.and q t
    → start.conclusion
    ≡ imp s.given.hypothesis (imp (logic.and (logic.and t q) s.condition) s.condition))
    → StaysIn cx inversion → StaysIn cx weaker
    → StaysWithin (s.given.hypothesis ∷ s.condition ∷ []) (inversion ∷ weaker ∷ []) equations
    → StaysWithin (s.given.hypothesis ∷ common ∷ s.condition ∷ []) [] start
    → IsReady cx rule theta t s q inversion.conclusion equations start
ready cx rule theta t s q theory inversion weaker equations start common m is there match read
    equations_say start_says inversion_stays weaker_stays equations_stay start_stays = record {
      inversion = m;
      truth = f;
      can = record {
        says = record {
          image = m.equations;
          is_image = m.are_equations;
          says = equations_say m.h m.right m.left m.equations m.says;
        };
        stays = λ scope has.
            equations_stay scope (
              is.given.over scope has,
              (has.images is.sentence s.condition is.condition, tt),
            ) (inversion_stays scope has, (weaker_stays scope has, tt));
        bound = written_bound theory rule t theta match;
        holds = record {
          image = s.condition;
          is_image = f.is_image;
          says = start_says m.right m.left read;
        };
        start_stays = λ scope has.
            start_stays scope (
              is.given.over scope has,
              (
                subst (IsOver scope) (sym read) (
                  has.images (left_sentence (of_child 0 rule.names) rule.left) m.right m.is_right,
                  has.images (term (ground_pattern t)) m.left m.is_left,
                ),
                (has.images is.sentence s.condition is.condition, tt),
              ),
            ) tt;
      };
    }
  where
    f : HasTruth cx rule s q
    f = has_truth cx rule s q is there

-- ---- the end

-- what is denied is what follows from the body
pub denial_is : (cx next : Context) (rule : RewriteRule) (theta : List (Option Tree)) (q : Pattern)
    (sort : ℕ) (g b : LogicPattern) (present : Theorem) (denial : LogicPattern) → HasGrown cx next
    → (full : IsFilled cx g b (variables_of rule) theta q sort present)
    → ((x : ℕ) → OccursIn x q → Contains (variables_of rule) x)
    → sentence_image next.program.sig next.names (not (is_true (filled theta q) sort)) ≡ Some denial
    → denial ≡ logic.not full.holds.image
denial_is cx next rule theta q sort g b present denial grown full uses says =
    let none : (x : ℕ) → OccursIn x full.r → ⊥ =
    λ x o. full.gone x (uses x (full.fewer x o)) o in
    let closed : filled theta q ≡ full.r =
    sym (full.same theta (λ x u listed bound. bound)) ∙ filled_closed theta full.r none in
    let w : (e : LogicPattern)
    × (sentence_image next.program.sig next.names (is_true (filled theta q) sort) ≡ Some e)
    × (denial ≡ logic.not e) =
    map_some logic.not
    (sentence_image next.program.sig next.names (is_true (filled theta q) sort)) denial says in
    let same : w.0 ≡ full.holds.image =
    some_same w.0 full.holds.image
    (sym w.1
    ∙ ap (λ (p : Pattern). sentence_image next.program.sig next.names (is_true p sort)) closed
    ∙ image_grown cx next (is_true full.r sort) full.holds.image grown full.holds.is_image) in
    w.2 ∙ ap logic.not same

-- the body is the image of its sentence
pub body_said : (cx : Context) (rule : RewriteRule) (theta : List (Option Tree)) (t : Tree)
    (n : LogicPattern) (m : IsInversion cx rule theta t n) (c : Sentence) (p : LogicPattern)
    → sentence_image cx.program.sig cx.names c ≡ Some p
    → sentence_image cx.program.sig cx.names (meets_body rule c t)
    ≡ Some (body_of cx rule theta t n m p)
body_said cx rule theta t n m c p is =
    ap (λ (o : Option LogicPattern). both logic.and (both logic.and o
    (sentence_image cx.program.sig cx.names (left_sentence (of_child 0 rule.names) rule.left)))
    (sentence_image cx.program.sig cx.names c)) m.is_left
    ∙ ap (λ (o : Option LogicPattern). both logic.and (both logic.and (Some m.left) o)
    (sentence_image cx.program.sig cx.names c)) m.is_right
    ∙ ap (both logic.and (Some (logic.and m.left m.right))) is

pub body_denied : (cx next : Context) (rule : RewriteRule) (theta : List (Option Tree)) (t : Tree)
    (s : Setting) (q : Pattern) (sort : ℕ) (n : LogicPattern) (present denial made : Theorem)
    (m : IsInversion cx rule theta t n) → HasGrown cx next → IsSettingOf cx rule s
    → (full : IsFilled cx s.given.hypothesis (body_of cx rule theta t n m s.condition)
    (variables_of rule) theta q sort present) → denial.conclusion ≡ logic.not full.holds.image
    → StaysIn next denial
    → ((g b c : LogicPattern) → IsUnderTwo g b c present.conclusion
    → denial.conclusion ≡ logic.not c → IsUnderTwo g b bot made.conclusion)
    → StaysWithin [] (present ∷ denial ∷ []) made → DeniesBody next rule t s made
body_denied cx next rule theta t s q sort n present denial made m grown is full denies denial_stays
    says stays =
    record {
      sentence = is.sentence;
      is_sentence =
          program_grown cx next (λ (program : Program).
          condition_sentence program.sig rule.variables rule.condition ≡ Some is.sentence) grown
          is.is_sentence;
      body = body_of cx rule theta t n m s.condition;
      is_body =
          image_grown cx next (meets_body rule is.sentence t)
          (body_of cx rule theta t n m s.condition) grown
          (body_said cx rule theta t n m is.sentence s.condition is.condition);
      says = record {
        image = bot;
        is_image = refl;
        says =
            says s.given.hypothesis (body_of cx rule theta t n m s.condition) full.holds.image
            full.holds.says denies;
      };
      stays = λ scope has.
          stays scope tt (
            stays_grown cx next present grown full.stays scope has,
            (denial_stays scope has, tt),
          );
    }
