-- The image of a rule, and what it becomes at pattern variables.
use Rattle.std.proofs.Common.{◌≡◌, ℕ, true, List, Option, Some, None, option_map, length, inl, inr}
use Rattle.std.proofs.Common.{refl, sym, ◌∙◌, ap, subst}
use Rattle.ml_pat.specs.Patterns.{Pattern, top, imp, and, equal, next}
use Rattle.term_core.specs.Terms.{truth}
use Rattle.term_core.specs.Patterns.{Pattern as RulePattern, domain_value}
use Rattle.rule_core.specs.Rules.{RewriteRule}
use Rattle.rule_core.specs.declared.signature.Signature.{Signature}
use Rattle.ml_image.specs.Images.{both, image_of}
use Rattle.ml_image.specs.HasImages as own
use Rattle.ml_image.specs.HasImages.{HasRuleImage}
use Rattle.ml_image.specs.NamedSides.{left_sentence, of_child}
use Rattle.ml_image.specs.OwnAxioms.{SaysRule, condition_sentence, is_true}
use Rattle.ml_image.specs.Sentences.{Sentence, sentence_image, IsImageOf}
use Rattle.ml_image.specs.Sentences as says
use Rattle.ml_image.proofs.ImageLaws.{none_some, some_same}
use Rattle.prove_term.proofs.ImageShapes.{both_some}
use Rattle.prove_schema.specs.Schemas.{IsBodyFrom, closed, IsSentence, with_metas}
use Rattle.prove_schema.proofs.OpenLaws.{IsOpenFrom, open_is_body, image_is_open}
use Rattle.prove_schema.proofs.ClosingLaws.{IsClosed, closed_image, numbers_length}
use Rattle.prove_schema.proofs.SentenceLaws.{sentence_is_open}
use Rattle.prove_schema.proofs.LeftSides.{IsSide, names_below, of_child_below, left_is_side}
use Rattle.prove_schema.proofs.LeftSides.{side_is_open}
use Rattle.prove_equation.proofs.ShapeLaws.{condition_is, condition_open}
use Rattle.prove_step.specs.RuleLemmas.{AreNumbers, IsCondition}

-- if the condition holds, the left side steps to the right side
abbrev pub body_of : Pattern → Pattern → Pattern → Pattern
body_of left condition right = imp (and left condition) (next right)

-- the image of a rule
pub record IsRuleImage (sig : Signature) (names : List (List ℕ)) (r : RewriteRule) (p : Pattern) :
    Type 0 where
  pub numbers : List ℕ
  pub are : AreNumbers sig names r.variables numbers
  pub left : Pattern
  pub left_image : sentence_image sig names (left_sentence (of_child 0 r.names) r.left) ≡ Some left
  pub holds : Sentence
  pub is_holds : condition_sentence sig r.variables r.condition ≡ Some holds
  pub condition : Pattern
  pub condition_image : sentence_image sig names holds ≡ Some condition
  pub right : Pattern
  pub right_image : image_of sig names r.right ≡ Some right
  pub says : p ≡ closed 0 numbers (body_of left condition right)
  pub is_open : IsBodyFrom 0 (length numbers) (body_of left condition right)

record Sides (l c r : Option Pattern) (p : Pattern) : Type 0 where
  left : Pattern
  is_left : l ≡ Some left
  condition : Pattern
  is_condition : c ≡ Some condition
  right : Pattern
  is_right : r ≡ Some right
  says : p ≡ body_of left condition right

sides : (l c r : Option Pattern) (p : Pattern)
    → both imp (both and l c) (option_map next r) ≡ Some p → Sides l c r p
sides None c r p e = absurd (none_some p e)
sides (Some a) None r p e = absurd (none_some p e)
sides (Some a) (Some c) None p e = absurd (none_some p e)
sides (Some a) (Some c) (Some b) p e =
    record {
      left = a;
      is_left = refl;
      condition = c;
      is_condition = refl;
      right = b;
      is_right = refl;
      says = sym (some_same (body_of a c b) p e);
    }

-- the left side of a rule, with the names of its parts
pub rule_side : (sig : Signature) (r : RewriteRule) → HasRuleImage sig r
    → IsSide sig (length r.variables) (left_sentence (of_child 0 r.names) r.left)
rule_side sig r has =
    left_is_side sig (length r.variables) (of_child 0 r.names) r.left
    (of_child_below (length r.variables) 0 r.names
    (names_below (length r.variables) r.names has.names)) has.left

pub rule_image : (sig : Signature) (names : List (List ℕ)) (r : RewriteRule) (p : Pattern)
    → HasRuleImage sig r → IsImageOf sig names (SaysRule sig r) p → IsRuleImage sig names r p
rule_image sig names r p has (s, rule, image) =
    let side : Sentence = left_sentence (of_child 0 r.names) r.left in
    let body : Sentence =
    says.implies (says.and side rule.condition) (says.next (says.term r.right)) in
    let inside : IsClosed sig names 0 r.variables body p =
    closed_image sig names 0 r.variables body p
    (ap (sentence_image sig names) (sym rule.says) ∙ image) in
    let parts : Sides (sentence_image sig names side) (sentence_image sig names rule.condition)
    (image_of sig names r.right) inside.body =
    sides (sentence_image sig names side) (sentence_image sig names rule.condition)
    (image_of sig names r.right) inside.body inside.is_body in
    let many : length r.variables ≡ length inside.numbers =
    sym (numbers_length sig names r.variables inside.numbers inside.are) in
    let left : IsOpenFrom 0 (length r.variables) parts.left =
    sentence_is_open sig names (length r.variables) side
    (side_is_open sig (length r.variables) side (rule_side sig r has)) parts.left parts.is_left in
    let condition : IsOpenFrom 0 (length r.variables) parts.condition =
    sentence_is_open sig names (length r.variables) rule.condition
    (condition_open sig r.variables r.condition rule.condition has.condition rule.conditional)
    parts.condition parts.is_condition in
    let right : IsOpenFrom 0 (length r.variables) parts.right =
    image_is_open sig names (length r.variables) r.right has.right parts.right parts.is_right in
    record {
      numbers = inside.numbers;
      are = inside.are;
      left = parts.left;
      left_image = parts.is_left;
      holds = rule.condition;
      is_holds = rule.conditional;
      condition = parts.condition;
      condition_image = parts.is_condition;
      right = parts.right;
      right_image = parts.is_right;
      says = inside.says ∙ ap (closed 0 inside.numbers) parts.says;
      is_open =
          subst (λ (n : ℕ). IsBodyFrom 0 n (body_of parts.left parts.condition parts.right)) many
          (open_is_body 0 (length r.variables)
          (body_of parts.left parts.condition parts.right) ((left, condition), right));
    }

-- the image says the body for all elements of the sorts of the rule's variables
pub image_sentence : (sig : Signature) (names : List (List ℕ)) (r : RewriteRule) (p : Pattern)
    (i : IsRuleImage sig names r p)
    → IsSentence i.numbers (body_of i.left i.condition i.right) p
image_sentence sig names r p i = record { says = i.says; is_open = i.is_open }

-- the image of a condition
condition_form : (sig : Signature) (names : List (List ℕ)) (n : ℕ) (vars : List ℕ)
    (o : Option RulePattern) (holds : Sentence) (c : Pattern) → own.IsCondition sig vars o
    → condition_sentence sig vars o ≡ Some holds → sentence_image sig names holds ≡ Some c
    → IsCondition (with_metas n c)
condition_form sig names n vars None holds c has is image =
    let nothing : holds ≡ says.top = some_same holds says.top (sym is) in
    let same : c ≡ top = some_same c top (sym image ∙ ap (sentence_image sig names) nothing) in
    inl (ap (with_metas n) same)
condition_form sig names n vars (Some q) holds c has is image =
    let truth_of : holds ≡ is_true q has.sort =
    condition_is sig vars q has.sort holds has.sorted is in
    let w : (a : Pattern) × (b : Pattern) × (image_of sig names q ≡ Some a) ×
    (image_of sig names (domain_value has.sort (truth true)) ≡ Some b) × (c ≡ equal a b) =
    both_some equal (image_of sig names q) (image_of sig names (domain_value has.sort (truth true)))
    c (ap (sentence_image sig names) (sym truth_of) ∙ image) in
    inr (with_metas n w.0, with_metas n w.1, ap (with_metas n) w.4)

pub image_condition : (sig : Signature) (names : List (List ℕ)) (r : RewriteRule) (p : Pattern)
    → HasRuleImage sig r → (i : IsRuleImage sig names r p)
    → IsCondition (with_metas (length i.numbers) i.condition)
image_condition sig names r p has i =
    condition_form sig names (length i.numbers) r.variables r.condition i.holds i.condition
    has.condition i.is_holds
    i.condition_image
