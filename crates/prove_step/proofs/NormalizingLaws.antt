-- A step as it is written, and the same step between normal terms.
use Rattle.std.proofs.Common.{◌≡◌, List, Option, Some, None, refl, sym, ◌∙◌, ap, subst}
use Rattle.std.specs.Prelude.{IfSome}
use Rattle.ml_pat.specs.Patterns.{Pattern, imp, equal, next}
use Rattle.ml_kernel.specs.Lemmas.{HasNoVariable, HasNoMeta}
use Rattle.ml_kernel.specs.Theorems.{Theorem}
use Rattle.ml_derived.specs.Scopes.{Scope, IsWithin}
use Rattle.term_core.specs.Terms.{Tree}
use Rattle.term_core.specs.Patterns.{Pattern as RulePattern, instance_of, ground_pattern}
use Rattle.term_core.specs.RulePatterns.{plain_pattern}
use Rattle.rule_core.specs.Records.{StepRecord, result_of}
use Rattle.rule_core.specs.Sorting.{IsTermOf}
use Rattle.rule_core.specs.NamedParts.{Name}
use Rattle.rule_core.specs.ProgramView.{names_of, rewrite_rule, theory_of}
use Rattle.rule_core.specs.declared.rules.Rule.{Rule}
use Rattle.rule_core.specs.declared.rules.Program.{Program}
use Rattle.rule_core.proofs.SortedInstances.{instance_is_sorted}
use Rattle.ml_image.specs.Images.{image_of}
use Rattle.ml_image.specs.NamedSides.{left_sentence, of_child}
use Rattle.ml_image.specs.Sentences.{Sentence, sentence_image}
use Rattle.ml_image.proofs.ImageLaws.{some_same}
use Rattle.prove_term.specs.Contexts.{Context, HasContext, HasGrown, StaysIn}
use Rattle.prove_term.specs.Filling.{filled}
use Rattle.prove_term.specs.FilledSides.{filled_sentence, SaysNamed, SaysNamedImage}
use Rattle.prove_term.proofs.ContextLaws.{grown_twice, has_before, image_grown}
use Rattle.prove_fun.specs.Valuing.{EqualsValue}
use Rattle.prove_fun.proofs.Recording.{result_good}
use Rattle.prove_step.specs.Applying.{SaysFilledStep, SaysFilledAt}
use Rattle.prove_step.specs.Normalizing.{SaysStepOf}
use Rattle.prove_step.specs.Turning.{Turns, CanTurn, IsTurned, StaysTurned}
use Rattle.prove_step.specs.Steps.{IsStepFrom, SaysStep}
use Rattle.prove_step.specs.declared.side_lemmas.Side.TheVariants.{Left, Right}
use Rattle.prove_schema.proofs.ElementLaws.{pattern_grown}
use Rattle.prove_step.proofs.StepFacts.{StepFacts, facts_later, same_term}
use Rattle.prove_step.proofs.StepLaws.{closed_term}

-- ---- a side is replaced by its normal form

-- the side in the context in which it was compared, and in a later one
pub turned_side : (mid new : Context) (theta : List (Option Tree)) (names : List Name)
    (p : RulePattern) (o : Option Theorem) (u : Tree) (from : Pattern) → HasGrown mid new
    → SaysNamedImage mid theta names p o → instance_of theta p ≡ Some u
    → sentence_image mid.program.sig mid.names (filled_sentence theta (left_sentence names p))
    ≡ Some from
    → (to : Pattern) × Turns o from to
    × (image_of new.program.sig new.names (ground_pattern u) ≡ Some to)
turned_side mid new theta names p None u from g same makes image = (
  from,
  refl,
  pattern_grown mid new (ground_pattern u) from g (sym (same u makes) ∙ image),
)
turned_side mid new theta names p (Some e) u from g says makes image =
    let s : SaysNamed mid (filled_sentence theta (left_sentence names p)) (ground_pattern u)
    e.conclusion =
    (says u makes).0 in
    let left : s.left ≡ from = some_same s.left from (sym s.left_image ∙ image) in (
      s.right,
      s.says
          ∙ ap (λ (q : Pattern). equal q s.right) left,
      pattern_grown mid new (ground_pattern u) s.right g s.right_image,
    )

-- the theorem on a side stays in the context
pub side_stays : (cx : Context) (theta : List (Option Tree)) (names : List Name) (p : RulePattern)
    (o : Option Theorem) (u : Tree) → SaysNamedImage cx theta names p o
    → instance_of theta p ≡ Some u → IfSome o (StaysIn cx)
side_stays cx theta names p None u says makes = tt
side_stays cx theta names p (Some e) u says makes = (says u makes).1

filled_grown : (old new : Context) (theta : List (Option Tree)) (l : Sentence) (r : RulePattern)
    (p : Pattern) → HasGrown old new → SaysFilledStep old theta l r p
    → SaysFilledStep new theta l r p
filled_grown old new theta l r p g says = record {
  from = says.from;
  from_image = image_grown old new (filled_sentence theta l) says.from g says.from_image;
  to = says.to;
  to_image = pattern_grown old new (filled theta r) says.to g says.to_image;
  says = says.says;
  no_variable = says.no_variable;
}

-- a side is replaced by its value
pub turned_value : (cx : Context) (theta : List (Option Tree)) (p : RulePattern)
    (o : Option Theorem) (u : Tree) (from : Pattern) → EqualsValue cx theta p u o
    → image_of cx.program.sig cx.names (filled theta p) ≡ Some from
    → (to : Pattern) × Turns o from to
    × (image_of cx.program.sig cx.names (ground_pattern u) ≡ Some to)
turned_value cx theta p None u from same image =
    (from, refl, same.right_image ∙ sym same.left_image ∙ image)
turned_value cx theta p (Some e) u from says image =
    let left : says.left ≡ from = some_same says.left from (sym says.left_image ∙ image) in
    (says.right, says.says ∙ ap (λ (q : Pattern). equal q says.right) left, says.right_image)

-- what is known of the step as it is written and of both replacements
pub record Turning (cx : Context) (step : StepRecord) (r : Rule) (left right : Option Theorem)
    (written : Theorem) : Type 0 where
  pub facts : StepFacts cx.program step r
  pub says : SaysFilledStep cx step.theta
      (left_sentence (of_child 0 (names_of r.named.items)) (plain_pattern r.left))
      (plain_pattern r.right) written.conclusion
  pub from : Pattern
  pub from_turned : Turns left says.from from
  pub from_image : image_of cx.program.sig cx.names (ground_pattern facts.term) ≡ Some from
  pub to : Pattern
  pub to_turned : Turns right says.to to
  pub to_image : image_of cx.program.sig cx.names (ground_pattern (result_of step.right)) ≡ Some to

pub turning : (old mid new : Context) (step : StepRecord) (r : Rule) (left right : Option Theorem)
    (written : Theorem) → HasGrown old mid → HasGrown mid new → StepFacts old.program step r
    → SaysFilledAt old step.rule step.theta written.conclusion
    → SaysNamedImage mid step.theta (of_child 0 (names_of r.named.items)) (plain_pattern r.left) left
    → EqualsValue new step.theta (plain_pattern r.right) (result_of step.right) right
    → Turning new step r left right written
unfolding filled_grown
turning old mid new step r left right written g k facts said turns_left turns_right =
    let whole : HasGrown old new = grown_twice old mid new g k in
    let after : StepFacts new.program step r = facts_later old new step r whole facts in
    let names : List Name = of_child 0 (names_of r.named.items) in
    let side : Sentence = left_sentence names (plain_pattern r.left) in
    let says : SaysFilledStep new step.theta side (plain_pattern r.right) written.conclusion =
    filled_grown old new step.theta side (plain_pattern r.right) written.conclusion whole
    (said r facts.there) in
    let before : SaysFilledStep mid step.theta side (plain_pattern r.right) written.conclusion =
    filled_grown old mid step.theta side (plain_pattern r.right) written.conclusion g
    (said r facts.there) in
    let from : (to : Pattern) × Turns left says.from to ×
    (image_of new.program.sig new.names (ground_pattern after.term) ≡ Some to) =
    turned_side mid new step.theta names (plain_pattern r.left) left after.term says.from k
    turns_left after.from before.from_image in
    let to : (to : Pattern) × Turns right says.to to ×
    (image_of new.program.sig new.names (ground_pattern (result_of step.right)) ≡ Some to) =
    turned_value new step.theta (plain_pattern r.right) right (result_of step.right) says.to
    turns_right says.to_image in
    record {
      facts = after;
      says = says;
      from = from.0;
      from_turned = from.1;
      from_image = from.2;
      to = to.0;
      to_turned = to.1;
      to_image = to.2;
    }

-- the replaced sides have no object variable
from_closed : (cx : Context) (step : StepRecord) (r : Rule) (left right : Option Theorem)
    (written : Theorem) (w : Turning cx step r left right written)
    → HasNoVariable w.from × HasNoMeta w.from
from_closed cx step r left right written w =
    let sorted : IsTermOf cx.program.sig w.facts.term w.facts.sort =
    (instance_is_sorted cx.program.sig (rewrite_rule r).variables (plain_pattern r.left)
    w.facts.sort step.theta w.facts.term w.facts.fits.left w.facts.matches.binds.sorted
    w.facts.from).0 in
    closed_term cx.program.sig cx.names w.facts.term w.facts.sort w.from
    w.facts.ready.well_sorted.signature sorted w.from_image

to_closed : (cx : Context) (step : StepRecord) (r : Rule) (left right : Option Theorem)
    (written : Theorem) (w : Turning cx step r left right written)
    → HasNoVariable w.to × HasNoMeta w.to
to_closed cx step r left right written w =
    let sorted : IsTermOf cx.program.sig (result_of step.right) w.facts.right.sort =
    (result_good cx.program step.theta (plain_pattern r.right) step.right w.facts.right).0 in
    closed_term cx.program.sig cx.names (result_of step.right) w.facts.right.sort w.to
    w.facts.ready.well_sorted.signature sorted w.to_image

pub can_turn_left : (cx : Context) (step : StepRecord) (r : Rule) (left right : Option Theorem)
    (written : Theorem) → Turning cx step r left right written → CanTurn Left left written
can_turn_left cx step r left right written w = record {
  before = w.says.from;
  after = w.from;
  other = w.says.to;
  turns = w.from_turned;
  says = w.says.says;
  closed = (
    w.says.no_variable.0,
    ((from_closed cx step r left right written w).0, (w.says.no_variable.1, tt)),
  );
}

pub can_turn_right : (cx : Context) (step : StepRecord) (r : Rule) (left right : Option Theorem)
    (written t : Theorem) → Turning cx step r left right written → IsTurned Left left written t
    → CanTurn Right right t
can_turn_right cx step r left right written t w turned = record {
  before = w.says.to;
  after = w.to;
  other = w.from;
  turns = w.to_turned;
  says = turned w.says.from w.from w.says.to w.from_turned w.says.says;
  closed = (
    w.says.no_variable.1,
    (
      (to_closed cx step r left right written w).0,
      ((from_closed cx step r left right written w).0, tt),
    ),
  );
}

-- the step between the normal terms
pub step_turned : (cx : Context) (step : StepRecord) (r : Rule) (left right : Option Theorem)
    (written t u : Theorem) → Turning cx step r left right written
    → IsTurned Left left written t → IsTurned Right right t u → SaysStepOf cx step u.conclusion
step_turned cx step r left right written t u w turned_left turned_right = λ a from.
    subst (λ (x : Tree). SaysStep cx x (result_of step.right) u.conclusion)
    (same_term cx.program step r a w.facts from) whole
  where
    middle : t.conclusion ≡ imp w.from (next w.says.to)
    middle = turned_left w.says.from w.from w.says.to w.from_turned w.says.says

    whole : SaysStep cx w.facts.term (result_of step.right) u.conclusion
    whole = record {
      from = w.from;
      from_image = w.from_image;
      to = w.to;
      to_image = w.to_image;
      says = turned_right w.says.to w.to w.from w.to_turned middle;
      no_variable = (
        (from_closed cx step r left right written w).0,
        (to_closed cx step r left right written w).0,
      );
      no_meta = (
        (from_closed cx step r left right written w).1,
        (to_closed cx step r left right written w).1,
      );
    }

-- ---- the step stays in the context

within_there : (s : Scope) (cx : Context) (o : Option Theorem) → HasContext s cx
    → IfSome o (StaysIn cx) → IfSome o (IsWithin s)
within_there s cx None has stays = tt
within_there s cx (Some e) has stays = stays s has

-- the contexts are those in which the theorems were made, in order
pub turned_stays : (old mid new first last : Context) (left right : Option Theorem)
    (written t u : Theorem) → HasGrown old mid → HasGrown mid new → HasGrown new first
    → HasGrown first last → StaysIn old written → IfSome left (StaysIn mid)
    → IfSome right (StaysIn new) → StaysTurned first left written t → StaysTurned last right t u
    → StaysIn last u
turned_stays old mid new first last left right written t u g k l m stays on_left on_right
    turned_left turned_right s has =
    let at_first : HasContext s first = has_before first last s m has in
    let at_new : HasContext s new = has_before new first s l at_first in
    let at_mid : HasContext s mid = has_before mid new s k at_new in
    turned_right s has (within_there s new right at_new on_right)
    (turned_left s at_first (within_there s mid left at_mid on_left)
    (stays s (has_before old mid s g at_mid)))

-- the theorem says the same in a context that has grown
pub says_step_grown : (old new : Context) (step : StepRecord) (p : Pattern) → HasGrown old new
    → SaysStepOf old step p → SaysStepOf new step p
says_step_grown old new step p g says = λ t from.
    let s : SaysStep old t (result_of step.right) p =
    says t
    (subst (λ (program : Program). IsStepFrom (theory_of program) t step) g.program from) in
    record {
      from = s.from;
      from_image = pattern_grown old new (ground_pattern t) s.from g s.from_image;
      to = s.to;
      to_image = pattern_grown old new (ground_pattern (result_of step.right)) s.to g s.to_image;
      says = s.says;
      no_variable = s.no_variable;
      no_meta = s.no_meta;
    }
