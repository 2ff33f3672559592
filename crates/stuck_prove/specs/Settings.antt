-- The variables of a rule as a hypothesis, the rule's condition, and what follows from the body.
use Rattle.std.specs.Prelude.{◌≡◌, ◌<◌, ◌∷◌, ℕ, zero, suc, List, [], Some, length}
use Rattle.ml_pat.specs.Patterns.{Pattern, and, imp, not}
use Rattle.ml_pat.specs.Judgements.{IsPredicate}
use Rattle.ml_kernel.specs.Theorems.{Theorem}
use Rattle.term_core.specs.RulePatterns.{sort_numbers}
use Rattle.term_core.specs.Terms.{Tree}
use Rattle.rule_core.specs.Rules.{RewriteRule}
use Rattle.rule_core.specs.Sorting.{AreSorts}
use Rattle.ml_image.specs.Premises.{condition_sentence}
use Rattle.ml_image.specs.Sentences.{Sentence, bottom, sentence_image}
use Rattle.prove_term.specs.Contexts.{Context, StaysIn}
use Rattle.prove_open.specs.Givens.{HasFact, IsGiven, all_sorted}
use Rattle.refute_body.specs.Conditions.{SaysUnderTwo}
use Rattle.stuck_prove.specs.NotMet.{meets_body}
use Rattle.stuck_prove.specs.declared.settings.Setting.{Setting}

-- this many variables, the last one first
abbrev pub down_from : ℕ → List ℕ
down_from zero = []
down_from (suc n) = n ∷ down_from n

-- the hypothesis is on the variables of the rule, the last one first, and the condition is its own
pub record IsSettingOf (cx : Context) (rule : RewriteRule) (s : Setting) : Type 0 where
  pub sorts : sort_numbers s.sorts.items ≡ rule.variables
  pub are_sorts : AreSorts cx.program.sig rule.variables
  pub given : IsGiven cx rule.variables s.given
  pub hypothesis : sentence_image cx.program.sig cx.names
      (all_sorted rule.variables (down_from (length rule.variables))) ≡ Some s.given.hypothesis
  pub facts : (x : ℕ) → x < length rule.variables → HasFact s.given x
  pub sentence : Sentence
  pub is_sentence : condition_sentence cx.program.sig rule.variables rule.condition ≡ Some sentence
  pub condition : sentence_image cx.program.sig cx.names sentence ≡ Some s.condition

-- under the rule's hypothesis the body does not hold
pub record DeniesBody (cx : Context) (rule : RewriteRule) (t : Tree) (s : Setting) (thm : Theorem)
    : Type 0 where
  pub sentence : Sentence
  pub is_sentence : condition_sentence cx.program.sig rule.variables rule.condition ≡ Some sentence
  pub body : Pattern
  pub is_body : sentence_image cx.program.sig cx.names (meets_body rule sentence t) ≡ Some body
  pub says : SaysUnderTwo cx s.given.hypothesis body bottom thm.conclusion
  pub stays : StaysIn cx thm

-- `h -> ~(q & t)` and `g -> h`, where g is everything or nothing
pub record AreApart (g none weaker : Pattern) : Type 0 where
  pub h : Pattern
  pub q : Pattern
  pub t : Pattern
  pub is_none : none ≡ imp h (not (and q t))
  pub is_weaker : weaker ≡ imp g h
  pub predicate : IsPredicate g

-- `h & (q & t) -> e` and `g -> h`
pub record AreInverted (g rule weaker : Pattern) : Type 0 where
  pub h : Pattern
  pub q : Pattern
  pub t : Pattern
  pub e : Pattern
  pub is_rule : rule ≡ imp (and h (and q t)) e
  pub is_weaker : weaker ≡ imp g h
