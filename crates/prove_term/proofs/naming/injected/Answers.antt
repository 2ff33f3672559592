use Rattle.std.proofs.Common.{◌≡◌, ◌≤◌, List, Option, Some, sym, ◌∙◌, ap, subst}
use Rattle.std.specs.Prelude.{IsSomeAnd}
use Rattle.term_core.specs.Patterns.{Pattern as RulePattern, instance_of, injection, ground_pattern}
use Rattle.term_core.specs.Terms.{Tree, IsNormal, height}
use Rattle.term_core.specs.RulePatterns.{plain_pattern}
use Rattle.term_core.specs.declared.rule_patterns.RulePat.{RulePat}
use Rattle.term_core.proofs.PatternLaws.{instance_of-ground_pattern}
use Rattle.term_core.proofs.PlainPatterns.{plain-Inj}
use Rattle.rule_core.specs.Evaluation.{most_height}
use Rattle.ml_image.proofs.ImageLaws.{some_same}
use Rattle.prove_term.proofs.naming.injected.Goals as goal

-- under each substitution the pattern of a normal term becomes that term
becomes_term : (theta : List (Option Tree)) (p : RulePattern) (t : Tree) → p ≡ ground_pattern t
    → IsNormal t → instance_of theta p ≡ Some t
becomes_term theta p t is normal =
    ap (instance_of theta) is ∙ instance_of-ground_pattern theta t normal

pub instance-requires : goal.instance-requires
instance-requires c =
    subst (λ (o : Option Tree). IsSomeAnd o (λ (t : Tree). height t ≤ most_height))
    (sym (becomes_term c.in_ok-new.field-0 (plain_pattern c.args.base.now) c.requires.0
    c.requires.1 c.requires.2)) c.requires.3

pub returns : goal.returns
returns c =
    let term : c.in_ok-term.term ≡ c.requires.0 =
    some_same c.in_ok-term.term c.requires.0 (sym c.in_ok-term.ensures.instance
    ∙ becomes_term c.in_ok-new.field-0 (plain_pattern c.args.base.now) c.requires.0
    c.requires.1 c.requires.2) in
    plain-Inj _ _ _
    ∙ ap (λ (p : RulePat). injection c.args.from.0 c.args.to.0 (plain_pattern p))
    c.in_ok-new-2.ensures.ok
    ∙ ap (injection c.args.from.0 c.args.to.0)
    (c.in_ok-pattern_of.ensures.tree ∙ ap ground_pattern term ∙ sym c.requires.1)
