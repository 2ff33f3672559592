use Rattle.std.proofs.Common.{◌≡◌, [], Some, ◌∙◌, ap}
use Rattle.std.proofs.lemmas.Result.{IfOk-weaker}
use Rattle.term_core.specs.Patterns.{instance_of, ground_pattern}
use Rattle.term_core.specs.RulePatterns.{plain_pattern}
use Rattle.term_core.specs.declared.rule_patterns.RulePat.{RulePat}
use Rattle.term_core.proofs.PatternLaws.{instance_of-ground_pattern}
use Rattle.term_core.proofs.rule_patterns.pattern_of.Goals as goal

pub returns-clause-instance : goal.returns-clause-instance
returns-clause-instance c =
    IfOk-weaker c.copied.result
    (λ (p : RulePat). plain_pattern p ≡ ground_pattern c.args.term.now)
    (λ (p : RulePat). instance_of [] (plain_pattern p) ≡ Some c.args.term.now)
    (λ p e. ap (instance_of []) e
    ∙ instance_of-ground_pattern [] c.args.term.now c.height-high.ensures.normal)
    c.copied.ensures
