use Rattle.std.proofs.Common.{sym, subst}
use Rattle.term_core.specs.Patterns.{Pattern}
use Rattle.term_core.specs.RulePatterns.{plain_pattern}
use Rattle.term_core.specs.GroundPatterns.{IsGround}
use Rattle.term_core.proofs.PatternLaws.{IsGround-ground_pattern}
use Rattle.prove_term.proofs.ResultLaws.{if_ok}
use Rattle.prove_term.proofs.ElementLoop.{says_functional}
use Rattle.prove_term.proofs.elements.fun_of.Goals as goal

pub element-requires-clause-ground : goal.element-requires-clause-ground
element-requires-clause-ground c =
    subst (λ (p : Pattern). IsGround p) (sym c.in_ok-pattern.ensures.tree)
    (IsGround-ground_pattern c.args.term.now)

pub returns-clause-says : goal.returns-clause-says
returns-clause-says c =
    if_ok c.element.result
    (λ t says. says_functional c.args.cx.now c.element.new.cx c.args.term.now
    (plain_pattern c.in_ok-pattern.pattern) t.conclusion c.requires.sorted.0
    c.element.ensures.grown c.in_ok-pattern.ensures.tree c.requires.sorted.1 says)
    c.element.ensures.says
