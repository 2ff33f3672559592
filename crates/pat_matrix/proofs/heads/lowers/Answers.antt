use Rattle.std.proofs.Common.{◌≡◌, ◌∙◌, ap}
use Rattle.term_core.specs.Patterns.{variable}
use Rattle.term_core.specs.RulePatterns.{plain_pattern}
use Rattle.term_core.proofs.PlainPatterns.{plain-Var}
use Rattle.rule_core.proofs.Belows.{below_answer}
use Rattle.pat_matrix.proofs.heads.lowers.Goals as goal

pub returns-in-Var : goal.returns-in-Var
returns-in-Var c =
    let is : plain_pattern c.args.pat.now ≡ variable c.in-Var.field-0 =
    ap plain_pattern c.in-Var.is ∙ plain-Var _ in
    rw is (below_answer _ _ _ _ c.below.ensures)
