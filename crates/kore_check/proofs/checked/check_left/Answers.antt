use Rattle.std.proofs.Common.{◌∙◌, ℕ, List, ap, sym, subst, arith}
use Rattle.kore_ast.specs.Plain.{pattern_tree as plain_tree}
use Rattle.kore_check.specs.Building.{Extends}
use Rattle.kore_check.specs.Folds.{unfolded}
use Rattle.kore_check.proofs.BuildLaws.{variables-truncated}
use Rattle.kore_check.proofs.VariableLaws.{variables-extended}
use Rattle.kore_check.proofs.checked.check_left.Goals as goal

pub returns-in-Err-clause-err : goal.returns-in-Err-clause-err
returns-in-Err-clause-err c =
    c.truncate.ensures
    ∙ variables-truncated c.args.vars.now c.check_pattern.new.vars c.len-before.result
    (omega (arith, c.len-before.ensures))
    (subst (λ (vs : List (List ℕ × ℕ)). Extends c.args.vars.now vs)
    (sym c.in_ok-made.ensures.vars)
    (variables-extended c.args.sig.now (unfolded (plain_tree c.args.pat.now)) c.args.vars.now))
