use Rattle.std.proofs.Common.{◌∙◌, arith}
use Rattle.kore_check.proofs.BuildLaws.{variables-truncated}
use Rattle.kore_check.proofs.checked.build_pattern.Goals as goal

pub returns-in-Err-clause-err : goal.returns-in-Err-clause-err
returns-in-Err-clause-err c =
    c.truncate.ensures
    ∙ variables-truncated c.args.vars.now c.build.new.vars c.len-before.result
    (omega (arith, c.len-before.ensures)) c.build.ensures.grows
