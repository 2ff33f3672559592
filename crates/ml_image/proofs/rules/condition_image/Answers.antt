use Rattle.std.proofs.Common.{option_map, ap}
use Rattle.term_core.specs.RulePatterns.{plain_pattern}
use Rattle.rule_core.specs.ProgramView.{sorts_of}
use Rattle.ml_image.specs.Numbering.{number_in}
use Rattle.ml_image.proofs.ConditionLaws.{nothing_said}
use Rattle.ml_image.proofs.rules.condition_image.Goals as goal

pub returns-in-None-clause-image : goal.returns-in-None-clause-image
returns-in-None-clause-image c =
    nothing_said c.args.sig.now c.args.names.now (sorts_of c.args.vars.now) (number_in
    c.args.numbering.now)
    (option_map plain_pattern c.args.condition.now) c.top.result
    (ap (option_map plain_pattern) c.in-None.is) c.top.ensures
