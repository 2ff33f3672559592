use Rattle.std.proofs.Common.{option_map}
use Rattle.term_core.specs.RulePatterns.{plain_pattern}
use Rattle.rule_core.specs.ProgramView.{sorts_of}
use Rattle.guard_body.specs.Renaming.{number_in}
use Rattle.guard_body.proofs.ImageLaws.{body_said}
use Rattle.guard_body.proofs.images.body_image.Goals as goal

pub returns-clause-image : goal.returns-clause-image
returns-clause-image c =
    body_said c.condition_image.new.cx c.members_image.new.cx (number_in c.args.numbers.now)
    (sorts_of c.args.equation.now.vars.items) (option_map plain_pattern c.args.equation.now.cond)
    c.args.arguments.now c.in_ok-condition.condition c.in_ok-members.members c.and.result
    c.in_ok-members.ensures.grown c.in_ok-condition.ensures.image c.in_ok-members.ensures.image
    c.and.ensures
