use Rattle.rule_core.specs.ProgramView.{theory_of}
use Rattle.mm_check.proofs.decision.judged.Goals as goal

pub returns-in-Ok : goal.returns-in-Ok
returns-in-Ok c =
    c.concluded.ensures (theory_of c.args.program.now) c.requires.valid c.in-Ok.ensures
