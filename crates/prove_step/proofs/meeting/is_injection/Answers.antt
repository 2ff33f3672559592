use Rattle.prove_step.proofs.MeetingLaws.{high_tells}
use Rattle.prove_step.proofs.meeting.is_injection.Goals as goal

pub returns : goal.returns
returns c =
    high_tells c.args.term.now c.height_injected.result c.height.result
    (c.height_injected.ensures.value 0 0) c.height.ensures.value
