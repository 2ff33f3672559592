use Rattle.std.proofs.Common.{◌≡◌, drop}
use Rattle.term_core.specs.PatternLists.{plain_patterns}
use Rattle.prove_step.specs.Meeting.{meet_in_some}
use Rattle.prove_step.proofs.meeting.+meeting.Given as goal

abbrev pub invariant-meet_in_some-loop-pat : goal.invariant-meet_in_some-loop-pat
invariant-meet_in_some-loop-pat l =
    meet_in_some l.subst (plain_patterns (drop l.pat-index l.pats))
    ≡ meet_in_some l.subst (plain_patterns l.pats)
