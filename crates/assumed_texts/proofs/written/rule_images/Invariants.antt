use Rattle.rule_core.specs.ProgramView.{theory_of}
use Rattle.ml_image.specs.Gained.{HasGained}
use Rattle.assumed_texts.specs.Listing.{Lists, IsRuleBefore}
use Rattle.assumed_texts.proofs.written.rule_images.Given as goal

abbrev pub invariant-loop-rule : goal.invariant-loop-rule
invariant-loop-rule l =
    Lists (theory_of l.program) l.names (IsRuleBefore (theory_of l.program) l.rule-index)
    l.images.items
    × HasGained l.program.sig l.initial.names l.names
