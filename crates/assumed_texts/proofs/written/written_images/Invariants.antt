use Rattle.rule_core.specs.ProgramView.{theory_of}
use Rattle.ml_image.specs.Gained.{HasGained}
use Rattle.assumed_texts.specs.Listing.{Lists, IsBefore}
use Rattle.assumed_texts.proofs.written.written_images.Given as goal

abbrev pub invariant-loop-function : goal.invariant-loop-function
invariant-loop-function l =
    Lists (theory_of l.program) l.names (IsBefore (theory_of l.program) l.function) l.images.items
    × HasGained l.program.sig l.initial.names l.names
