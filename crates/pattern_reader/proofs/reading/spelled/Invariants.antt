use Rattle.std.proofs.Common.{◌≡◌, Some, drop}
use Rattle.pattern_reader.specs.Machine.{run, at_start}
use Rattle.pattern_reader.specs.Views.{words_of, stack_of}
use Rattle.pattern_reader.proofs.reading.spelled.Given as goal

abbrev pub invariant-loop-word : goal.invariant-loop-word
invariant-loop-word l =
    run (words_of (drop l.word-index l.words)) (Some (stack_of l.below.items l.top))
    ≡ run (words_of l.words) (Some at_start)
