use Rattle.std.proofs.Common.{◌≡◌, ◌++◌, take}
use Rattle.mm_check.specs.Stated.{words}
use Rattle.mm_check.specs.RowTexts.{spaced}
use Rattle.mm_check.proofs.header.push_spaced.Given as goal

abbrev pub invariant-loop-word : goal.invariant-loop-word
invariant-loop-word l =
    l.to.items ≡ l.initial.to.items ++ spaced (words (take l.word-index l.expression))
