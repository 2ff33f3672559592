use Rattle.std.proofs.Common.{◌≡◌, ◌++◌, length}
use Rattle.mm_header.specs.HeaderRows.{words_of}
use Rattle.mm_check.specs.Stated.{words}
use Rattle.mm_check.proofs.header.push_words.Given as goal

abbrev pub invariant-loop-word : goal.invariant-loop-word
invariant-loop-word l =
    words l.to.items ++ words_of l.rest ≡ words l.initial.to.items ++ words_of l.text

abbrev pub decreases-loop-word : goal.decreases-loop-word
decreases-loop-word l = length l.rest
