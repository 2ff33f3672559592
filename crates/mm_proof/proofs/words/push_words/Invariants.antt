use Rattle.std.proofs.Common.{◌≡◌, ◌++◌, map, take}
use Rattle.mm_proof.specs.Writing.{word_token}
use Rattle.mm_text.specs.Written.{written}
use Rattle.mm_proof.proofs.words.push_words.Given as goal

abbrev pub invariant-loop-word : goal.invariant-loop-word
invariant-loop-word l = l.to.items
    ≡ l.initial.to.items ++ written (map (word_token l.names l.serial) (take l.word-index l.words))
