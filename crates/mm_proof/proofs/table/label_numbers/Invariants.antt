use Rattle.std.proofs.Common.{map, take}
use Rattle.mm_proof.specs.TableView.{AreNumbersOf, HasGrown, tokens_of}
use Rattle.mm_proof.specs.Writing.{label_token}
use Rattle.mm_proof.proofs.table.label_numbers.Given as goal

abbrev pub invariant-loop-label : goal.invariant-loop-label
invariant-loop-label l =
    HasGrown (tokens_of l.initial.tokens.keys) (tokens_of l.tokens.keys)
    × AreNumbersOf (tokens_of l.tokens.keys)
    (map (label_token l.serial) (take l.label-index l.labels)) l.numbers.items
