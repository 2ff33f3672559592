use Rattle.std.proofs.Common.{◌≡◌, ◌++◌}
use Rattle.mm_text.specs.Written.{written}
use Rattle.mm_proof.specs.TextStacks.{stack_tokens, parts_weight}
use Rattle.mm_proof.specs.Writing.{text_tokens}
use Rattle.mm_proof.proofs.texts.push_text.Given as goal

abbrev pub invariant-loop-next : goal.invariant-loop-next
invariant-loop-next l = l.to.items ++ written (stack_tokens l.names l.serial l.stack.items)
    ≡ l.fn.to.items ++ written (text_tokens l.names l.serial l.parts)

abbrev pub decreases-loop-next : goal.decreases-loop-next
decreases-loop-next l = parts_weight l.names l.serial l.stack.items
