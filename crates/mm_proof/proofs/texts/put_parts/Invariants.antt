use Rattle.std.proofs.Common.{◌≡◌, ◌++◌, List}
use Rattle.mm_proof.specs.TextStacks.{PutsParts}
use Rattle.mm_proof.specs.Writing.{text_tokens}
use Rattle.mm_proof.specs.declared.texts.TextPart.{TextPart}
use Rattle.mm_proof.proofs.texts.put_parts.Given as goal

-- the parts that were put are the last ones
abbrev pub invariant-loop-part : goal.invariant-loop-part
invariant-loop-part l =
    (put : List TextPart) × (l.parts ≡ l.part-iterator.iter.rest.now ++ put)
    × PutsParts (λ names k. text_tokens names k put) l.initial.stack.items l.stack.items
