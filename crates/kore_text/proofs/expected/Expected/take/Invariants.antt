use Rattle.std.proofs.Common.{◌≡◌, length}
use Rattle.kore_text.specs.TokenStream.{token_of}
use Rattle.kore_text.specs.Table.{step}
use Rattle.kore_text.specs.Stacks.{stack}
use Rattle.kore_text.proofs.expected.Expected.take.Given as goal

abbrev pub invariant-loop-symbol : goal.invariant-loop-symbol
invariant-loop-symbol l =
    step (stack l.self) (token_of l.word.kind l.word.bytes.now)
    ≡ step (stack l.fn.self) (token_of l.word.kind l.word.bytes.now)

abbrev pub decreases-loop-symbol : goal.decreases-loop-symbol
decreases-loop-symbol l = length l.self.symbols.items
