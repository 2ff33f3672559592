use Rattle.std.proofs.Common.{arith}
use Rattle.assumed_texts.proofs.EquationLaws.{all-listed}
use Rattle.assumed_texts.proofs.written.written_images.Goals as goal

pub returns-clause-images : goal.returns-clause-images
returns-clause-images c =
    all-listed c.args.program.now c.loop-function.names c.loop-function.function
    c.loop-function.images.items (omega arith) c.loop-function.invariant.0
