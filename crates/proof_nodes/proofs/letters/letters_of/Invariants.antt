use Rattle.std.proofs.Common.{take, []}
use Rattle.proof_nodes.specs.Numbering.{SpellsSteps}
use Rattle.proof_nodes.proofs.letters.letters_of.Given as goal

abbrev pub invariant-loop-step : goal.invariant-loop-step
invariant-loop-step l = SpellsSteps l.count (take l.step-index l.steps) [] l.letters.items
