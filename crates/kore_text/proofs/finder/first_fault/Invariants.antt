use Rattle.std.proofs.Common.{◌≡◌, Some}
use Rattle.kore_text.specs.TokenStream.{token_stream}
use Rattle.kore_text.specs.Table.{run}
use Rattle.kore_text.specs.Remaining.{left, size}
use Rattle.kore_text.specs.Finding.{fault_of}
use Rattle.kore_text.proofs.finder.first_fault.Given as goal

abbrev pub invariant-loop-finder : goal.invariant-loop-finder
invariant-loop-finder l = fault_of l.finder ≡ run (token_stream l.fn.text) (Some 0) l.fn.start

abbrev pub decreases-loop-finder : goal.decreases-loop-finder
decreases-loop-finder l = size (left l.finder.tokens)
