use Rattle.std.proofs.Common.{◌≡◌}
use Rattle.mm_justify.specs.FactForms.{is_apart_form}
use Rattle.proof_writer.proofs.writer.is_apart.Given as goal

abbrev pub invariant-loop-below : goal.invariant-loop-below
invariant-loop-below l = is_apart_form l.rest ≡ is_apart_form l.fn.pattern
