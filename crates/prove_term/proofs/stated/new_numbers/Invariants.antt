use Rattle.std.proofs.Common.{◌≡◌, ◌≤◌, ◌^◌, ◌++◌}
use Rattle.ml_kernel.specs.StepView.{numbers_of}
use Rattle.prove_term.specs.Raised.{in_front, numbers_from}
use Rattle.prove_term.proofs.stated.new_numbers.Given as goal

abbrev pub invariant-loop-body : goal.invariant-loop-body
invariant-loop-body l = record {
  fits : l.next ≤ 2 ^ 32;
  numbers : numbers_of l.new.items ++ numbers_from l.next (in_front l.rest)
      ≡ numbers_from l.k (in_front l.fn.pat);
}
