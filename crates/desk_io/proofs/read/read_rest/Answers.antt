use Rattle.std.proofs.Common.{ℕ, arith, refl}
use Rattle.std.proofs.lemmas.List.{length-take}
use Rattle.desk_io.proofs.Told.{Passed-nil, Passed-then_at_most}
use Rattle.desk_io.proofs.read.read_rest.Goals as goal

pub loop-buffer-init : goal.loop-buffer-init
loop-buffer-init g c = record {
  within = omega arith;
  passed = rw c.new-bytes.ensures.items (Passed-nil _);
  counts = omega arith;
  no_fault = refl;
  writes = refl;
  created = refl;
}

pub returns-in-Ok-eq0-clause-bounded : goal.returns-in-Ok-eq0-clause-bounded
returns-in-Ok-eq0-clause-bounded g c =
    Passed-then_at_most _ _ _ c.loop-buffer.bytes.items _ _ c.loop-buffer.invariant.passed
    c.read_more.ensures.bounded (omega (arith, length-take {A = ℕ}))

pub returns-in-Err-clause-bounded : goal.returns-in-Err-clause-bounded
returns-in-Err-clause-bounded g c =
    Passed-then_at_most _ _ _ c.loop-buffer.bytes.items _ _ c.loop-buffer.invariant.passed
    c.read_more.ensures.bounded (omega (arith, length-take {A = ℕ}))
