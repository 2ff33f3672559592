use Rattle.std.specs.Prelude.{◌≡◌, ◌++◌, flat_map, slice_get, drop}
use Rattle.mm_frame.specs.Places.{found_at}
use Rattle.mm_verify.specs.LongStatementView.{long_parts}
use Rattle.mm_verify.proofs.present.parts_at.Given as goal

abbrev pub invariant-loop-position : goal.invariant-loop-position
invariant-loop-position l =
    l.to.items
    ++ flat_map (λ i. found_at (slice_get (long_parts l.statement) i))
    (drop l.position-index l.positions)
    ≡ flat_map (λ i. found_at (slice_get (long_parts l.statement) i)) l.positions
