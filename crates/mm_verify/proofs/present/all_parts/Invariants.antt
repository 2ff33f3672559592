use Rattle.std.specs.Prelude.{◌≡◌, map, take}
use Rattle.mm_verify.specs.LongStatementView.{part_by, long_symbols}
use Rattle.mm_verify.proofs.present.all_parts.Given as goal

abbrev pub invariant-loop-position : goal.invariant-loop-position
invariant-loop-position l = l.to.items
    ≡ map (part_by l.statement.places.value) (take l.position (long_symbols l.statement))
