use Rattle.std.proofs.Common.{◌≡◌, ◌++◌, []}
use Rattle.mm_render.specs.Keys.{all_bytes, pattern_key}
use Rattle.mm_render.specs.PlaceTable.{all_numbers}
use Rattle.mm_proof.specs.Searching.{all_forms, patterns_of}
use Rattle.mm_render.proofs.places.push_key.Given as goal

abbrev pub invariant-loop-next : goal.invariant-loop-next
invariant-loop-next l = l.key.items ++ all_bytes (all_numbers (patterns_of l.stack.items) [])
    ≡ l.fn.key.items ++ pattern_key l.pattern

abbrev pub decreases-loop-next : goal.decreases-loop-next
decreases-loop-next l = all_forms (patterns_of l.stack.items)
