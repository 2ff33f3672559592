use Rattle.std.proofs.Common.{◌≡◌, ◌↔◌, map, length, drop}
use Rattle.hook_table.specs.Rows.{plain_kind}
use Rattle.hook_table.specs.Scalars.{kind_of}
use Rattle.hook_table.proofs.calls.are_of_kinds.Given as goal

abbrev pub invariant-loop-arg : goal.invariant-loop-arg
invariant-loop-arg l = (map kind_of (drop (length l.yielded) l.args)
    ≡ map plain_kind (drop (length l.yielded) l.kinds))
    ↔ (map kind_of l.args ≡ map plain_kind l.kinds)
