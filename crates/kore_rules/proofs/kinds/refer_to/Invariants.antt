use Rattle.std.proofs.Common.{◌≡◌, map, drop}
use Rattle.hook_table.specs.Rows.{plain_kind}
use Rattle.kore_rules.specs.ScalarSorts.{refer_to}
use Rattle.kore_rules.proofs.kinds.refer_to.Given as goal

abbrev pub invariant-loop-i : goal.invariant-loop-i
invariant-loop-i l =
    refer_to l.sig l.with_terms (map plain_kind (drop l.i l.kinds)) (drop l.i l.sorts)
    ≡ refer_to l.sig l.with_terms (map plain_kind l.kinds) l.sorts
