use Rattle.std.proofs.Common.{map, take}
use Rattle.kore_rules.specs.AxiomsRead.{tree_at}
use Rattle.kore_rules.specs.LastResortsRead.{HaveReadLast}
use Rattle.kore_rules.proofs.last_resorts.read_last_resorts.Given as goal

abbrev pub invariant-loop-decl : goal.invariant-loop-decl
invariant-loop-decl l =
    HaveReadLast l.sig (map tree_at l.axioms) (map tree_at (take l.decl-index l.axioms))
    l.fn.unreadable.items l.read
