use Rattle.std.proofs.Common.{◌≡◌, ◌+◌, ◌++◌}
use Rattle.drill_gen.specs.Drill.{first_lines, symbol_lines, rule_lines}
use Rattle.drill_gen.proofs.text.drill.Given as goal

abbrev pub invariant-loop-i : goal.invariant-loop-i
invariant-loop-i l = l.definition.items ≡ first_lines ++ symbol_lines l.i

abbrev pub invariant-loop-i-2 : goal.invariant-loop-i-2
invariant-loop-i-2 l =
    l.definition.items ≡ (first_lines ++ symbol_lines (l.steps + 1)) ++ rule_lines l.i
