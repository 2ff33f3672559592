use Rattle.std.proofs.Common.{◌≡◌, ◌++◌, take}
use Rattle.drill_gen.specs.Drill.{lines}
use Rattle.drill_gen.specs.Texts.{texts}
use Rattle.drill_gen.proofs.text.push_lines.Given as goal

abbrev pub invariant-loop-one : goal.invariant-loop-one
invariant-loop-one l = l.text.items ≡ l.initial.text.items ++ lines (texts (take l.one-index l.all))
