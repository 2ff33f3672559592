use Rattle.std.proofs.Common.{◌≡◌, ◌++◌, take}
use Rattle.drill_gen.specs.Drill.{joined}
use Rattle.drill_gen.specs.Texts.{texts}
use Rattle.drill_gen.proofs.text.push_line.Given as goal

abbrev pub invariant-loop-piece : goal.invariant-loop-piece
invariant-loop-piece l =
    l.text.items ≡ l.initial.text.items ++ joined (texts (take l.piece-index l.pieces))
