use Rattle.std.proofs.Common.{◌≡◌, ◌++◌, [], map, take, drop}
use Rattle.kore_ast.specs.Plain.{plain_module}
use Rattle.kore_sig.specs.Placing.{plain_placed, names_of_modules}
use Rattle.kore_sig.specs.SignatureFaults.{declarations_placed}
use Rattle.kore_sig.proofs.counted.placed_declarations.Given as goal

abbrev pub invariant-loop-i : goal.invariant-loop-i
invariant-loop-i l =
    map (plain_placed (names_of_modules l.module-items)) l.placed.items
    ++ declarations_placed (take l.i (names_of_modules l.module-items))
    (map plain_module (drop l.i l.module-items))
    ≡ declarations_placed [] (map plain_module l.module-items)
