use Rattle.std.proofs.Common.{◌≡◌, map, drop, reverse}
use Rattle.std.specs.Prelude.{flat_map}
use Rattle.kore_ast.specs.Plain.{plain_module}
use Rattle.kore_sig.specs.CountedModules.{imports_of, counted}
use Rattle.kore_sig.specs.Placing.{marks_of}
use Rattle.kore_sig.specs.Sets.{Knows}
use Rattle.kore_sig.proofs.counted.marks.Given as goal

abbrev pub invariant-loop-i : goal.invariant-loop-i
invariant-loop-i l = record {
  marked : reverse l.marks.items ≡ marks_of (map plain_module (drop l.i l.modules));
  imported : Knows l.imported
      (flat_map imports_of (counted (map plain_module (drop l.i l.modules))));
}
