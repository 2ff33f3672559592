use Rattle.std.proofs.Common.{◌≡◌, [], map, take, drop}
use Rattle.rule_core.specs.DistinctNames.{names_of}
use Rattle.kore_ast.specs.Plain.{plain_module}
use Rattle.kore_sig.specs.Naming.{first_module}
use Rattle.kore_sig.specs.Placing.{names_of_modules}
use Rattle.kore_sig.proofs.meaning.module_names.Given as goal

abbrev pub invariant-loop-module : goal.invariant-loop-module
invariant-loop-module l = record {
  first : first_module (names_of l.names) (map plain_module (drop l.module-index l.modules))
      ≡ first_module [] (map plain_module l.modules);
  named : names_of l.names ≡ names_of_modules (take l.module-index l.modules);
}
