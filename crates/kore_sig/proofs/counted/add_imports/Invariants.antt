use Rattle.std.proofs.Common.{◌++◌, ℕ, List, map, take}
use Rattle.std.specs.Prelude.{filter_map}
use Rattle.kore_ast.specs.Plain.{plain_declaration}
use Rattle.kore_sig.specs.CountedModules.{import_name}
use Rattle.kore_sig.specs.Sets.{Knows}
use Rattle.kore_sig.proofs.counted.add_imports.Given as goal

abbrev pub invariant-loop-decl : goal.invariant-loop-decl
invariant-loop-decl l = (names : List (List ℕ)) → Knows l.initial.imported names
    → Knows l.imported
    (names ++ filter_map import_name (map plain_declaration (take l.decl-index l.decls)))
