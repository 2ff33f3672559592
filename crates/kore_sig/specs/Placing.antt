-- Which modules count, module by module, and declarations with the number of their module.
use Rattle.std.specs.Prelude.{ℕ, Bool, List, [], ◌∷◌, map, take}
use Rattle.kore_text.specs.Trees.{ModuleTree}
use Rattle.kore_ast.specs.Plain.{plain_declaration}
use Rattle.kore_ast.specs.declared.tree.Module.{Module}
use Rattle.kore_sig.specs.CountedModules.{counts, counted}
use Rattle.kore_sig.specs.SignatureFaults.{Placed as PlacedTree}
use Rattle.kore_sig.specs.declared.counted.Placed.{Placed}

-- whether each module counts
abbrev pub marks_of : List ModuleTree → List Bool
marks_of [] = []
marks_of (m ∷ later) = counts m later (counted later) ∷ marks_of later

abbrev pub names_of_modules : List Module → List (List ℕ)
names_of_modules modules = map (λ (m : Module). m.name) modules

-- a declaration with the names of the modules before its own
abbrev pub plain_placed : List (List ℕ) → Placed → PlacedTree
plain_placed names p = record {
  earlier = take p.module_index names;
  declaration = plain_declaration p.decl.now;
}
