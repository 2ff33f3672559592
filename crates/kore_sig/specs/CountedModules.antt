-- Which modules count (Kore language document, "Modules and declarations"). These are the main
-- module, which is the last one of the definition, and the modules that it reaches by imports. An
-- import names an earlier module.
use Rattle.std.specs.Prelude.{ℕ, Bool, true, List, [], ◌∷◌, Option, Some, None, flat_map}
use Rattle.std.specs.Prelude.{filter_map, if◌then◌else◌}
use Rattle.kore_text.specs.Trees.{Declaration, import_declaration, ModuleTree, DefinitionTree}
use Rattle.rule_core.specs.Named.{is_among}

-- the name of the module that a declaration imports
abbrev pub import_name : Declaration → Option (List ℕ)
import_name (import_declaration d) = Some d.name
import_name d = None

abbrev pub imports_of : ModuleTree → List (List ℕ)
imports_of m = filter_map import_name m.declarations

-- Whether a module counts, from the modules after it and from those of them that count. It counts
-- if it is the last one, or if one that counts imports it.
abbrev pub counts : ModuleTree → List ModuleTree → List ModuleTree → Bool
counts m [] counted_later = true
counts m (next ∷ later) counted_later = is_among (flat_map imports_of counted_later) m.name

-- the modules that count, in the order of the file
abbrev pub counted : List ModuleTree → List ModuleTree
counted [] = []
counted (m ∷ later) = if counts m later (counted later) then m ∷ counted later else counted later

-- the declarations of the modules that count, in the order of the file
abbrev pub counted_declarations : DefinitionTree → List Declaration
counted_declarations definition =
    flat_map (λ (m : ModuleTree). m.declarations) (counted definition.modules)
