-- Declared sorts: what their hooks say, and which declared sort a sort in the text names (Kore
-- language document, "Sorts").
use Rattle.std.specs.Prelude.{ℕ, List, [], ◌∷◌, Option, Some, None, option_map, map, if◌then◌else◌}
use Rattle.std.specs.Prelude.{codes}
use Rattle.std.specs.List.{position_from}
use Rattle.std.specs.Str.{bytes_eq}
use Rattle.kore_text.specs.Trees.{SortTree, sort_parameter, sort_applied, listed_sorts}
use Rattle.kore_text.specs.Trees.{SortDeclaration, DefinitionTree}
use Rattle.rule_core.specs.Named.{number_of_name}
use Rattle.rule_core.specs.declared.signature.SortInfo.{SortInfo}
use Rattle.rule_core.specs.declared.signature.SortKind.{SortKind}
use Rattle.rule_core.specs.declared.signature.SortKind.TheVariants as kind
use Rattle.rule_core.specs.declared.signature.SortRef.{SortRef}
use Rattle.rule_core.specs.declared.signature.SortRef.TheVariants.{Param, Sort}
use Rattle.kore_sig.specs.Attributes.{hook_of}
use Rattle.kore_sig.specs.Declarations.{sorts_of}

-- the kind of a sort's domain values, by the name of the sort's hook
abbrev pub kind_of_hook : Option (List ℕ) → SortKind
kind_of_hook None = kind.Other
kind_of_hook (Some name) =
    if bytes_eq name (codes "INT.Int") then kind.Int
    else if bytes_eq name (codes "BOOL.Bool") then kind.Bool
    else if bytes_eq name (codes "MAP.Map") then kind.Map
    else kind.Other

-- a declared sort: its name and its kind
abbrev pub sort_entry : SortDeclaration → List ℕ × SortInfo
sort_entry d = (d.name, record { kind = kind_of_hook (hook_of d.attributes) })

-- the declared sorts of a definition
abbrev pub sort_entries : DefinitionTree → List (List ℕ × SortInfo)
sort_entries definition = map sort_entry (sorts_of definition)

-- the place of a sort parameter: that of the first one with its name
abbrev pub parameter_place : List (List ℕ) → List ℕ → Option ℕ
parameter_place params name = position_from (λ (p : List ℕ). bytes_eq name p) 0 params

-- the number of the declared sort with this name; None if it has arguments
abbrev pub declared_number : List (List ℕ × SortInfo) → List ℕ → List SortTree → Option ℕ
declared_number sorts name [] = number_of_name sorts name
declared_number sorts name (s ∷ args) = None

-- What a sort means with these declared sorts and these sort parameters: one of the parameters, or
-- a declared sort without arguments.
abbrev pub sort_reference : List (List ℕ × SortInfo) → List (List ℕ) → SortTree → Option SortRef
sort_reference sorts params (sort_parameter at name) =
    option_map Param (parameter_place params name)
sort_reference sorts params (sort_applied at name args) =
    option_map (λ (n : ℕ). Sort (record { 0 = n })) (declared_number sorts name (listed_sorts args))

-- the number of a sort outside a symbol's declaration, where no sort is a parameter
abbrev pub sort_number : List (List ℕ × SortInfo) → SortTree → Option ℕ
sort_number sorts (sort_parameter at name) = None
sort_number sorts (sort_applied at name args) = declared_number sorts name (listed_sorts args)

-- the byte of a sort's name
abbrev pub sort_place : SortTree → ℕ
sort_place (sort_parameter at name) = at
sort_place (sort_applied at name ss) = at
