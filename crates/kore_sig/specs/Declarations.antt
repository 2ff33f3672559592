-- What the modules that count declare, in the order of the file. Names are flat: each of these
-- modules may use what any of them declares.
use Rattle.std.specs.Prelude.{ℕ, List, map, Option, Some, None, filter_map, flat_map}
use Rattle.kore_text.specs.Trees.{SortTree, SortDeclaration, SymbolDeclaration, AxiomDeclaration}
use Rattle.kore_text.specs.Trees.{Declaration, sort_declaration, symbol_declaration}
use Rattle.kore_text.specs.Trees.{axiom_declaration, DefinitionTree}
use Rattle.kore_sig.specs.Attributes.{subsort_pairs}
use Rattle.kore_sig.specs.CountedModules.{counted_declarations}

-- what a declaration declares, if it is of this kind
abbrev pub sort_declared : Declaration → Option SortDeclaration
sort_declared (sort_declaration d) = Some d
sort_declared d = None

abbrev pub symbol_declared : Declaration → Option SymbolDeclaration
symbol_declared (symbol_declaration d) = Some d
symbol_declared d = None

abbrev pub axiom_declared : Declaration → Option AxiomDeclaration
axiom_declared (axiom_declaration d) = Some d
axiom_declared d = None

abbrev pub sorts_of : DefinitionTree → List SortDeclaration
sorts_of definition = filter_map sort_declared (counted_declarations definition)

abbrev pub symbols_of : DefinitionTree → List SymbolDeclaration
symbols_of definition = filter_map symbol_declared (counted_declarations definition)

abbrev pub axioms_of : DefinitionTree → List AxiomDeclaration
axioms_of definition = filter_map axiom_declared (counted_declarations definition)

-- a pair of sorts, with the byte of the axiom that says that the first is below the second
pub record SubsortPair : Type 0 where
  pub at : ℕ
  pub lower : SortTree
  pub upper : SortTree

abbrev pub pair_at : ℕ → SortTree × SortTree → SubsortPair
pair_at at p = record { at = at; lower = p.0; upper = p.1 }

-- the pairs that the attributes of an axiom state
abbrev pub pairs_of_axiom : AxiomDeclaration → List SubsortPair
pairs_of_axiom stated = map (pair_at stated.at) (subsort_pairs stated.attributes)

-- the pairs of all axioms
abbrev pub pairs_of : DefinitionTree → List SubsortPair
pairs_of definition = flat_map pairs_of_axiom (axioms_of definition)
