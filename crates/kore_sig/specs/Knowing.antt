-- What is known of all declarations before each of them is checked.
use Rattle.std.specs.Prelude.{◌≡◌, ℕ, List, map, filter_map, option_copied}
use Rattle.rule_core.specs.DistinctNames.{names_of, AreDistinct}
use Rattle.rule_core.specs.declared.signature.SortInfo.{SortInfo}
use Rattle.kore_text.specs.Trees.{SymbolDeclaration, Declaration}
use Rattle.kore_sig.specs.Declarations.{sort_declared, symbol_declared, axiom_declared}
use Rattle.kore_sig.specs.SortReferences.{sort_entry}
use Rattle.kore_sig.specs.SymbolKinds.{injection_of, said_ac}
use Rattle.kore_sig.specs.Sets.{Knows}
use Rattle.kore_sig.specs.declared.declared_facts.DeclaredFacts.{DeclaredFacts}

abbrev pub entries_in : List Declaration → List (List ℕ × SortInfo)
entries_in ds = map sort_entry (filter_map sort_declared ds)

abbrev pub symbols_in : List Declaration → List SymbolDeclaration
symbols_in ds = filter_map symbol_declared ds

abbrev pub ac_in : List Declaration → List (List ℕ)
ac_in ds = filter_map said_ac (filter_map axiom_declared ds)

-- The table has a sort for each declared name. If no name is declared twice, it has exactly the
-- declared sorts.
pub record IsSortTable (ds : List Declaration) (sorts : List (List ℕ × SortInfo)) : Type 0 where
  pub known : Knows sorts (names_of (entries_in ds))
  pub same : AreDistinct (names_of (entries_in ds)) → sorts ≡ entries_in ds

pub record IsKnown (ds : List Declaration) (known : DeclaredFacts) : Type 0 where
  pub sorts : IsSortTable ds known.sorts
  pub injection : option_copied known.injection ≡ injection_of (symbols_in ds)
  pub ac : Knows known.ac (ac_in ds)
