-- The declarations, one after another.
use Rattle.std.specs.Prelude.{◌≡◌, ℕ, List, [], ◌∷◌, ◌++◌, Option, Some, None, option_copied}
use Rattle.std.specs.List.{AllZip}
use Rattle.rule_core.specs.DistinctNames.{names_of}
use Rattle.rule_core.specs.declared.signature.SortInfo.{SortInfo}
use Rattle.rule_core.specs.declared.signature.SymInfo.{SymInfo}
use Rattle.kore_text.specs.Trees.{Declaration}
use Rattle.kore_sig.specs.FirstFault.{Fault}
use Rattle.kore_sig.specs.Knowing.{entries_in, symbols_in}
use Rattle.kore_sig.specs.Noted.{first_in}
use Rattle.kore_sig.specs.Refusals.{Refuses}
use Rattle.kore_sig.specs.SignatureFaults.{Placed, DeclaredBefore, declaration_faults}
use Rattle.kore_sig.specs.SignatureFaults.{declared_after}
use Rattle.kore_sig.specs.Signatures.{IsSymbolEntry}
use Rattle.kore_sig.specs.declared.faults.SigFault.{SigFault}
use Rattle.kore_sig.specs.declared.declared_facts.DeclaredFacts.{DeclaredFacts}

-- the result is this first fault, or None if there is none
abbrev pub IsFoundFault : Option Fault → Option SigFault → Type 0
IsFoundFault first None = first ≡ None
IsFoundFault first (Some fault) = Refuses (λ r. first ≡ r) fault

-- the names that are declared before a declaration, from the tables that keep them
abbrev pub before_of : List (List ℕ × Unit {0}) → List (List ℕ × SymInfo) → DeclaredBefore
before_of seen symbols = record { sorts = names_of seen; symbols = names_of symbols }

abbrev pub placed_faults : List (List ℕ × SortInfo) → DeclaredBefore → Placed → List Fault
placed_faults sorts before p = declaration_faults sorts before p.earlier p.declaration

abbrev pub placed_behind : DeclaredBefore → Placed → DeclaredBefore
placed_behind before p = declared_after before p.declaration

-- the first fault of these declarations
abbrev pub first_declared : List (List ℕ × SortInfo) → DeclaredBefore → List Placed → Option Fault
first_declared sorts before ps = first_in (placed_faults sorts) placed_behind before ps

-- the symbols that these declarations declare, from what is known of all declarations
abbrev pub AreSymbols : DeclaredFacts → List Declaration → List (List ℕ × SymInfo) → Type 0
AreSymbols known ds symbols =
    AllZip (IsSymbolEntry known.sorts (option_copied known.injection) (names_of known.ac))
    (symbols_in ds) symbols

-- what is kept of the declarations so far, and what is kept after one more declaration
pub record Grows (known : DeclaredFacts) (seen : List (List ℕ × Unit {0}))
    (symbols : List (List ℕ × SymInfo))
    (seen_behind : List (List ℕ × Unit {0})) (symbols_behind : List (List ℕ × SymInfo))
    (d : Declaration) : Type 0 where
  pub names : before_of seen_behind symbols_behind ≡ declared_after (before_of seen symbols) d
  pub declared : (ds : List Declaration) → AreSymbols known ds symbols
      → AreSymbols known (ds ++ d ∷ []) symbols_behind
  pub sorts : (ds : List Declaration) → names_of seen ≡ names_of (entries_in ds) →
      names_of seen_behind ≡ names_of (entries_in (ds ++ d ∷ []))
