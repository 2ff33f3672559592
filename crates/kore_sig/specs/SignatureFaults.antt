-- The faults of the declarations of a definition, and the first of them. The names of all modules
-- come first, then the declarations of the modules that count, then the pairs of sorts. Each of
-- these is in the order of the file. At one declaration the smallest number comes first, and for
-- the same number the first byte.
use Rattle.std.specs.Prelude.{◌≡◌, ◌==◌, ℕ, List, [], ◌∷◌, ◌++◌, length, map, flat_map, Contains}
use Rattle.std.specs.Prelude.{Option, Some, None, is_some, if◌then◌else◌, nat_lt}
use Rattle.kore_text.specs.Trees.{SortTree, ImportDeclaration, SortDeclaration, SymbolDeclaration}
use Rattle.kore_text.specs.Trees.{Declaration, import_declaration, sort_declaration}
use Rattle.kore_text.specs.Trees.{symbol_declaration, ModuleTree, DefinitionTree}
use Rattle.rule_core.specs.Subsorts.{HasNoCycle}
use Rattle.rule_core.specs.declared.signature.SortInfo.{SortInfo}
use Rattle.kore_sig.specs.FirstFault.{Fault, when, unless, ByNumber, IsFirstBy, Then}
use Rattle.kore_sig.specs.FirstFault.{IsFirstOfSequence}
use Rattle.rule_core.specs.Named.{is_among}
use Rattle.kore_sig.specs.CountedModules.{counts, counted}
use Rattle.kore_sig.specs.Declarations.{SubsortPair, pairs_of}
use Rattle.kore_sig.specs.SortReferences.{sort_entries, sort_reference, sort_number, sort_place}

-- ---- the names of the modules

-- 5 at the keyword of a module: an earlier one has its name
abbrev pub module_faults : List (List ℕ) → ModuleTree → List Fault
module_faults names m = when (is_among names m.name) 5 m.at

abbrev pub names_after : List (List ℕ) → ModuleTree → List (List ℕ)
names_after names m = names ++ m.name ∷ []

abbrev pub FirstOfModules : List ModuleTree → Option Fault → Type 0
FirstOfModules modules r =
    IsFirstOfSequence (λ names m. IsFirstBy ByNumber (Contains (module_faults names m))) names_after
    [] modules r

-- ---- the declarations

-- a declaration, and the names of the modules before its own
pub record Placed : Type 0 where
  pub earlier : List (List ℕ)
  pub declaration : Declaration

abbrev pub placed_at : List (List ℕ) → Declaration → Placed
placed_at names d = record { earlier = names; declaration = d }

-- the declarations of the modules that count, if the modules before them have these names
abbrev pub declarations_placed : List (List ℕ) → List ModuleTree → List Placed
declarations_placed names [] = []
declarations_placed names (m ∷ later) =
    (if counts m later (counted later) then map (placed_at names) m.declarations else [])
    ++ declarations_placed (names_after names m) later

-- the names that are declared before a declaration
pub record DeclaredBefore : Type 0 where
  pub sorts : List (List ℕ)
  pub symbols : List (List ℕ)

-- 4 at the keyword: no earlier module has the name
abbrev pub import_faults : List (List ℕ) → ImportDeclaration → List Fault
import_faults earlier d = unless (is_among earlier d.name) 4 d.at

-- 5 at the keyword: an earlier sort has the name; 10 at the keyword: it has parameters
abbrev pub sort_declaration_faults : List (List ℕ) → SortDeclaration → List Fault
sort_declaration_faults names d = when (is_among names d.name) 5 d.at
    ++ unless (length d.params == 0) 10 d.at

-- 6 at the sort's name: it is neither declared nor a parameter, or it has arguments
abbrev pub reference_faults : List (List ℕ × SortInfo) → List (List ℕ) → SortTree → List Fault
reference_faults sorts params s = unless (is_some (sort_reference sorts params s)) 6 (sort_place s)

-- the greatest number of arguments of a symbol
abbrev pub most_arguments : ℕ
most_arguments = 64

-- 5 at the keyword: an earlier symbol has the name; 6 at the name of a sort; 8 at the keyword: it
-- has too many arguments
abbrev pub symbol_declaration_faults : List (List ℕ × SortInfo) → List (List ℕ) → SymbolDeclaration
    → List Fault
symbol_declaration_faults sorts names d =
    when (is_among names d.name) 5 d.at
    ++ flat_map (reference_faults sorts d.params) (d.args ++ d.result ∷ [])
    ++ when (nat_lt most_arguments (length d.args)) 8 d.at

-- the faults of a declaration, if these names are declared before it
abbrev pub declaration_faults : List (List ℕ × SortInfo) → DeclaredBefore → List (List ℕ)
    → Declaration
    → List Fault
declaration_faults sorts before earlier (import_declaration d) = import_faults earlier d
declaration_faults sorts before earlier (sort_declaration d) =
    sort_declaration_faults before.sorts d
declaration_faults sorts before earlier (symbol_declaration d) =
    symbol_declaration_faults sorts before.symbols d
declaration_faults sorts before earlier d = []

-- the names that are declared before the next declaration
abbrev pub declared_after : DeclaredBefore → Declaration → DeclaredBefore
declared_after before (sort_declaration d) = record before { sorts = before.sorts ++ d.name ∷ [] }
declared_after before (symbol_declaration d) =
    record before { symbols = before.symbols ++ d.name ∷ [] }
declared_after before d = before

abbrev pub nothing_declared : DeclaredBefore
nothing_declared = record { sorts = []; symbols = [] }

abbrev pub FirstOfDeclarations : List (List ℕ × SortInfo) → List Placed → Option Fault → Type 0
FirstOfDeclarations sorts declarations r =
    IsFirstOfSequence (λ before p.
    IsFirstBy ByNumber (Contains (declaration_faults sorts before p.earlier p.declaration)))
    (λ before p. declared_after before p.declaration) nothing_declared declarations r

-- ---- the pairs of sorts

-- 6 at the sort's name: it is not declared, is a parameter, or has arguments
abbrev pub number_faults : List (List ℕ × SortInfo) → SortTree → List Fault
number_faults sorts s = unless (is_some (sort_number sorts s)) 6 (sort_place s)

-- A fault of a pair, if these pairs come before it. It is 6 at the name of a sort that is not
-- declared, is a parameter, or has arguments. It is 24 at the keyword of the axiom if the pair puts
-- a sort below itself.
pub data HasPairFault (sorts : List (List ℕ × SortInfo)) (before : List (ℕ × ℕ)) (p : SubsortPair) :
    Fault → Type 0 where
  unknown_sort : {f : Fault}
      → Contains (number_faults sorts p.lower ++ number_faults sorts p.upper) f
      → HasPairFault sorts before p f
  cycle : {a b : ℕ} → sort_number sorts p.lower ≡ Some a → sort_number sorts p.upper ≡ Some b →
      (HasNoCycle (before ++ (a, b) ∷ []) → ⊥)
      → HasPairFault sorts before p (record { number = 24; byte = p.at })

-- the numbers of the pairs before, and then those of this pair if both of its sorts are declared
abbrev pub with_numbers : List (ℕ × ℕ) → Option ℕ → Option ℕ → List (ℕ × ℕ)
with_numbers before None b = before
with_numbers before (Some a) None = before
with_numbers before (Some a) (Some b) = before ++ (a, b) ∷ []

abbrev pub pairs_after : List (List ℕ × SortInfo) → List (ℕ × ℕ) → SubsortPair → List (ℕ × ℕ)
pairs_after sorts before p =
    with_numbers before (sort_number sorts p.lower) (sort_number sorts p.upper)

abbrev pub FirstOfPairs : List (List ℕ × SortInfo) → List SubsortPair → Option Fault → Type 0
FirstOfPairs sorts pairs r =
    IsFirstOfSequence (λ before p. IsFirstBy ByNumber (HasPairFault sorts before p))
    (pairs_after sorts) [] pairs r

-- ---- the definition

-- the first fault of the declarations of a definition, or none
abbrev pub FirstOfSignature : DefinitionTree → Option Fault → Type 0
FirstOfSignature definition r =
    Then (FirstOfModules definition.modules)
    (Then (FirstOfDeclarations (sort_entries definition)
    (declarations_placed [] definition.modules))
    (FirstOfPairs (sort_entries definition) (pairs_of definition))) r
