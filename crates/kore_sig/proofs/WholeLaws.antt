-- The stages of a definition, put together.
use Rattle.std.proofs.Common.{◌≡◌, ℕ, List, [], Option, ap, sym, ◌∙◌, subst}
use Rattle.std.specs.List.{AllZip}
use Rattle.std.specs.Prelude.{option_copied}
use Rattle.rule_core.specs.DistinctNames.{names_of, AreDistinct}
use Rattle.rule_core.specs.Subsorts.{HasNoCycle}
use Rattle.rule_core.specs.WellSorted.{IsSignature}
use Rattle.rule_core.specs.declared.signature.Signature.{Signature}
use Rattle.rule_core.specs.declared.signature.SortInfo.{SortInfo}
use Rattle.kore_text.specs.Trees.{Declaration, DefinitionTree}
use Rattle.kore_sig.specs.CountedModules.{counted_declarations}
use Rattle.kore_sig.specs.Declarations.{pairs_of, symbols_of}
use Rattle.kore_sig.specs.Declaring.{AreSymbols, first_declared, placed_faults, placed_behind}
use Rattle.kore_sig.specs.FirstFault.{Fault}
use Rattle.kore_sig.specs.Knowing.{entries_in, symbols_in, ac_in, IsKnown}
use Rattle.kore_sig.specs.Naming.{first_module}
use Rattle.kore_sig.specs.Ordering.{FirstFrom, pairs_in}
use Rattle.kore_sig.specs.SignatureFaults.{Placed, FirstOfModules, FirstOfDeclarations}
use Rattle.kore_sig.specs.SignatureFaults.{FirstOfPairs, module_faults, names_after}
use Rattle.kore_sig.specs.SignatureFaults.{nothing_declared, declarations_placed}
use Rattle.kore_sig.specs.Signatures.{IsSymbolEntry, IsPairOf, IsSignatureOf}
use Rattle.kore_sig.specs.SortReferences.{sort_entries}
use Rattle.kore_sig.specs.SymbolKinds.{injection_of, ac_names}
use Rattle.kore_sig.specs.declared.declared_facts.DeclaredFacts.{DeclaredFacts}
use Rattle.kore_sig.proofs.MeaningLaws.{first_known, same_entries, signature_there}
use Rattle.kore_sig.proofs.OrderLaws.{in_order}
use Rattle.kore_sig.proofs.SetLaws.{number_among}

pub modules_first : (definition : DefinitionTree) (r : Option Fault)
    → first_module [] definition.modules ≡ r → FirstOfModules definition.modules r
modules_first definition r e =
    subst (FirstOfModules definition.modules) e
    (in_order module_faults names_after [] definition.modules)

declarations_first : (sorts : List (List ℕ × SortInfo)) (ps : List Placed) (r : Option Fault)
    → first_declared sorts nothing_declared ps ≡ r → FirstOfDeclarations sorts ps r
declarations_first sorts ps r e =
    subst (FirstOfDeclarations sorts ps) e
    (in_order (placed_faults sorts) placed_behind nothing_declared ps)

-- the first fault of the declarations, by a table of the declared sorts
pub declared_first : (definition : DefinitionTree) (ds : List Declaration) (known : DeclaredFacts)
    (ps : List Placed) (r : Option Fault) → ds ≡ counted_declarations definition
    → IsKnown ds known → ps ≡ declarations_placed [] definition.modules
    → first_declared known.sorts nothing_declared ps ≡ r
    → FirstOfDeclarations (sort_entries definition) (declarations_placed [] definition.modules) r
declared_first definition ds known ps r counted is where_ first =
    let same : first_declared (entries_in ds) nothing_declared ps ≡ r =
    sym (first_known known.sorts (entries_in ds) is.sorts.known nothing_declared ps) ∙ first in
    subst (λ (qs : List Placed). FirstOfDeclarations (sort_entries definition) qs r) where_
    (subst (λ (xs : List Declaration). FirstOfDeclarations (entries_in xs) ps r) counted
    (declarations_first (entries_in ds) ps r same))

-- the table has exactly the declared sorts
pub table_is : (definition : DefinitionTree) (ds : List Declaration) (known : DeclaredFacts)
    → ds ≡ counted_declarations definition → IsKnown ds known
    → AreDistinct (names_of (entries_in ds)) → known.sorts ≡ sort_entries definition
table_is definition ds known counted is distinct = is.sorts.same distinct ∙ ap entries_in counted

pub pairs_first : (definition : DefinitionTree) (ds : List Declaration)
    (sorts : List (List ℕ × SortInfo)) (r : Option Fault) → ds ≡ counted_declarations definition
    → sorts ≡ sort_entries definition → FirstFrom sorts [] (pairs_in ds) r
    → FirstOfPairs (sort_entries definition) (pairs_of definition) r
pairs_first definition ds sorts r counted is first =
    subst (λ (es : List (List ℕ × SortInfo)). FirstFrom es [] (pairs_of definition) r) is
    (subst (λ (xs : List Declaration). FirstFrom sorts [] (pairs_in xs) r) counted first)

-- the symbols are those of the definition
symbols_are : (definition : DefinitionTree) (ds : List Declaration) (known : DeclaredFacts)
    (sig : Signature) → ds ≡ counted_declarations definition → IsKnown ds known
    → known.sorts ≡ sig.sorts → AreSymbols known ds sig.symbols
    → AllZip (IsSymbolEntry sig.sorts (injection_of (symbols_of definition)) (ac_names definition))
    (symbols_of definition) sig.symbols
symbols_are definition ds known sig counted is same symbols =
    subst (λ (xs : List Declaration). AllZip
    (IsSymbolEntry sig.sorts (injection_of (symbols_in xs)) (ac_in xs)) (symbols_in xs)
    sig.symbols) counted
    (subst (λ (es : List (List ℕ × SortInfo)). AllZip
    (IsSymbolEntry es (injection_of (symbols_in ds)) (ac_in ds)) (symbols_in ds)
    sig.symbols) same
    (same_entries known.sorts (option_copied known.injection) (injection_of (symbols_in ds))
    (names_of known.ac) (ac_in ds) is.injection (λ n. sym (number_among known.ac n) ∙ is.ac n)
    (symbols_in ds) sig.symbols symbols))

pub signature_is : (definition : DefinitionTree) (ds : List Declaration) (known : DeclaredFacts)
    (sig : Signature) → ds ≡ counted_declarations definition → IsKnown ds known
    → known.sorts ≡ sig.sorts → known.sorts ≡ sort_entries definition
    → AreSymbols known ds sig.symbols → AllZip (IsPairOf known.sorts) (pairs_in ds) sig.subsorts
    → IsSignatureOf definition sig
signature_is definition ds known sig counted is same entries symbols pairs = record {
  sorts = sym same ∙ entries;
  symbols = symbols_are definition ds known sig counted is same symbols;
  subsorts =
      subst (λ (xs : List Declaration). AllZip (IsPairOf sig.sorts) (pairs_in xs) sig.subsorts)
      counted (subst
      (λ (es : List (List ℕ × SortInfo)). AllZip (IsPairOf es) (pairs_in ds) sig.subsorts) same
      pairs);
}

pub signature_sorted : (definition : DefinitionTree) (sig : Signature)
    → IsSignatureOf definition sig → AreDistinct (names_of sig.symbols) → HasNoCycle sig.subsorts
    → IsSignature sig
signature_sorted definition sig is distinct no_cycle =
    signature_there sig (ac_names definition) (symbols_of definition) (pairs_of definition)
    is.symbols is.subsorts distinct no_cycle
