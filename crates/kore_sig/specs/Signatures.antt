-- The signature that the declarations of a definition mean (Kore language document, "Modules and
-- declarations").
use Rattle.std.specs.Prelude.{◌≡◌, ℕ, List, length, map, Option, Some, option_map, string_bytes}
use Rattle.std.specs.List.{AllZip}
use Rattle.kore_text.specs.Trees.{SymbolDeclaration, DefinitionTree}
use Rattle.rule_core.specs.declared.signature.Signature.{Signature}
use Rattle.rule_core.specs.declared.signature.SortInfo.{SortInfo}
use Rattle.rule_core.specs.declared.signature.SymInfo.{SymInfo}
use Rattle.kore_sig.specs.Attributes.{hook_of}
use Rattle.kore_sig.specs.Declarations.{symbols_of, SubsortPair, pairs_of}
use Rattle.kore_sig.specs.SortReferences.{sort_entries, sort_reference, sort_number}
use Rattle.kore_sig.specs.SymbolKinds.{injection_of, kind_of, ac_names, is_ac}

-- The entry of a declared symbol, from these sorts, this injection, and the symbols that axioms say
-- to be associative or the like.
pub record IsSymbolEntry (sorts : List (List ℕ × SortInfo)) (injection : Option (List ℕ))
    (by_axiom : List (List ℕ))
    (d : SymbolDeclaration) (entry : List ℕ × SymInfo) : Type 0 where
  pub name : entry.0 ≡ d.name
  pub kind : entry.1.kind ≡ kind_of injection d
  pub params : entry.1.params ≡ length d.params
  pub args : map Some entry.1.args.items ≡ map (sort_reference sorts d.params) d.args
  pub result : Some entry.1.result ≡ sort_reference sorts d.params d.result
  pub hook : option_map string_bytes entry.1.hook ≡ hook_of d.attributes
  pub ac : entry.1.ac ≡ is_ac by_axiom d

-- the entry of a symbol of a definition with these sorts
abbrev pub IsEntryOf : DefinitionTree → List (List ℕ × SortInfo) → SymbolDeclaration
    → List ℕ × SymInfo → Type 0
IsEntryOf definition sorts d entry =
    IsSymbolEntry sorts (injection_of (symbols_of definition)) (ac_names definition) d entry

-- the numbers of the two sorts of a pair
pub record IsPairOf (sorts : List (List ℕ × SortInfo)) (pair : SubsortPair) (numbers : ℕ × ℕ) :
    Type 0 where
  pub lower : sort_number sorts pair.lower ≡ Some numbers.0
  pub upper : sort_number sorts pair.upper ≡ Some numbers.1

-- the signature has the declared sorts, symbols and pairs, each in the order of the file
pub record IsSignatureOf (definition : DefinitionTree) (sig : Signature) : Type 0 where
  pub sorts : sig.sorts ≡ sort_entries definition
  pub symbols : AllZip (IsEntryOf definition sig.sorts) (symbols_of definition) sig.symbols
  pub subsorts : AllZip (IsPairOf sig.sorts) (pairs_of definition) sig.subsorts
