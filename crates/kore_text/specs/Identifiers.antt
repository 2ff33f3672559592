-- The names in a tree are identifiers. Each is a letter, and then letters, digits, `'` and `-`.
use Rattle.std.specs.Prelude.{ℕ, false, List, [], All}
use Rattle.kore_lex.specs.Tokens.{IsName}
use Rattle.kore_text.specs.TokenStream.{token_stream, end}
use Rattle.kore_text.specs.Trees.{SortTree, sort_parameter, sort_applied, SortTrees, no_sorts}
use Rattle.kore_text.specs.Trees.{sort_then, PatternTree, element_variable, set_variable, string}
use Rattle.kore_text.specs.Trees.{symbol_applied, connected, binder_applied, value_written, folded}
use Rattle.kore_text.specs.Trees.{PatternTrees, no_patterns, pattern_then, ImportDeclaration}
use Rattle.kore_text.specs.Trees.{SortDeclaration, SymbolDeclaration, AliasDeclaration}
use Rattle.kore_text.specs.Trees.{AxiomDeclaration, ModuleTree, DefinitionTree, Declaration}
use Rattle.kore_text.specs.Trees.{import_declaration, sort_declaration, symbol_declaration}
use Rattle.kore_text.specs.Trees.{alias_declaration, axiom_declaration, claim_declaration}
use Rattle.kore_text.specs.Grammar.{TakesTokens, spell_pattern, spell_definition}

abbrev mutual
  pub IsNamedSort : SortTree → Type 0
  IsNamedSort (sort_parameter at n) = IsName n
  IsNamedSort (sort_applied at n ss) = IsName n × AreNamedSorts ss

  pub AreNamedSorts : SortTrees → Type 0
  AreNamedSorts no_sorts = Unit {0}
  AreNamedSorts (sort_then s ss) = IsNamedSort s × AreNamedSorts ss

-- each name in the pattern is an identifier; the name of a set variable is what follows its `@`; a
-- string is not a name
abbrev mutual
  pub IsNamedPattern : PatternTree → Type 0
  IsNamedPattern (element_variable at n s) = IsName n × IsNamedSort s
  IsNamedPattern (set_variable at n s) = IsName n × IsNamedSort s
  IsNamedPattern (string at t) = Unit {0}
  IsNamedPattern (symbol_applied at n ss ps) = IsName n × AreNamedSorts ss × AreNamedPatterns ps
  IsNamedPattern (connected at o ss ps) = AreNamedSorts ss × AreNamedPatterns ps
  IsNamedPattern (binder_applied at o ss x p) = AreNamedSorts ss × IsNamedPattern x
      × IsNamedPattern p
  IsNamedPattern (value_written at s t place) = IsNamedSort s
  IsNamedPattern (folded at left p) = IsNamedPattern p

  pub AreNamedPatterns : PatternTrees → Type 0
  AreNamedPatterns no_patterns = Unit {0}
  AreNamedPatterns (pattern_then p ps) = IsNamedPattern p × AreNamedPatterns ps

pub record IsNamedImport (d : ImportDeclaration) : Type 0 where
  pub name : IsName d.name
  pub attributes : All IsNamedPattern d.attributes

pub record IsNamedSortDeclaration (d : SortDeclaration) : Type 0 where
  pub name : IsName d.name
  pub params : All IsName d.params
  pub attributes : All IsNamedPattern d.attributes

pub record IsNamedSymbol (d : SymbolDeclaration) : Type 0 where
  pub name : IsName d.name
  pub params : All IsName d.params
  pub args : All IsNamedSort d.args
  pub result : IsNamedSort d.result
  pub attributes : All IsNamedPattern d.attributes

pub record IsNamedAlias (d : AliasDeclaration) : Type 0 where
  pub name : IsName d.name
  pub params : All IsName d.params
  pub args : All IsNamedSort d.args
  pub result : IsNamedSort d.result
  pub left_name : IsName d.left_name
  pub left_sorts : All IsNamedSort d.left_sorts
  pub vars : All IsNamedPattern d.vars
  pub body : IsNamedPattern d.body
  pub attributes : All IsNamedPattern d.attributes

pub record IsNamedAxiom (d : AxiomDeclaration) : Type 0 where
  pub params : All IsName d.params
  pub pattern : IsNamedPattern d.pattern
  pub attributes : All IsNamedPattern d.attributes

abbrev pub IsNamedDeclaration : Declaration → Type 0
IsNamedDeclaration (import_declaration d) = IsNamedImport d
IsNamedDeclaration (sort_declaration d) = IsNamedSortDeclaration d
IsNamedDeclaration (symbol_declaration d) = IsNamedSymbol d
IsNamedDeclaration (alias_declaration d) = IsNamedAlias d
IsNamedDeclaration (axiom_declaration d) = IsNamedAxiom d
IsNamedDeclaration (claim_declaration d) = IsNamedAxiom d

pub record IsNamedModule (m : ModuleTree) : Type 0 where
  pub name : IsName m.name
  pub declarations : All IsNamedDeclaration m.declarations
  pub attributes : All IsNamedPattern m.attributes

-- each name in the definition is an identifier
pub record HasIdentifiers (d : DefinitionTree) : Type 0 where
  pub attributes : All IsNamedPattern d.attributes
  pub modules : All IsNamedModule d.modules

-- the names of a definition that bytes spell are identifiers
abbrev pub NamesAreIdentifiers : Type 0
NamesAreIdentifiers =
    (bytes : List ℕ) (d : DefinitionTree) (e : ℕ)
    → TakesTokens (spell_definition d []) (token_stream bytes) (end e) → HasIdentifiers d

-- the names of a pattern that bytes spell are identifiers
abbrev pub PatternNamesAreIdentifiers : Type 0
PatternNamesAreIdentifiers =
    (bytes : List ℕ) (p : PatternTree) (e : ℕ)
    → TakesTokens (spell_pattern false p []) (token_stream bytes) (end e) → IsNamedPattern p
