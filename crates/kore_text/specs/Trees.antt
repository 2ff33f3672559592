-- The trees of Kore text, without memory (Kore language document, syntax). In each constructor the
-- first number is the byte of the first token. In each record it is the field `at`. A name or a
-- text is the list of its bytes.
use Rattle.std.specs.Prelude.{ℕ, Bool, List, [], ◌∷◌, length}
use Rattle.kore_text.specs.declared.names.Op.{Op}
use Rattle.kore_text.specs.declared.names.Binder.{Binder}

mutual
  -- a sort: a parameter by its name, or a sort's name applied to sorts
  pub data SortTree : Type 0 where
    sort_parameter : ℕ → List ℕ → SortTree
    sort_applied : ℕ → List ℕ → SortTrees → SortTree

  pub data SortTrees : Type 0 where
    no_sorts : SortTrees
    sort_then : SortTree → SortTrees → SortTrees

mutual
  -- a pattern, in one of eight forms
  pub data PatternTree : Type 0 where
    -- a variable's name and sort
    element_variable : ℕ → List ℕ → SortTree → PatternTree
    set_variable : ℕ → List ℕ → SortTree → PatternTree
    -- a string; it occurs in attributes
    string : ℕ → List ℕ → PatternTree
    -- a symbol's name, its sort arguments and its arguments
    symbol_applied : ℕ → List ℕ → SortTrees → PatternTrees → PatternTree
    -- a connective, its sorts and its arguments
    connected : ℕ → Op → SortTrees → PatternTrees → PatternTree
    -- a binder, its sorts, its variable and its body
    binder_applied : ℕ → Binder → SortTrees → PatternTree → PatternTree → PatternTree
    -- a domain value's sort, its text and the byte of its string
    value_written : ℕ → SortTree → List ℕ → ℕ → PatternTree
    -- the fold of an application, from the left (true) or from the right (false)
    folded : ℕ → Bool → PatternTree → PatternTree

  pub data PatternTrees : Type 0 where
    no_patterns : PatternTrees
    pattern_then : PatternTree → PatternTrees → PatternTrees

-- a list as the children of a tree
abbrev pub sort_trees : List SortTree → SortTrees
sort_trees [] = no_sorts
sort_trees (s ∷ ss) = sort_then s (sort_trees ss)

abbrev pub pattern_trees : List PatternTree → PatternTrees
pattern_trees [] = no_patterns
pattern_trees (p ∷ ps) = pattern_then p (pattern_trees ps)

-- the children as a list
abbrev pub listed_sorts : SortTrees → List SortTree
listed_sorts no_sorts = []
listed_sorts (sort_then s ss) = s ∷ listed_sorts ss

abbrev pub listed_patterns : PatternTrees → List PatternTree
listed_patterns no_patterns = []
listed_patterns (pattern_then p ps) = p ∷ listed_patterns ps

abbrev pub sort_count : SortTrees → ℕ
sort_count ss = length (listed_sorts ss)

abbrev pub pattern_count : PatternTrees → ℕ
pattern_count ps = length (listed_patterns ps)

-- an import of a module by its name
pub record ImportDeclaration : Type 0 where
  pub at : ℕ
  pub name : List ℕ
  pub attributes : List PatternTree

-- the declaration of a sort; if `hooked` is true, its keyword is `hooked-sort`
pub record SortDeclaration : Type 0 where
  pub at : ℕ
  pub hooked : Bool
  pub name : List ℕ
  pub params : List (List ℕ)
  pub attributes : List PatternTree

-- the declaration of a symbol; if `hooked` is true, its keyword is `hooked-symbol`
pub record SymbolDeclaration : Type 0 where
  pub at : ℕ
  pub hooked : Bool
  pub name : List ℕ
  pub params : List (List ℕ)
  pub args : List SortTree
  pub result : SortTree
  pub attributes : List PatternTree

-- the declaration of an alias: the name and the sorts after `where`, the variables there, and the
-- body after `:=`
pub record AliasDeclaration : Type 0 where
  pub at : ℕ
  pub hooked : Bool
  pub name : List ℕ
  pub params : List (List ℕ)
  pub args : List SortTree
  pub result : SortTree
  pub left_name : List ℕ
  pub left_sorts : List SortTree
  pub vars : List PatternTree
  pub body : PatternTree
  pub attributes : List PatternTree

-- an axiom or a claim
pub record AxiomDeclaration : Type 0 where
  pub at : ℕ
  pub params : List (List ℕ)
  pub pattern : PatternTree
  pub attributes : List PatternTree

pub data Declaration : Type 0 where
  import_declaration : ImportDeclaration → Declaration
  sort_declaration : SortDeclaration → Declaration
  symbol_declaration : SymbolDeclaration → Declaration
  alias_declaration : AliasDeclaration → Declaration
  axiom_declaration : AxiomDeclaration → Declaration
  claim_declaration : AxiomDeclaration → Declaration

pub record ModuleTree : Type 0 where
  pub at : ℕ
  pub name : List ℕ
  pub declarations : List Declaration
  pub attributes : List PatternTree

-- a definition; its modules are in the order of the text
pub record DefinitionTree : Type 0 where
  pub attributes : List PatternTree
  pub modules : List ModuleTree
