-- The Kore pattern of a pattern of a rule, with the names that its signature declares (Kore
-- language document, "Patterns"). It does not come from a text, so each place is 0.
use Rattle.std.specs.Prelude.{ℕ, List, [], ◌∷◌, Option, Some, None, option_map, slice_get}
use Rattle.std.specs.Prelude.{if◌then◌else◌}
use Rattle.term_core.specs.Terms.{DomainValue}
use Rattle.term_core.specs.ValueTexts.{value_text}
use Rattle.term_core.specs.Patterns.{Pattern, Patterns, variable, domain_value, application}
use Rattle.term_core.specs.Patterns.{injection, call, no_pattern, more_patterns}
use Rattle.rule_core.specs.declared.signature.Signature.{Signature}
use Rattle.rule_core.specs.declared.signature.SymInfo.{SymInfo}
use Rattle.rule_core.specs.KindTests.{is_injection}
use Rattle.kore_text.specs.Trees.{SortTree, sort_applied, no_sorts, sort_trees, PatternTree}
use Rattle.kore_text.specs.Trees.{PatternTrees, symbol_applied, no_patterns, pattern_then}
use Rattle.kore_text.specs.Trees as tree

-- the name with this number
abbrev pub declared_name : {V : Type 0} → List (List ℕ × V) → ℕ → Option (List ℕ)
declared_name {V} entries n = option_map (λ e. e.0) (slice_get entries n)

-- the name of the injection symbol, which is the first symbol of its kind
abbrev pub injection_name : List (List ℕ × SymInfo) → Option (List ℕ)
injection_name [] = None
injection_name (e ∷ es) = if is_injection e.1.kind then Some e.0 else injection_name es

-- a declared sort
abbrev pub kore_sort : Signature → ℕ → Option SortTree
kore_sort sig s =
    option_map (λ (name : List ℕ). sort_applied 0 name no_sorts) (declared_name sig.sorts s)

-- a sort and more sorts
abbrev pub with_sort : Option SortTree → Option (List SortTree) → Option (List SortTree)
with_sort None ss = None
with_sort (Some s) None = None
with_sort (Some s) (Some ss) = Some (s ∷ ss)

abbrev pub kore_sorts : Signature → List ℕ → Option (List SortTree)
kore_sorts sig [] = Some []
kore_sorts sig (s ∷ ss) = with_sort (kore_sort sig s) (kore_sorts sig ss)

-- a domain value of a sort
abbrev pub kore_value : Option SortTree → DomainValue → Option PatternTree
kore_value None v = None
kore_value (Some s) v = Some (tree.value_written 0 s (value_text v) 0)

-- a symbol of this name, at these sorts, applied to these arguments
abbrev pub applied_tree : Option (List ℕ) → Option (List SortTree) → Option PatternTrees
    → Option PatternTree
applied_tree None sorts args = None
applied_tree (Some name) None args = None
applied_tree (Some name) (Some sorts) None = None
applied_tree (Some name) (Some sorts) (Some args) =
    Some (symbol_applied 0 name (sort_trees sorts) args)

-- a pattern and more patterns
abbrev pub in_front : Option PatternTree → Option PatternTrees → Option PatternTrees
in_front None ps = None
in_front (Some p) None = None
in_front (Some p) (Some ps) = Some (pattern_then p ps)

-- The Kore pattern. There is none if the pattern has a variable, or a sort or symbol that is not
-- declared.
abbrev mutual
  pub kore_pattern : Signature → Pattern → Option PatternTree
  kore_pattern sig (variable x) = None
  kore_pattern sig (domain_value s v) = kore_value (kore_sort sig s) v
  kore_pattern sig (application f ps) =
      applied_tree (declared_name sig.symbols f) (Some []) (kore_patterns sig ps)
  kore_pattern sig (injection a b p) =
      applied_tree (injection_name sig.symbols) (kore_sorts sig (a ∷ (b ∷ [])))
      (in_front (kore_pattern sig p) (Some no_patterns))
  kore_pattern sig (call f sorts ps) =
      applied_tree (declared_name sig.symbols f) (kore_sorts sig sorts) (kore_patterns sig ps)

  pub kore_patterns : Signature → Patterns → Option PatternTrees
  kore_patterns sig no_pattern = Some no_patterns
  kore_patterns sig (more_patterns p ps) = in_front (kore_pattern sig p) (kore_patterns sig ps)
