-- The trees that the lines of a drill spell, by the places of their tokens: the place of the token
-- with this number in its line.
use Rattle.std.proofs.Common.{◌+◌, ℕ, true, false, List, [], ◌∷◌, codes}
use Rattle.std.specs.Fmt.{decimal}
use Rattle.kore_text.specs.declared.names.Op.TheVariants as op
use Rattle.kore_text.specs.Trees.{SortTree, sort_applied, no_sorts, sort_then, PatternTree}
use Rattle.kore_text.specs.Trees.{element_variable, string, symbol_applied, connected}
use Rattle.kore_text.specs.Trees.{value_written, no_patterns, pattern_then, SortDeclaration}
use Rattle.kore_text.specs.Trees.{SymbolDeclaration, AxiomDeclaration}
use Rattle.drill_accepted.proofs.Parts.{numbered_name}

-- the places of the tokens of a line
abbrev pub Places : Type 0
Places = ℕ → ℕ

-- ---- sorts

abbrev pub sort_at : ℕ → List ℕ → SortTree
sort_at at name = sort_applied at name no_sorts

abbrev pub int_at : ℕ → SortTree
int_at at = sort_at at (codes "SortInt")

abbrev pub bool_at : ℕ → SortTree
bool_at at = sort_at at (codes "SortBool")

abbrev pub cell_sort_at : ℕ → SortTree
cell_sort_at at = sort_at at (codes "SortC")

abbrev pub state_at : ℕ → SortTree
state_at at = sort_at at (codes "SortS")

-- ---- attributes

abbrev pub attribute_at : ℕ → List ℕ → PatternTree
attribute_at at name = symbol_applied at name no_sorts no_patterns

abbrev pub hook_at : ℕ → ℕ → List ℕ → PatternTree
hook_at at place name = symbol_applied at (codes "hook") no_sorts
    (pattern_then (string place name) no_patterns)

-- ---- declarations

abbrev pub int_sort : Places → SortDeclaration
int_sort q = record {
  at = q 0;
  hooked = true;
  name = codes "SortInt";
  params = [];
  attributes = hook_at (q 5) (q 9) (codes "INT.Int") ∷ [];
}

abbrev pub bool_sort : Places → SortDeclaration
bool_sort q = record {
  at = q 0;
  hooked = true;
  name = codes "SortBool";
  params = [];
  attributes = hook_at (q 5) (q 9) (codes "BOOL.Bool") ∷ [];
}

abbrev pub plain_sort : List ℕ → Places → SortDeclaration
plain_sort name q = record { at = q 0; hooked = false; name = name; params = []; attributes = [] }

abbrev pub add_symbol : Places → SymbolDeclaration
add_symbol q = record {
  at = q 0;
  hooked = true;
  name = codes "add";
  params = [];
  args = int_at (q 5) ∷ (int_at (q 9) ∷ []);
  result = int_at (q 14);
  attributes = attribute_at (q 18) (codes "function") ∷
      (hook_at (q 24) (q 28) (codes "INT.add") ∷ []);
}

abbrev pub ge_symbol : Places → SymbolDeclaration
ge_symbol q = record {
  at = q 0;
  hooked = true;
  name = codes "ge";
  params = [];
  args = int_at (q 5) ∷ (int_at (q 9) ∷ []);
  result = bool_at (q 14);
  attributes = attribute_at (q 18) (codes "function") ∷
      (hook_at (q 24) (q 28) (codes "INT.ge") ∷ []);
}

abbrev pub state_symbol : Places → SymbolDeclaration
state_symbol q = record {
  at = q 0;
  hooked = false;
  name = codes "st";
  params = [];
  args = cell_sort_at (q 5) ∷ (int_at (q 9) ∷ []);
  result = state_at (q 14);
  attributes = attribute_at (q 18) (codes "constructor") ∷ [];
}

-- the symbol of a step
abbrev pub step_symbol : ℕ → Places → SymbolDeclaration
step_symbol i q = record {
  at = q 0;
  hooked = false;
  name = numbered_name i;
  params = [];
  args = [];
  result = cell_sort_at (q 7);
  attributes = attribute_at (q 11) (codes "constructor") ∷ [];
}

-- ---- the rule of a step

-- a symbol applied to two patterns
abbrev pub applied_to : ℕ → List ℕ → PatternTree → PatternTree → PatternTree
applied_to at name a b = symbol_applied at name no_sorts
    (pattern_then a (pattern_then b no_patterns))

abbrev pub step_at : ℕ → ℕ → PatternTree
step_at i at = symbol_applied at (numbered_name i) no_sorts no_patterns

abbrev pub sum_at : ℕ → ℕ → PatternTree
sum_at at place = element_variable at (codes "X") (int_at place)

-- `st{}(cI{}(),X:SortInt{})`
abbrev pub left_tree : ℕ → Places → PatternTree
left_tree i q = applied_to (q 17) (codes "st") (step_at i (q 21)) (sum_at (q 27) (q 29))

-- `ge{}(X:SortInt{},\dv{SortInt{}}("0"))`
abbrev pub tested_tree : Places → PatternTree
tested_tree q =
    applied_to (q 45) (codes "ge") (sum_at (q 49) (q 51))
    (value_written (q 55) (int_at (q 57)) (codes "0") (q 62))

-- the condition that this is true
abbrev pub condition_tree : Places → PatternTree
condition_tree q =
    connected (q 34) op.Equals (sort_then (bool_at (q 36)) (sort_then (state_at (q 40)) no_sorts))
    (pattern_then (tested_tree q)
    (pattern_then (value_written (q 66) (bool_at (q 68)) (codes "true") (q 73)) no_patterns))

-- `st{}(cJ{}(),add{}(X:SortInt{},\dv{SortInt{}}("I")))`, where J is the step after I
abbrev pub right_tree : ℕ → Places → PatternTree
right_tree i q =
    applied_to (q 85) (codes "st") (step_at (i + 1) (q 89))
    (applied_to (q 95) (codes "add") (sum_at (q 99) (q 101))
    (value_written (q 105) (int_at (q 107)) (decimal i) (q 112)))

abbrev pub top_tree : Places → PatternTree
top_tree q = connected (q 117) op.Top (sort_then (state_at (q 119)) no_sorts) no_patterns

-- `\and{SortS{}}(a,b)`
abbrev pub both_at : ℕ → ℕ → PatternTree → PatternTree → PatternTree
both_at at place a b =
    connected at op.And (sort_then (state_at place) no_sorts)
    (pattern_then a (pattern_then b no_patterns))

abbrev pub before_tree : ℕ → Places → PatternTree
before_tree i q = both_at (q 10) (q 12) (left_tree i q) (condition_tree q)

abbrev pub after_tree : ℕ → Places → PatternTree
after_tree i q = both_at (q 78) (q 80) (right_tree i q) (top_tree q)

abbrev pub rule_axiom : ℕ → Places → AxiomDeclaration
rule_axiom i q = record {
  at = q 0;
  params = [];
  pattern = connected (q 3) op.Rewrites (sort_then (state_at (q 5)) no_sorts)
      (pattern_then (before_tree i q) (pattern_then (after_tree i q) no_patterns));
  attributes = [];
}

-- ---- the term

abbrev pub term_tree : Places → PatternTree
term_tree q =
    applied_to (q 0) (codes "st") (symbol_applied (q 4) (codes "c0") no_sorts no_patterns)
    (value_written (q 10) (int_at (q 12)) (codes "0") (q 17))
