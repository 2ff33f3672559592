-- What does not depend on the places of a tree.
use Rattle.std.proofs.Common.{◌≡◌, suc, Bool, true, false, ◌&&◌, refl, ap, sym, ◌∙◌}
use Rattle.kore_text.specs.Trees.{SortTrees, no_sorts, sort_then, sort_count, PatternTree}
use Rattle.kore_text.specs.Trees.{element_variable, set_variable, string, symbol_applied, connected}
use Rattle.kore_text.specs.Trees.{binder_applied, value_written, folded, PatternTrees, no_patterns}
use Rattle.kore_text.specs.Trees.{pattern_then, pattern_count}
use Rattle.kore_text.specs.Grammar.{is_variable_tree, is_foldable, is_associative, is_some}
use Rattle.kore_print.specs.Reading.{unplaced_sorts, unplaced, unplaced_patterns}

pub sorts-counted : (ss : SortTrees) → sort_count (unplaced_sorts ss) ≡ sort_count ss
sorts-counted no_sorts = refl
sorts-counted (sort_then s ss) = ap suc (sorts-counted ss)

pub patterns-counted : (ps : PatternTrees) → pattern_count (unplaced_patterns ps) ≡ pattern_count ps
patterns-counted no_patterns = refl
patterns-counted (pattern_then p ps) = ap suc (patterns-counted ps)

pub variable-kept : (b : Bool) (p : PatternTree) → is_variable_tree b (unplaced p)
    ≡ is_variable_tree b p
variable-kept true (element_variable at n s) = refl
variable-kept true (set_variable at n s) = refl
variable-kept true (string at t) = refl
variable-kept true (symbol_applied at n ss ps) = refl
variable-kept true (connected at o ss ps) = refl
variable-kept true (binder_applied at o ss x p) = refl
variable-kept true (value_written at s t place) = refl
variable-kept true (folded at left p) = refl
variable-kept false (element_variable at n s) = refl
variable-kept false (set_variable at n s) = refl
variable-kept false (string at t) = refl
variable-kept false (symbol_applied at n ss ps) = refl
variable-kept false (connected at o ss ps) = refl
variable-kept false (binder_applied at o ss x p) = refl
variable-kept false (value_written at s t place) = refl
variable-kept false (folded at left p) = refl

some-kept : (ps : PatternTrees) → is_some (unplaced_patterns ps) ≡ is_some ps
some-kept no_patterns = refl
some-kept (pattern_then p ps) = refl

pub foldable-kept : (p : PatternTree) → is_foldable (unplaced p) ≡ is_foldable p
foldable-kept (element_variable at n s) = refl
foldable-kept (set_variable at n s) = refl
foldable-kept (string at t) = refl
foldable-kept (symbol_applied at n ss ps) = some-kept ps
foldable-kept (connected at o ss ps) = ap (λ (b : Bool). is_associative o && b) (some-kept ps)
foldable-kept (binder_applied at o ss x p) = refl
foldable-kept (value_written at s t place) = refl
foldable-kept (folded at left p) = refl

-- Two trees that differ only in places have the same properties.

pub sort-counts : (a b : SortTrees) → unplaced_sorts a ≡ unplaced_sorts b
    → sort_count a ≡ sort_count b
sort-counts a b h = sym (sorts-counted a) ∙ ap sort_count h ∙ sorts-counted b

pub pattern-counts : (a b : PatternTrees) → unplaced_patterns a ≡ unplaced_patterns b
    → pattern_count a ≡ pattern_count b
pattern-counts a b h = sym (patterns-counted a) ∙ ap pattern_count h ∙ patterns-counted b

pub variables : (c : Bool) (p q : PatternTree) → unplaced p ≡ unplaced q
    → is_variable_tree c p ≡ is_variable_tree c q
variables c p q h = sym (variable-kept c p) ∙ ap (is_variable_tree c) h ∙ variable-kept c q

pub foldables : (p q : PatternTree) → unplaced p ≡ unplaced q → is_foldable p ≡ is_foldable q
foldables p q h = sym (foldable-kept p) ∙ ap is_foldable h ∙ foldable-kept q
