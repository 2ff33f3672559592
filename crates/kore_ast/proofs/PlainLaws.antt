-- The tree of a value that was built, form by form.
use Rattle.std.proofs.Common.{◌≡◌, ℕ, Bool, List, map, ap, sym, ◌∙◌, Vec, Global}
use Rattle.std.specs.Global.{Box}
use Rattle.kore_text.specs.declared.names.Op.{Op}
use Rattle.kore_text.specs.declared.names.Binder.{Binder}
use Rattle.kore_ast.specs.declared.tree.Sort.{Sort}
use Rattle.kore_ast.specs.declared.tree.SortForm.TheViews as sort_view
use Rattle.kore_ast.specs.declared.tree.SortForm.TheVariants as sort_rolls
use Rattle.kore_ast.specs.declared.tree.SortForm.TheOpen as sort_layer
use Rattle.kore_ast.specs.declared.tree.SortForm.TheFolds.{fold-SortForm, fold-roll-Sort}
use Rattle.kore_ast.specs.declared.tree.SortForm.TheFolds.{fold-roll-SortForm}
use Rattle.kore_ast.specs.declared.tree.Pat.{Pat}
use Rattle.kore_ast.specs.declared.tree.PatForm.TheViews as pattern_view
use Rattle.kore_ast.specs.declared.tree.PatForm.TheVariants as pattern_rolls
use Rattle.kore_ast.specs.declared.tree.PatForm.TheOpen as pattern_layer
use Rattle.kore_ast.specs.declared.tree.PatForm.TheFolds.{fold-PatForm, fold-roll-Pat}
use Rattle.kore_ast.specs.declared.tree.PatForm.TheFolds.{fold-roll-PatForm}
use Rattle.kore_text.specs.Trees.{SortTree, sort_parameter, sort_applied, sort_trees, PatternTree}
use Rattle.kore_text.specs.Trees.{element_variable, set_variable, string, symbol_applied, connected}
use Rattle.kore_text.specs.Trees.{binder_applied, value_written, folded, pattern_trees}
use Rattle.kore_ast.specs.Plain.{plain_sort, sort_form_step, sort_step, pattern_tree}
use Rattle.kore_ast.specs.Plain.{pattern_form_step, pattern_step}

pub plain-sort-Param : (at : ℕ) (n : List ℕ)
    → plain_sort (sort_view.roll-Sort (record { at = at; form = sort_rolls.Param n }))
    ≡ sort_parameter at n
plain-sort-Param at n =
    fold-roll-Sort (ℕ → SortTree) SortTree sort_form_step sort_step
    (record { at = at; form = sort_rolls.Param n })
    ∙ ap (λ (g : ℕ → SortTree). g at)
    (ap (fold-SortForm (ℕ → SortTree) SortTree sort_form_step sort_step)
    (sym (sort_rolls.rolls-Param n))
    ∙ fold-roll-SortForm (ℕ → SortTree) SortTree sort_form_step sort_step (sort_layer.Param n))

pub plain-sort-App : (at : ℕ) (n : List ℕ) (v : Vec Sort Global)
    → plain_sort (sort_view.roll-Sort (record { at = at; form = sort_view.App n v }))
    ≡ sort_applied at n (sort_trees (map plain_sort v.items))
plain-sort-App at n v =
    fold-roll-Sort (ℕ → SortTree) SortTree sort_form_step sort_step
    (record { at = at; form = sort_view.App n v })
    ∙ ap (λ (g : ℕ → SortTree). g at)
    (ap (fold-SortForm (ℕ → SortTree) SortTree sort_form_step sort_step)
    (sym (sort_rolls.rolls-App n v))
    ∙ fold-roll-SortForm (ℕ → SortTree) SortTree sort_form_step sort_step (sort_layer.App n v))

pub plain-pattern-Elem : (at : ℕ) (n : List ℕ) (s : Sort)
    → pattern_tree (pattern_view.roll-Pat (record { at = at; form = pattern_rolls.Elem n s }))
    ≡ element_variable at n (plain_sort s)
plain-pattern-Elem at n s =
    fold-roll-Pat (ℕ → PatternTree) PatternTree pattern_form_step pattern_step
    (record { at = at; form = pattern_rolls.Elem n s })
    ∙ ap (λ (g : ℕ → PatternTree). g at)
    (ap (fold-PatForm (ℕ → PatternTree) PatternTree pattern_form_step pattern_step)
    (sym (pattern_rolls.rolls-Elem n s))
    ∙ fold-roll-PatForm (ℕ → PatternTree) PatternTree pattern_form_step pattern_step
    (pattern_layer.Elem n s))

pub plain-pattern-SetVar : (at : ℕ) (n : List ℕ) (s : Sort)
    → pattern_tree (pattern_view.roll-Pat (record { at = at; form = pattern_rolls.SetVar n s }))
    ≡ set_variable at n (plain_sort s)
plain-pattern-SetVar at n s =
    fold-roll-Pat (ℕ → PatternTree) PatternTree pattern_form_step pattern_step
    (record { at = at; form = pattern_rolls.SetVar n s })
    ∙ ap (λ (g : ℕ → PatternTree). g at)
    (ap (fold-PatForm (ℕ → PatternTree) PatternTree pattern_form_step pattern_step)
    (sym (pattern_rolls.rolls-SetVar n s))
    ∙ fold-roll-PatForm (ℕ → PatternTree) PatternTree pattern_form_step pattern_step
    (pattern_layer.SetVar n s))

pub plain-pattern-Text : (at : ℕ) (n : List ℕ)
    → pattern_tree (pattern_view.roll-Pat (record { at = at; form = pattern_rolls.Text n }))
    ≡ string at n
plain-pattern-Text at n =
    fold-roll-Pat (ℕ → PatternTree) PatternTree pattern_form_step pattern_step
    (record { at = at; form = pattern_rolls.Text n })
    ∙ ap (λ (g : ℕ → PatternTree). g at)
    (ap (fold-PatForm (ℕ → PatternTree) PatternTree pattern_form_step pattern_step)
    (sym (pattern_rolls.rolls-Text n))
    ∙ fold-roll-PatForm (ℕ → PatternTree) PatternTree pattern_form_step pattern_step
    (pattern_layer.Text n))

pub plain-pattern-App : (at : ℕ) (n : List ℕ) (ss : Vec Sort Global) (ps : Vec Pat Global)
    → pattern_tree (pattern_view.roll-Pat (record { at = at; form = pattern_view.App n ss ps }))
    ≡ symbol_applied at n (sort_trees (map plain_sort ss.items))
    (pattern_trees (map pattern_tree ps.items))
plain-pattern-App at n ss ps =
    fold-roll-Pat (ℕ → PatternTree) PatternTree pattern_form_step pattern_step
    (record { at = at; form = pattern_view.App n ss ps })
    ∙ ap (λ (g : ℕ → PatternTree). g at)
    (ap (fold-PatForm (ℕ → PatternTree) PatternTree pattern_form_step pattern_step)
    (sym (pattern_rolls.rolls-App n ss ps))
    ∙ fold-roll-PatForm (ℕ → PatternTree) PatternTree pattern_form_step pattern_step
    (pattern_layer.App n ss ps))

pub plain-pattern-Built : (at : ℕ) (o : Op) (ss : Vec Sort Global) (ps : Vec Pat Global)
    → pattern_tree (pattern_view.roll-Pat (record { at = at; form = pattern_view.Built o ss ps }))
    ≡ connected at o (sort_trees (map plain_sort ss.items))
    (pattern_trees (map pattern_tree ps.items))
plain-pattern-Built at o ss ps =
    fold-roll-Pat (ℕ → PatternTree) PatternTree pattern_form_step pattern_step
    (record { at = at; form = pattern_view.Built o ss ps })
    ∙ ap (λ (g : ℕ → PatternTree). g at)
    (ap (fold-PatForm (ℕ → PatternTree) PatternTree pattern_form_step pattern_step)
    (sym (pattern_rolls.rolls-Built o ss ps))
    ∙ fold-roll-PatForm (ℕ → PatternTree) PatternTree pattern_form_step pattern_step
    (pattern_layer.Built o ss ps))

pub plain-pattern-Bound : (at : ℕ) (o : Binder) (ss : Vec Sort Global) (x p : Box Pat)
    → pattern_tree (pattern_view.roll-Pat (record { at = at; form = pattern_view.Bound o ss x p }))
    ≡ binder_applied at o (sort_trees (map plain_sort ss.items)) (pattern_tree x.value)
    (pattern_tree p.value)
plain-pattern-Bound at o ss x p =
    fold-roll-Pat (ℕ → PatternTree) PatternTree pattern_form_step pattern_step
    (record { at = at; form = pattern_view.Bound o ss x p })
    ∙ ap (λ (g : ℕ → PatternTree). g at)
    (ap (fold-PatForm (ℕ → PatternTree) PatternTree pattern_form_step pattern_step)
    (sym (pattern_rolls.rolls-Bound o ss x p))
    ∙ fold-roll-PatForm (ℕ → PatternTree) PatternTree pattern_form_step pattern_step
    (pattern_layer.Bound o ss x p))

pub plain-pattern-Value : (at : ℕ) (s : Sort) (n : List ℕ) (q : ℕ)
    → pattern_tree (pattern_view.roll-Pat (record { at = at; form = pattern_rolls.Value s n q }))
    ≡ value_written at (plain_sort s) n q
plain-pattern-Value at s n q =
    fold-roll-Pat (ℕ → PatternTree) PatternTree pattern_form_step pattern_step
    (record { at = at; form = pattern_rolls.Value s n q })
    ∙ ap (λ (g : ℕ → PatternTree). g at)
    (ap (fold-PatForm (ℕ → PatternTree) PatternTree pattern_form_step pattern_step)
    (sym (pattern_rolls.rolls-Value s n q))
    ∙ fold-roll-PatForm (ℕ → PatternTree) PatternTree pattern_form_step pattern_step
    (pattern_layer.Value s n q))

pub plain-pattern-Fold : (at : ℕ) (b : Bool) (p : Box Pat)
    → pattern_tree (pattern_view.roll-Pat (record { at = at; form = pattern_view.Fold b p }))
    ≡ folded at b (pattern_tree p.value)
plain-pattern-Fold at b p =
    fold-roll-Pat (ℕ → PatternTree) PatternTree pattern_form_step pattern_step
    (record { at = at; form = pattern_view.Fold b p })
    ∙ ap (λ (g : ℕ → PatternTree). g at)
    (ap (fold-PatForm (ℕ → PatternTree) PatternTree pattern_form_step pattern_step)
    (sym (pattern_rolls.rolls-Fold b p))
    ∙ fold-roll-PatForm (ℕ → PatternTree) PatternTree pattern_form_step pattern_step
    (pattern_layer.Fold b p))
