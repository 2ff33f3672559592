-- The byte of a pattern is that of its first token.
use Rattle.std.proofs.Common.{◌≡◌, ℕ, refl, ap, ◌∙◌}
use Rattle.kore_text.specs.Trees.{PatternTree, element_variable, set_variable, string}
use Rattle.kore_text.specs.Trees.{symbol_applied, connected, binder_applied, value_written, folded}
use Rattle.kore_ast.specs.declared.tree.Pat.{Pat, fold-Pat}
use Rattle.kore_ast.specs.declared.tree.PatForm.{PatForm, map-PatForm, out-PatForm}
use Rattle.kore_ast.specs.declared.tree.PatForm.TheOpen.{PatForm-F}
use Rattle.kore_ast.specs.declared.tree.PatForm.TheOpen as layer
use Rattle.kore_ast.specs.declared.tree.PatForm.TheFolds.{fold-PatForm, fold_out-Pat}
use Rattle.kore_ast.specs.declared.tree.PatForm.TheFolds.{fold_out-PatForm}
use Rattle.kore_ast.specs.Plain.{pattern_tree, pattern_form_step, pattern_step}
use Rattle.kore_check.specs.Folds.{Unfolded, named_variable, written_value, applied_symbol}
use Rattle.kore_text.specs.Trees.{listed_sorts}
use Rattle.kore_check.specs.Folds.{both_of, other_form, unfolded_byte, standing_at, inner_fold}
use Rattle.kore_check.specs.Folds.{unfolded, all_unfolded}
use Rattle.kore_check.proofs.Connectives.{byte_of_connective}

-- the byte of the first token
abbrev pub first_byte : PatternTree → ℕ
first_byte (element_variable at name s) = at
first_byte (set_variable at name s) = at
first_byte (string at text) = at
first_byte (symbol_applied at name ss ps) = at
first_byte (connected at op ss ps) = at
first_byte (binder_applied at binder ss x p) = at
first_byte (value_written at s text byte) = at
first_byte (folded at left p) = at

of_layer : (l : PatForm-F (ℕ → PatternTree) PatternTree) (at : ℕ)
    → first_byte (pattern_form_step l at) ≡ at
of_layer (layer.Elem n s) at = refl
of_layer (layer.SetVar n s) at = refl
of_layer (layer.Text t) at = refl
of_layer (layer.App n ss ps) at = refl
of_layer (layer.Built op ss ps) at = refl
of_layer (layer.Bound b ss x p) at = refl
of_layer (layer.Value s t unfolded_byte) at = refl
of_layer (layer.Fold left p) at = refl

of_form : (f : PatForm) (at : ℕ)
    → first_byte (fold-PatForm (ℕ → PatternTree) PatternTree pattern_form_step pattern_step f at)
    ≡ at
of_form f at =
    ap (λ (g : ℕ → PatternTree). first_byte (g at))
    (fold_out-PatForm (ℕ → PatternTree) PatternTree pattern_form_step pattern_step f)
    ∙ of_layer (map-PatForm PatForm Pat (ℕ → PatternTree) PatternTree
    (fold-PatForm (ℕ → PatternTree) PatternTree pattern_form_step pattern_step)
    (fold-Pat (ℕ → PatternTree) PatternTree pattern_form_step pattern_step) (out-PatForm f))
    at

pub first_byte-plain : (p : Pat) → first_byte (pattern_tree p) ≡ p.at
first_byte-plain p =
    ap first_byte (fold_out-Pat (ℕ → PatternTree) PatternTree pattern_form_step pattern_step p)
    ∙ of_form p.form p.at

byte_of_next-standing_at : (at : ℕ) (u : Unfolded) → unfolded_byte (standing_at at u) ≡ at
byte_of_next-standing_at at (named_variable there name s) = refl
byte_of_next-standing_at at (written_value there s text byte) = refl
byte_of_next-standing_at at (applied_symbol there byte name ss ps) = refl
byte_of_next-standing_at at (both_of there s p q) = refl
byte_of_next-standing_at at (other_form there) = refl

byte_of_next-first_byte : (t : PatternTree) → unfolded_byte (unfolded t) ≡ first_byte t
byte_of_next-first_byte (element_variable at name s) = refl
byte_of_next-first_byte (set_variable at name s) = refl
byte_of_next-first_byte (string at text) = refl
byte_of_next-first_byte (symbol_applied at name ss ps) = refl
byte_of_next-first_byte (connected at op ss ps) =
    byte_of_connective at op (listed_sorts ss) (all_unfolded ps)
byte_of_next-first_byte (binder_applied at binder ss x p) = refl
byte_of_next-first_byte (value_written at s text byte) = refl
byte_of_next-first_byte (folded at left p) = byte_of_next-standing_at at (inner_fold left p)

pub byte_of_next-unfolded : (p : Pat) → unfolded_byte (unfolded (pattern_tree p)) ≡ p.at
byte_of_next-unfolded p = byte_of_next-first_byte (pattern_tree p) ∙ first_byte-plain p
