use Rattle.std.proofs.Common.{◌≡◌, ℕ, true, Bool, sym, ◌∙◌, ap, arith}
use Rattle.std.specs.Prelude.{nat_lt}
use Rattle.std.proofs.lemmas.Bool.{lt-ltb}
use Rattle.kore_ast.specs.Plain.{pattern_tree}
use Rattle.rule_core.specs.Evaluation.{most_height}
use Rattle.kore_sig.specs.FirstFault.{when}
use Rattle.kore_check.specs.Folds.{unfolded, unfolded_height, unfolded_byte}
use Rattle.kore_check.specs.Notes.{after}
use Rattle.kore_check.proofs.Places.{byte_of_next-unfolded}
use Rattle.kore_check.proofs.patterns.check_height.Goals as goal

pub returns-then-height_of-gt-MAX_HEIGHT : goal.returns-then-height_of-gt-MAX_HEIGHT
returns-then-height_of-gt-MAX_HEIGHT c =
    let high : nat_lt most_height (unfolded_height (unfolded (pattern_tree c.args.pat.now))) ≡ true =
    lt-ltb _ _ (omega (arith, c.if-height_of-gt-MAX_HEIGHT.true, c.height_of.ensures)) in
    c.note.ensures
    ∙ ap (λ (byte : ℕ). after c.args.first.now (when true 3 byte))
    (sym (byte_of_next-unfolded c.args.pat.now))
    ∙ ap (λ (b : Bool). after c.args.first.now
    (when b 3 (unfolded_byte (unfolded (pattern_tree c.args.pat.now))))) (sym high)
