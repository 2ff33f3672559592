use Rattle.std.proofs.Common.{ℕ, List, Option, ap, ◌∙◌}
use Rattle.kore_text.specs.Trees.{SortTree}
use Rattle.kore_ast.specs.Plain.{pattern_tree}
use Rattle.kore_check.specs.Folds.{unfolded}
use Rattle.kore_check.specs.Variables.{variable_of, plain_variable}
use Rattle.std.specs.Prelude.{option_map}
use Rattle.kore_axioms.specs.LeftNames.{only_variable}
use Rattle.kore_axioms.proofs.GivenNames.{by_sorts, by_patterns, of_two}
use Rattle.kore_axioms.proofs.left_names.given_name.Goals as goal

pub returns-then-sorts-ne1 : goal.returns-then-sorts-ne1
returns-then-sorts-ne1 c =
    by_sorts c.args.sorts.now c.args.args.now c.if-sorts-ne1.true

pub returns-then-args-ne2 : goal.returns-then-args-ne2
returns-then-args-ne2 c =
    by_patterns c.args.sorts.now c.args.args.now c.if-sorts-ne1.false c.if-args-ne2.true

pub returns : goal.returns
returns c =
    c.only_variable.ensures
    ∙ ap (λ (o : Option (List ℕ × SortTree)).
    only_variable o (option_map plain_variable c.variable_of-2.result)) c.variable_of.ensures
    ∙ ap (λ (o : Option (List ℕ × SortTree)).
    only_variable (variable_of (unfolded (pattern_tree c.index-args-0.result))) o)
    c.variable_of-2.ensures
    ∙ of_two c.args.sorts.now c.args.args.now c.index-args-0.result c.index-args-1.result
    c.if-sorts-ne1.false c.if-args-ne2.false c.index-args-0.is c.index-args-1.is
