use Rattle.std.proofs.Common.{◌≡◌, ◌∙◌, ap, sym, subst, List, ℕ, []}
use Rattle.kore_ast.specs.Plain.{pattern_tree as plain_tree}
use Rattle.term_core.specs.RulePatterns.{plain_pattern}
use Rattle.rule_core.specs.Sorting.{HasSort}
use Rattle.kore_check.specs.Folds.{unfolded}
use Rattle.kore_check.specs.PatternFaults.{all_faults}
use Rattle.kore_check.specs.PatternMeanings.{with_variables, Means}
use Rattle.kore_check.specs.SortedMeanings.{variable_sorts}
use Rattle.kore_rules.proofs.GroundLaws.{ground_form, ground_variables}
use Rattle.kore_rules.proofs.start.ground_pattern.Goals as goal

pub check_pattern-requires-clause-form : goal.check_pattern-requires-clause-form
check_pattern-requires-clause-form c = ground_form (plain_tree c.args.term.now) c.requires.ground

pub returns-in-Ok-clause-means : goal.returns-in-Ok-clause-means
returns-in-Ok-clause-means c =
    let sig = c.args.sig.now in
    let u = unfolded (plain_tree c.args.term.now) in
    let none : c.check_pattern.new.vars ≡ [] =
    c.in-Ok.ensures.vars
    ∙ ap (λ (vs : List (List ℕ × ℕ)). with_variables sig vs u) c.new-vars.ensures
    ∙ ground_variables (plain_tree c.args.term.now) c.requires.ground sig [] in
    subst (λ (vs : List (List ℕ × ℕ)). Means sig vs u (plain_pattern c.in-Ok.made.0)) none
    c.in-Ok.ensures.means

pub returns-in-Ok-clause-sorted : goal.returns-in-Ok-clause-sorted
returns-in-Ok-clause-sorted c =
    let sig = c.args.sig.now in
    let u = unfolded (plain_tree c.args.term.now) in
    let none : c.check_pattern.new.vars ≡ [] =
    c.in-Ok.ensures.vars
    ∙ ap (λ (vs : List (List ℕ × ℕ)). with_variables sig vs u) c.new-vars.ensures
    ∙ ground_variables (plain_tree c.args.term.now) c.requires.ground sig [] in
    subst (λ (vs : List (List ℕ × ℕ)).
    HasSort sig (variable_sorts vs) (plain_pattern c.in-Ok.made.0) c.in-Ok.made.1.0) none
    c.in-Ok.ensures.sorted

pub returns-clause-refused : goal.returns-clause-refused
returns-clause-refused c =
    c.refusal_of.ensures (all_faults c.args.sig.now (unfolded (plain_tree c.args.term.now)))
    c.in-Err.ensures.refused
