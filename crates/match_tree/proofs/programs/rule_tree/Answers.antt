use Rattle.std.proofs.Common.{◌≡◌, ◌∙◌, ap, map, length, arith}
use Rattle.rule_core.specs.ProgramView.{rewrite_rule, rewrite_rules}
use Rattle.rule_core.specs.declared.rules.Rule.{Rule}
use Rattle.pat_matrix.specs.Rows.{collapsed_rows}
use Rattle.pat_matrix.specs.MatrixView.{lent_rows}
use Rattle.match_tree.specs.Programs.{rule_row}
use Rattle.match_tree.proofs.ProgramRows.{lower_is_declared, mapped_after, other_lists}
use Rattle.match_tree.proofs.ProgramRows.{rows_count}
use Rattle.match_tree.proofs.programs.rule_tree.Goals as goal

pub of-requires-clause-count : goal.of-requires-clause-count
of-requires-clause-count c =
    let same : collapsed_rows (lent_rows c.deref-2.result.now)
    ≡ map rule_row (rewrite_rules c.args.program.now.rules.items) =
    ap (λ rs. collapsed_rows (lent_rows rs)) c.deref-2.ensures.value ∙ c.in_ok-rows.ensures
    ∙ ap (map (λ (rule : Rule). rule_row (rewrite_rule rule))) c.deref.ensures.value
    ∙ mapped_after rule_row rewrite_rule c.args.program.now.rules.items in
    let count : length c.deref-2.result.now
    ≡ length (rewrite_rules c.args.program.now.rules.items) =
    rows_count rule_row (rewrite_rules c.args.program.now.rules.items) c.deref-2.result.now
    same in
    omega (arith, count, c.requires.rules)

pub of-requires-clause-sorts : goal.of-requires-clause-sorts
of-requires-clause-sorts c =
    λ a b below.
    let lt =
    lower_is_declared c.args.program.now.sig a b c.requires.sorted.signature.pairs below in
    omega (arith, lt, c.len-sorts.ensures)

pub returns : goal.returns
returns c =
    other_lists c.of.result c.args.program.now.sig.subsorts
    (collapsed_rows (lent_rows c.deref-2.result.now))
    (map rule_row (rewrite_rules c.args.program.now.rules.items))
    (ap (λ rs. collapsed_rows (lent_rows rs)) c.deref-2.ensures.value ∙ c.in_ok-rows.ensures
    ∙ ap (map (λ (rule : Rule). rule_row (rewrite_rule rule))) c.deref.ensures.value
    ∙ mapped_after rule_row rewrite_rule c.args.program.now.rules.items)
    c.of.ensures
