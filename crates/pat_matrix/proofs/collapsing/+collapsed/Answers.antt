use Rattle.std.proofs.Common.{◌≡◌, ◌∙◌, ap, map, List}
use Rattle.term_core.specs.Patterns.{application, call}
use Rattle.term_core.specs.RulePatterns.{plain_pattern, sort_numbers}
use Rattle.term_core.specs.PatternLists.{plain_patterns}
use Rattle.term_core.specs.declared.ids.SortId.{SortId}
use Rattle.term_core.specs.declared.rule_patterns.RulePat.{RulePat}
use Rattle.term_core.proofs.PlainPatterns.{plain-Ctor, plain-Call}
use Rattle.pat_matrix.specs.Collapsed.{collapsed}
use Rattle.pat_matrix.proofs.Loops.{collapsed_list}
use Rattle.pat_matrix.proofs.collapsing.+collapsed.Goals as goal

pub collapsed-returns-in_ok-all_collapsed-in-Ctor :
    goal.collapsed-returns-in_ok-all_collapsed-in-Ctor
collapsed-returns-in_ok-all_collapsed-in-Ctor t c =
    let is : plain_pattern c.args.pat.now ≡ application c.in-Ctor.sym.0
    (plain_patterns c.in-Ctor.args.items) =
    ap plain_pattern c.in-Ctor.is ∙ plain-Ctor _ _ in
    let same : map plain_pattern c.in_ok-all_collapsed-in-Ctor.field-0.items
    ≡ map (λ (p : RulePat). collapsed (plain_pattern p)) c.in-Ctor.args.items =
    c.in_ok-all_collapsed-in-Ctor.ensures
    ∙ ap (map (λ (p : RulePat). collapsed (plain_pattern p))) c.deref.ensures.value in
    rw is
    (plain-Ctor _ _ ∙ ap (application c.in-Ctor.sym.0) (collapsed_list _ _ same))

pub collapsed-returns-in_ok-to_vec-in-Call : goal.collapsed-returns-in_ok-to_vec-in-Call
collapsed-returns-in_ok-to_vec-in-Call t c =
    let is : plain_pattern c.args.pat.now ≡ call c.in-Call.sym.0
    (sort_numbers c.in-Call.sorts.items) (plain_patterns c.in-Call.args.items) =
    ap plain_pattern c.in-Call.is ∙ plain-Call _ _ _ in
    let same : map plain_pattern c.in_ok-args-in-Call.args.items
    ≡ map (λ (p : RulePat). collapsed (plain_pattern p)) c.in-Call.args.items =
    c.in_ok-args-in-Call.ensures
    ∙ ap (map (λ (p : RulePat). collapsed (plain_pattern p))) c.deref-in-Call.ensures.value in
    let sorts : c.in_ok-to_vec-in-Call.field-0.items ≡ c.in-Call.sorts.items =
    c.in_ok-to_vec-in-Call.ensures.items_if_clones_equal (λ x y h. h)
    ∙ c.deref-in-Call-2.ensures.value in
    rw is
    (plain-Call _ _ _
    ∙ ap (λ (ss : List SortId). call c.in-Call.sym.0 (sort_numbers ss)
    (plain_patterns c.in_ok-args-in-Call.args.items)) sorts
    ∙ ap (call c.in-Call.sym.0 (sort_numbers c.in-Call.sorts.items)) (collapsed_list _ _ same))
