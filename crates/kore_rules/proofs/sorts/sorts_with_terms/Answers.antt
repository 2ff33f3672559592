use Rattle.std.proofs.Common.{◌∙◌, ap, map, Bool}
use Rattle.std.specs.Prelude.{◌||◌}
use Rattle.std.specs.List.{list_any}
use Rattle.kore_rules.specs.AxiomsRead.{is_marked, tree_at}
use Rattle.kore_rules.specs.ScalarSorts.{entry_makes, states_upper}
use Rattle.kore_rules.proofs.MarkLaws.{none_marked}
use Rattle.kore_rules.proofs.sorts.sorts_with_terms.Goals as goal

pub returns : goal.returns
returns c = λ n.
    let sig = c.args.sig.now in
    c.mark_uppers.ensures n
    ∙ ap (λ (b : Bool). b || list_any (states_upper sig.sorts n) (map tree_at c.args.axioms.now))
    (none_marked (list_any (entry_makes n) sig.symbols) (is_marked c.in_ok-marks.marks.items n)
    (is_marked c.mark_results.new.marks.items n) (c.in_ok-marks.ensures.none n)
    (c.mark_results.ensures.marked n))
