use Rattle.std.proofs.Common.{◌≡◌, ◌+◌, ◌*◌, map, take, Some}
use Rattle.kore_text.specs.Trees.{PatternTree}
use Rattle.term_core.specs.RulePatterns.{plain_pattern}
use Rattle.term_core.specs.declared.rule_patterns.RulePat.{RulePat}
use Rattle.kore_ast.specs.Plain.{pattern_tree as kore_tree}
use Rattle.term_core.specs.PatternLists.{plain_patterns}
use Rattle.term_core.proofs.PatternLaws.{depth, depths}
use Rattle.kore_show.specs.KorePatterns.{kore_pattern}
use Rattle.kore_show.proofs.patterns.+shown.Given as goal

abbrev pub invariant-all_shown-loop-pat : goal.invariant-all_shown-loop-pat
invariant-all_shown-loop-pat l =
    map (λ (p : RulePat). kore_pattern l.sig (plain_pattern p)) (take l.pat-index l.pats)
    ≡ map (λ (t : PatternTree). Some t) (map kore_tree l.all.items)

abbrev pub decreases-shown_at : goal.decreases-shown_at
decreases-shown_at l = 2 * depth (plain_pattern l.pat.now)

abbrev pub decreases-all_shown : goal.decreases-all_shown
decreases-all_shown l = 2 * depths (plain_patterns l.pats.now) + 1
