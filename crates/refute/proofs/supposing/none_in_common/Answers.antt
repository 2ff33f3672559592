use Rattle.term_core.specs.RulePatterns.{plain_pattern, sort_numbers}
use Rattle.refute.proofs.Growing.{setting_grown, covered_grown}
use Rattle.refute.proofs.Pairs.{pair_covered}
use Rattle.refute.proofs.supposing.none_in_common.Goals as goal

pub as_disjoint-requires-clause-setting : goal.as_disjoint-requires-clause-setting
as_disjoint-requires-clause-setting c =
    setting_grown c.args.cx.now c.refuted.new.cx c.args.setting.now c.in_ok-difference.ensures.grown
    c.requires.setting

pub as_disjoint-requires-clause-covered : goal.as_disjoint-requires-clause-covered
as_disjoint-requires-clause-covered c =
    covered_grown c.args.cx.now c.refuted.new.cx (sort_numbers c.args.setting.now.sorts.now)
    c.args.setting.now.given (plain_pattern c.args.pat.now) (plain_pattern c.args.whole.now)
    c.in_ok-difference.ensures.grown
    (pair_covered c.args.cx.now.program.sig (sort_numbers c.args.setting.now.sorts.now)
    c.args.setting.now.given (plain_pattern c.args.pat.now) (plain_pattern c.args.whole.now)
    c.args.term.now c.requires.whole c.requires.pair)
