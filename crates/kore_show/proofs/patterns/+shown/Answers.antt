use Rattle.std.proofs.Common.{◌≤◌, length, sym, ◌∙◌, ap, map, arith}
use Rattle.std.proofs.lemmas.List.{take_all}
use Rattle.term_core.specs.RulePatterns.{plain_pattern}
use Rattle.term_core.specs.PatternLists.{plain_patterns}
use Rattle.term_core.specs.declared.rule_patterns.RulePat.{RulePat}
use Rattle.term_core.proofs.PatternLaws.{depth, depths, depth_of-item}
use Rattle.kore_ast.specs.Plain.{pattern_tree as kore_tree}
use Rattle.kore_show.specs.KorePatterns.{kore_pattern}
use Rattle.kore_show.proofs.ShownParts.{item-shown, each-shown}
use Rattle.kore_show.proofs.patterns.+shown.Goals as goal

pub all_shown-shown_at-requires : goal.all_shown-shown_at-requires
all_shown-shown_at-requires t c =
    let low : depth (plain_pattern c.pat-item.result) ≤ depths (plain_patterns c.args.pats.now) =
    depth_of-item _ _ _ c.pat-item.is c.loop-pat-test.true in (
      omega arith,
      (
        item-shown c.args.sig.now c.args.pats.now c.loop-pat.pat-index _ c.pat-item.is
            c.loop-pat-test.true c.requires.shown,
        (c.requires.found, c.requires.none),
      ),
    )

pub all_shown-returns : goal.all_shown-returns
all_shown-returns t c =
    let enough : length c.args.pats.now ≤ c.loop-pat.pat-index = omega arith in
    each-shown c.args.sig.now c.args.pats.now (map kore_tree c.loop-pat.all.items)
    (ap (map (λ (p : RulePat). kore_pattern c.args.sig.now (plain_pattern p)))
    (sym (take_all _ _ enough)) ∙ c.loop-pat.invariant)
