use Rattle.std.proofs.Common.{◌≡◌, ◌≤◌, ◌+◌, List, refl, sym, ◌∙◌, ap, subst, arith}
use Rattle.term_core.specs.Patterns.{application, injection, call}
use Rattle.term_core.specs.RulePatterns.{plain_pattern, sort_numbers}
use Rattle.term_core.specs.PatternLists.{plain_patterns}
use Rattle.term_core.specs.declared.rule_patterns.RulePat.{RulePat}
use Rattle.term_core.proofs.PatternLaws.{depth, depths, depth_of-item}
use Rattle.term_core.proofs.PlainPatterns.{plain-Call, plain-Ctor, plain-Inj, plain-Var}
use Rattle.rule_core.specs.Matching.{OccursIn}
use Rattle.guard_body.specs.Renaming.{number_in}
use Rattle.guard_body.proofs.RenamedLists.{item_occurs, renamed_next, renamed_whole}
use Rattle.guard_body.proofs.renaming.+renamed.Goals as goal

pub all_renamed-renamed-requires : goal.all_renamed-renamed-requires
all_renamed-renamed-requires t c =
    let high : depth (plain_pattern c.pat-item.result) ≤ depths (plain_patterns c.args.pats.now) =
    depth_of-item c.args.pats.now c.loop-pat.pat-index c.pat-item.result c.pat-item.is
    c.loop-pat-test.true in (
      omega (arith, high, c.decreases),
      λ x h. c.requires x (item_occurs c.args.pats.now c.loop-pat.pat-index x c.pat-item.result
          c.loop-pat-test.true c.pat-item.is h),
    )

pub all_renamed-loop-pat-preserved : goal.all_renamed-loop-pat-preserved
all_renamed-loop-pat-preserved t c =
    renamed_next (number_in c.args.numbers.now) c.args.pats.now c.loop-pat.made.items _
    c.loop-pat.pat-index c.pat-item.result _ c.loop-pat-test.true c.pat-item.is
    c.loop-pat.invariant c.in_ok-push.ensures.items c.in_ok-renamed.ensures

pub all_renamed-returns : goal.all_renamed-returns
all_renamed-returns t c =
    renamed_whole (number_in c.args.numbers.now) c.args.pats.now c.loop-pat.made.items
    c.loop-pat.pat-index (omega (arith, c.loop-pat-test.false)) c.loop-pat.invariant

pub renamed-bounds-numbers-x : goal.renamed-bounds-numbers-x
renamed-bounds-numbers-x t c =
    c.requires c.in-Var.x
    (subst (OccursIn c.in-Var.x) (sym (ap plain_pattern c.in-Var.is ∙ plain-Var c.in-Var.x)) refl)

pub renamed-all_renamed-requires : goal.renamed-all_renamed-requires
renamed-all_renamed-requires t c =
    let is : plain_pattern c.args.pat.now
    ≡ application c.in-Ctor.symbol.0 (plain_patterns c.deref.result.now) =
    ap plain_pattern c.in-Ctor.is ∙ plain-Ctor _ _
    ∙ ap (λ (ps : List RulePat). application c.in-Ctor.symbol.0 (plain_patterns ps))
    (sym c.deref.ensures.value) in
    let high : depth (plain_pattern c.args.pat.now) ≡ depths (plain_patterns c.deref.result.now) + 1 =
    ap depth is in (
      omega (arith, high, c.decreases),
      λ x h. c.requires x (subst (OccursIn x) (sym is) h),
    )

pub renamed-renamed-requires : goal.renamed-renamed-requires
renamed-renamed-requires t c =
    let is : plain_pattern c.args.pat.now ≡ injection c.in-Inj.from.0 c.in-Inj.to.0
    (plain_pattern c.deref-in-Inj.result.now) =
    ap plain_pattern c.in-Inj.is ∙ plain-Inj _ _ _
    ∙ ap (λ (p : RulePat). injection c.in-Inj.from.0 c.in-Inj.to.0 (plain_pattern p))
    (sym c.deref-in-Inj.ensures) in
    let high : depth (plain_pattern c.args.pat.now)
    ≡ depth (plain_pattern c.deref-in-Inj.result.now) + 1 =
    ap depth is in (
      omega (arith, high, c.decreases),
      λ x h. c.requires x (subst (OccursIn x) (sym is) h),
    )

pub renamed-all_renamed-requires-in-Call : goal.renamed-all_renamed-requires-in-Call
renamed-all_renamed-requires-in-Call t c =
    let is : plain_pattern c.args.pat.now
    ≡ call c.in-Call.symbol.0 (sort_numbers c.in-Call.sorts.items)
    (plain_patterns c.deref-in-Call.result.now) =
    ap plain_pattern c.in-Call.is ∙ plain-Call _ _ _
    ∙ ap (λ (ps : List RulePat).
    call c.in-Call.symbol.0 (sort_numbers c.in-Call.sorts.items) (plain_patterns ps))
    (sym c.deref-in-Call.ensures.value) in
    let high : depth (plain_pattern c.args.pat.now)
    ≡ depths (plain_patterns c.deref-in-Call.result.now) + 1 =
    ap depth is in (
      omega (arith, high, c.decreases),
      λ x h. c.requires x (subst (OccursIn x) (sym is) h),
    )
