use Rattle.std.proofs.Common.{◌≡◌, ◌≤◌, ◌∙◌, ◌+◌, ap, sym, arith}
use Rattle.term_core.specs.Forests.{children}
use Rattle.term_core.specs.Patterns.{application}
use Rattle.term_core.specs.RulePatterns.{plain_pattern}
use Rattle.term_core.specs.PatternLists.{plain_patterns}
use Rattle.term_core.proofs.PatternLaws.{depth, depths, depth_of-item}
use Rattle.term_core.proofs.PlainPatterns.{plain-Ctor}
use Rattle.match_tree.proofs.Walks.{agree_on, agree_off, takes_as_many}
use Rattle.match_tree.proofs.agreement.+agrees.Goals as goal

pub agrees-children_agree-requires : goal.agrees-children_agree-requires
agrees-children_agree-requires g t c κs within =
    let is : plain_pattern c.args.pat.now ≡ application c.in-Ctor.field-0.0
    (plain_patterns c.deref.result.now) =
    ap plain_pattern c.in-Ctor.is
    ∙ (plain-Ctor _ _
    ∙ ap (λ ps. application c.in-Ctor.field-0.0 (plain_patterns ps))
    (sym c.deref.ensures.value)) in
    let deep : depth (plain_pattern c.args.pat.now) ≡ depths (plain_patterns c.deref.result.now) +
    1 =
    ap depth is in (
      omega arith,
      (
        within,
        takes_as_many c.args.subsorts.now _ _ c.deref.result.now c.args.term.now is
            (sym c.takes_root-in-Ctor.ensures.takes ∙ c.if-takes_root.true),
      ),
    )

pub children_agree-agrees-requires : goal.children_agree-agrees-requires
children_agree-agrees-requires g t c κs within =
    let low : depth (plain_pattern c.index-pats-i.result) ≤ depths
    (plain_patterns c.args.pats.now) =
    depth_of-item _ _ _ c.index-pats-i.is c.loop-i-test.true in
    (omega arith, within)

pub children_agree-returns-then-not-agrees : goal.children_agree-returns-then-not-agrees
children_agree-returns-then-not-agrees g t c =
    agree_off c.args.subsorts.now c.args.pats.now (children c.args.term.now) c.loop-i.i
    c.index-pats-i.result c.child.result.now _ _ c.index-pats-i.is c.loop-i-test.true
    c.child.ensures c.agrees.ensures c.if-not-agrees.true c.loop-i.invariant

pub children_agree-loop-i-preserved : goal.children_agree-loop-i-preserved
children_agree-loop-i-preserved g t c =
    agree_on c.args.subsorts.now c.args.pats.now (children c.args.term.now) c.loop-i.i
    c.index-pats-i.result c.child.result.now _ _ c.index-pats-i.is c.loop-i-test.true
    c.child.ensures c.agrees.ensures c.if-not-agrees.false c.loop-i.invariant
