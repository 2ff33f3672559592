use Rattle.std.proofs.Common.{◌≡◌, ◌≤◌, [], length, sym, ◌∙◌, ap, inl, inr, refl, false, eq-eqb}
use Rattle.std.proofs.Common.{arith}
use Rattle.std.proofs.lemmas.Bool.{false≢true}
use Rattle.term_core.specs.Forests.{children}
use Rattle.term_core.proofs.Forests.{sizes-drop}
use Rattle.term_core.specs.Patterns.{application}
use Rattle.term_core.specs.RulePatterns.{plain_pattern}
use Rattle.term_core.specs.PatternLists.{plain_patterns}
use Rattle.term_core.proofs.PatternLaws.{depth, depths, depth_of-item, rest_more, refused}
use Rattle.term_core.proofs.PatternLaws.{other_constructor}
use Rattle.term_core.proofs.PlainPatterns.{plain-Ctor}
use Rattle.term_core.proofs.instances.+is_instance.Goals as goal
use Rattle.term_core.proofs.instances.+is_instance.Goals.{is_instance-then-eq-2}
use Rattle.term_core.proofs.instances.+is_instance.Goals.{is_instance-else-eq-2}

pub are_instances-is_instance-requires : goal.are_instances-is_instance-requires
are_instances-is_instance-requires g t c κs within =
    let low : depth (plain_pattern c.index-pats-i.result) ≤ depths
    (plain_patterns c.args.pats.now) =
    depth_of-item _ _ _ c.index-pats-i.is c.loop-i-test.true in
    (omega arith, within)

pub are_instances-returns-then-not-is_instance : goal.are_instances-returns-then-not-is_instance
are_instances-returns-then-not-is_instance g t c =
    let step =
    rest_more [] c.args.pats.now (children c.args.term.now) c.loop-i.i _ _ c.index-pats-i.is
    c.loop-i-test.true c.child.ensures in
    record {
      instances =
          refused false _ refl (λ e. false≢true
          (c.if-not-is_instance.ensures.instance.1
          (step.0 (c.loop-i.invariant.instances.1 e)).0));
      looks =
          omega (
            arith,
            sizes-drop (children c.args.term.now) c.loop-i.i c.child.result.now c.child.ensures,
          );
    }

pub are_instances-loop-i-preserved : goal.are_instances-loop-i-preserved
are_instances-loop-i-preserved g t c =
    let step =
    rest_more [] c.args.pats.now (children c.args.term.now) c.loop-i.i _ _ c.index-pats-i.is
    c.loop-i-test.true c.child.ensures in
    record {
      instances = (
        λ e. c.loop-i.invariant.instances.0
            (step.1 (c.if-not-is_instance.ensures.instance.0 refl, e)),
        λ e. (step.0 (c.loop-i.invariant.instances.1 e)).1,
      );
      looks =
          omega (
            arith,
            sizes-drop (children c.args.term.now) c.loop-i.i c.child.result.now c.child.ensures,
          );
    }

pub is_instance-returns-else-len-count-clause-instance :
    goal.is_instance-returns-else-len-count-clause-instance
is_instance-returns-else-len-count-clause-instance g t c =
    let is : plain_pattern c.args.pat.now ≡ application c.in-Ctor.sym.0
    (plain_patterns c.in-Ctor.args.items) =
    ap plain_pattern c.in-Ctor.is ∙ plain-Ctor _ _ in
    let count : c.in-Ctor-view.count ≡ length (children c.args.term.now) =
    c.in-Ctor-view.ensures.shows.1 in
    refused _ _ c.if-len-count.false
    (other_constructor [] _ _ _ _ _ is c.in-Ctor-view.ensures.shows.0
    (elim c.if-eq-2.branch [
      | is_instance-then-eq-2 w ↦ inr
          (λ e. false≢true (sym (sym w.value-is ∙ c.if-len-count.false) ∙ eq-eqb _ _ (omega arith)))
      | is_instance-else-eq-2 w ↦ inl
          (λ e. false≢true (sym (sym c.eq-in-Ctor-view.ensures ∙ w.if-eq-2.false) ∙ eq-eqb _ _ e))
    ]))
