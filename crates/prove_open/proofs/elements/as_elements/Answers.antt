use Rattle.std.proofs.Common.{◌≡◌, ◌≤◌, ◌+◌, List, [], length, take, sym, subst, arith}
use Rattle.std.proofs.lemmas.List.{take_all}
use Rattle.ml_kernel.specs.Theorems.{Theorem}
use Rattle.term_core.specs.RulePatterns.{plain_pattern}
use Rattle.term_core.specs.declared.rule_patterns.RulePat.{RulePat}
use Rattle.prove_term.proofs.ContextLaws.{grown_none, grown_twice}
use Rattle.prove_open.specs.Elements.{AreElementsUnder}
use Rattle.prove_open.proofs.GatheringLaws.{has_element_grown, item_has_element, one_more}
use Rattle.prove_open.proofs.GatheringLaws.{ready_grown}
use Rattle.prove_open.proofs.KnownLaws.{IsNext, as_many, known_grown, next_known}
use Rattle.prove_open.proofs.elements.as_elements.Goals as goal

pub as_element-requires : goal.as_element-requires
as_element-requires c =
    let (sorts, ps, ready, have, known) = c.requires.known in
    let n : IsNext c.args.cx.now sorts c.args.given.now ps c.loop-part.part-index
    c.part-item.result =
    next_known c.args.cx.now sorts c.args.given.now ps c.args.parts.now c.loop-part.part-index
    c.part-item.result known c.loop-part-test.true c.part-item.is in
    record {
      known = (
        sorts,
        plain_pattern n.p,
        ready_grown c.args.cx.now c.loop-part.cx sorts c.args.given.now c.loop-part.invariant.grown
            ready,
        has_element_grown c.args.cx.now c.loop-part.cx sorts c.args.given.now (plain_pattern n.p)
            c.loop-part.invariant.grown
            (item_has_element c.args.cx.now.program.sig sorts c.args.given.now ps
            c.loop-part.part-index n.p have n.low n.at),
        known_grown c.args.cx.now c.loop-part.cx sorts c.args.given.now (plain_pattern n.p)
            c.part-item.result c.loop-part.invariant.grown n.known,
      );
    }

pub loop-part-init : goal.loop-part-init
loop-part-init c = record {
  elements = λ sorts ps known.
      subst (λ (ts : List Theorem). AreElementsUnder c.args.cx.now sorts c.args.given.now [] ts)
      (sym c.in_ok-facts.ensures.items) tt;
  grown = grown_none c.args.cx.now;
}

pub loop-part-preserved : goal.loop-part-preserved
loop-part-preserved c = record {
  elements = λ sorts ps known.
      let n : IsNext c.args.cx.now sorts c.args.given.now ps c.loop-part.part-index
      c.part-item.result =
      next_known c.args.cx.now sorts c.args.given.now ps c.args.parts.now c.loop-part.part-index
      c.part-item.result known c.loop-part-test.true c.part-item.is in
      subst (λ (ts : List Theorem). AreElementsUnder c.as_element.new.cx sorts c.args.given.now
      (take (c.loop-part.part-index + 1) ps) ts) (sym c.in_ok-push.ensures.items)
      (one_more c.loop-part.cx c.as_element.new.cx sorts c.args.given.now ps
      c.loop-part.part-index n.p c.loop-part.facts.items c.in_ok-as_element.field-0 n.low n.at
      c.in_ok-as_element.ensures.grown (c.loop-part.invariant.elements sorts ps known)
      (c.in_ok-as_element.ensures.is sorts (plain_pattern n.p)
      (known_grown c.args.cx.now c.loop-part.cx sorts c.args.given.now (plain_pattern n.p)
      c.part-item.result c.loop-part.invariant.grown n.known)));
  grown =
      grown_twice c.args.cx.now c.loop-part.cx c.as_element.new.cx c.loop-part.invariant.grown
      c.in_ok-as_element.ensures.grown;
}

pub returns-clause-are : goal.returns-clause-are
returns-clause-are c = λ sorts ps known.
    let many : length ps ≡ length c.args.parts.now =
    as_many c.args.cx.now sorts c.args.given.now ps c.args.parts.now known in
    let all : length ps ≤ c.loop-part.part-index =
    omega (arith, many, c.loop-part-test.false) in
    subst (λ (qs : List RulePat). AreElementsUnder c.loop-part.cx sorts c.args.given.now qs
    c.loop-part.facts.items) (take_all c.loop-part.part-index ps all)
    (c.loop-part.invariant.elements sorts ps known)
