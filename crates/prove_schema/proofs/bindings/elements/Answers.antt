use Rattle.std.proofs.Common.{rules, ◌≡◌, ◌<◌, ◌+◌, List, [], ◌∷◌, ◌++◌, length, take, sym, subst}
use Rattle.std.proofs.Common.{arith}
use Rattle.ml_kernel.specs.Theorems.{Theorem}
use Rattle.prove_term.proofs.ContextLaws.{grown_twice, grown_none}
use Rattle.prove_schema.specs.Elements.{AreElementsFor}
use Rattle.prove_schema.proofs.ElementLaws.{bound_grown, one_more_element}
use Rattle.prove_schema.proofs.bindings.elements.Goals as goal

pub returns-in_err-facts-clause-grown : goal.returns-in_err-facts-clause-grown
returns-in_err-facts-clause-grown c = grown_none c.args.cx.now

pub loop-x-init : goal.loop-x-init
loop-x-init c = (grown_none c.args.cx.now, rw c.in_ok-facts.ensures.items tt)

pub element-requires-clause-bound : goal.element-requires-clause-bound
element-requires-clause-bound c =
    let low : c.loop-x.x < length c.args.subst.now =
    omega (arith, c.loop-x-test.true, c.loop-x.auto.x-end, c.vars-x-end.ensures.value) in
    bound_grown c.args.cx.now c.loop-x.cx c.args.subst.now c.loop-x.x c.loop-x.invariant.0
    c.requires.bound low

pub returns-in_err-element-clause-grown : goal.returns-in_err-element-clause-grown
returns-in_err-element-clause-grown c =
    grown_twice c.args.cx.now c.loop-x.cx c.element.new.cx c.loop-x.invariant.0
    c.element.ensures.grown

pub returns-in_err-push-clause-grown : goal.returns-in_err-push-clause-grown
returns-in_err-push-clause-grown c =
    grown_twice c.args.cx.now c.loop-x.cx c.element.new.cx c.loop-x.invariant.0
    c.element.ensures.grown

pub loop-x-preserved : goal.loop-x-preserved
loop-x-preserved c =
    let t : Theorem = c.in_ok-element.field-0 in
    let items : c.push.new.self.items ≡ c.loop-x.facts.items ++ t ∷ [] = search rules in
    let low : c.loop-x.x < length c.args.subst.now =
    omega (arith, c.loop-x-test.true, c.loop-x.auto.x-end, c.vars-x-end.ensures.value) in (
      grown_twice c.args.cx.now c.loop-x.cx c.element.new.cx c.loop-x.invariant.0
          c.element.ensures.grown,
      subst (λ (ts : List Theorem).
          AreElementsFor c.element.new.cx (take (c.loop-x.x + 1) c.args.subst.now) ts)
          (sym items)
          (one_more_element c.loop-x.cx c.element.new.cx c.args.subst.now c.loop-x.x
          c.loop-x.facts.items t low c.element.ensures.grown c.loop-x.invariant.1
          c.in_ok-element.ensures.fact),
    )
