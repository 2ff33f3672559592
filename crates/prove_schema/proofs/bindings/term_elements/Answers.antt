use Rattle.std.proofs.Common.{rules, ◌≡◌, ◌<◌, ◌+◌, List, [], ◌∷◌, ◌++◌, length, take, sym, subst}
use Rattle.std.proofs.Common.{arith}
use Rattle.std.specs.List.{AllZip}
use Rattle.ml_kernel.specs.Theorems.{Theorem}
use Rattle.prove_term.proofs.ContextLaws.{grown_twice, grown_none}
use Rattle.prove_schema.specs.Elements.{IsElementOf}
use Rattle.prove_schema.proofs.ElementLaws.{term_sorted, one_more_term}
use Rattle.prove_schema.proofs.bindings.term_elements.Goals as goal

pub returns-in_err-facts-clause-grown : goal.returns-in_err-facts-clause-grown
returns-in_err-facts-clause-grown c = grown_none c.args.cx.now

pub loop-term-init : goal.loop-term-init
loop-term-init c = (grown_none c.args.cx.now, rw c.in_ok-facts.ensures.items tt)

pub fun_of-requires-clause-sorted : goal.fun_of-requires-clause-sorted
fun_of-requires-clause-sorted c =
    let low : c.loop-term.term-index < length c.args.terms.now =
    omega (arith, c.loop-term-test.true, c.loop-term.auto.term-index-end) in
    term_sorted c.args.cx.now c.loop-term.cx c.args.terms.now c.loop-term.term-index
    c.term-item.result c.loop-term.invariant.0 c.requires.sorted low c.term-item.is

pub returns-in_err-fun_of-clause-grown : goal.returns-in_err-fun_of-clause-grown
returns-in_err-fun_of-clause-grown c =
    grown_twice c.args.cx.now c.loop-term.cx c.fun_of.new.cx c.loop-term.invariant.0
    c.fun_of.ensures.grown

pub returns-in_err-push-clause-grown : goal.returns-in_err-push-clause-grown
returns-in_err-push-clause-grown c =
    grown_twice c.args.cx.now c.loop-term.cx c.fun_of.new.cx c.loop-term.invariant.0
    c.fun_of.ensures.grown

pub loop-term-preserved : goal.loop-term-preserved
loop-term-preserved c =
    let t : Theorem = c.in_ok-fun_of.field-0 in
    let items : c.push.new.self.items ≡ c.loop-term.facts.items ++ t ∷ [] = search rules in
    let low : c.loop-term.term-index < length c.args.terms.now =
    omega (arith, c.loop-term-test.true, c.loop-term.auto.term-index-end) in (
      grown_twice c.args.cx.now c.loop-term.cx c.fun_of.new.cx c.loop-term.invariant.0
          c.fun_of.ensures.grown,
      subst (λ (ts : List Theorem). AllZip (IsElementOf c.fun_of.new.cx)
          (take (c.loop-term.term-index + 1) c.args.terms.now) ts) (sym items)
          (one_more_term c.loop-term.cx c.fun_of.new.cx c.args.terms.now c.loop-term.term-index
          c.term-item.result c.loop-term.facts.items t low c.term-item.is c.fun_of.ensures.grown
          c.loop-term.invariant.1
          (c.in_ok-fun_of.ensures.says, c.in_ok-fun_of.ensures.stays)),
    )
