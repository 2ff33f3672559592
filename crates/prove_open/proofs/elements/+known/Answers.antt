use Rattle.std.proofs.Common.{rules, ◌≡◌, ◌<◌, ◌≤◌, ◌+◌, ℕ, List, [], ◌∷◌, ◌++◌, length, take, sym}
use Rattle.std.proofs.Common.{◌∙◌, ap, subst, arith}
use Rattle.ml_pat.specs.Patterns.{Pattern}
use Rattle.ml_kernel.specs.Theorems.{Theorem}
use Rattle.std.specs.Prelude.{IfOk}
use Rattle.term_core.specs.Terms.{Tree}
use Rattle.term_core.specs.Patterns.{Pattern as RulePattern, application, injection, variable}
use Rattle.term_core.specs.Patterns.{ground_pattern}
use Rattle.term_core.specs.declared.rule_patterns.RulePat.{RulePat}
use Rattle.term_core.specs.RulePatterns.{plain_pattern, sort_numbers}
use Rattle.term_core.specs.PatternLists.{plain_patterns}
use Rattle.term_core.proofs.PatternLaws.{depth, depths, depth_of-item}
use Rattle.term_core.proofs.PlainPatterns.{plain-Ctor, plain-Var}
use Rattle.rule_core.specs.declared.rules.Program.{Program}
use Rattle.prove_term.specs.Contexts.{HasGrown}
use Rattle.prove_term.specs.InjectionTables.{InjectsBelow}
use Rattle.prove_term.proofs.ContextLaws.{grown_twice}
use Rattle.prove_term.proofs.InjectionSteps.{length-numbers}
use Rattle.prove_open.specs.Elements.{AreElementsUnder, IsElementAt, RaisesTo}
use Rattle.prove_open.proofs.CoverLaws.{covered_arguments, covered_below, have_elements}
use Rattle.prove_open.proofs.GatheringLaws.{ready_grown, has_element_grown, have_elements_grown, item_has_element}
use Rattle.prove_open.proofs.ElementLaws.{variable_under, injects, inner_element, injected_under}
use Rattle.prove_open.specs.Known.{AreKnown, AreTheTerms, IsKnown, IsTheTerm}
use Rattle.prove_open.specs.declared.known.Known.{Known}
use Rattle.prove_open.proofs.KnownLaws.{known_term, known_terms, one_more_known, told}
use Rattle.prove_open.proofs.elements.+known.Goals.{constructed-After-deref-2}
use Rattle.prove_open.proofs.elements.+known.Goals.{constructed-After-deref-3}
use Rattle.prove_open.proofs.elements.+known.Goals as goal

pub all_known-known-requires : goal.all_known-known-requires
all_known-known-requires t c =
    let low : c.loop-arg.arg-index < length c.args.args.now =
    omega (arith, c.loop-arg-test.true, c.loop-arg.auto.arg-index-end) in
    let high : depth (plain_pattern c.arg-item.result) ≤ depths (plain_patterns c.args.args.now) =
    depth_of-item c.args.args.now c.loop-arg.arg-index c.arg-item.result c.arg-item.is low in (
      omega (arith, high, c.decreases),
      (
        ready_grown c.args.cx.now c.loop-arg.cx (sort_numbers c.args.sorts.now) c.args.given.now
            c.loop-arg.invariant.grown c.requires.ready,
        has_element_grown c.args.cx.now c.loop-arg.cx (sort_numbers c.args.sorts.now)
            c.args.given.now (plain_pattern c.arg-item.result) c.loop-arg.invariant.grown
            (item_has_element c.args.cx.now.program.sig (sort_numbers c.args.sorts.now)
            c.args.given.now c.args.args.now c.loop-arg.arg-index c.arg-item.result
            c.requires.covered low c.arg-item.is),
      ),
    )

pub all_known-loop-arg-preserved : goal.all_known-loop-arg-preserved
all_known-loop-arg-preserved t c =
    let made : Known = c.in_ok-known.field-0 in
    let items : c.push.new.self.items ≡ c.loop-arg.parts.items ++ made ∷ [] = search rules in
    let low : c.loop-arg.arg-index < length c.args.args.now =
    omega (arith, c.loop-arg-test.true, c.loop-arg.auto.arg-index-end) in
    record {
      known =
          subst (λ (ks : List Known). AreKnown c.known.new.cx (sort_numbers c.args.sorts.now)
          c.args.given.now (take (c.loop-arg.arg-index + 1) c.args.args.now) ks) (sym items)
          (one_more_known c.loop-arg.cx c.known.new.cx (sort_numbers c.args.sorts.now)
          c.args.given.now c.args.args.now c.loop-arg.arg-index c.arg-item.result
          c.loop-arg.parts.items made low c.arg-item.is c.known.ensures.grown
          c.loop-arg.invariant.known c.in_ok-known.ensures.is);
      grown =
          grown_twice c.args.cx.now c.loop-arg.cx c.known.new.cx c.loop-arg.invariant.grown
          c.known.ensures.grown;
    }

pub constructed-all_known-requires : goal.constructed-all_known-requires
constructed-all_known-requires t c = (
  omega (arith, c.decreases),
  (
    c.requires.ready,
    have_elements c.args.cx.now.program.sig (sort_numbers c.args.sorts.now) c.args.given.now
        c.args.args.now c.requires.covered.1.sorted.0.args.items
        (covered_arguments c.args.cx.now.program.sig (sort_numbers c.args.sorts.now)
        c.args.given.now c.args.symbol.0 (plain_patterns c.args.args.now) c.requires.covered.0
        c.requires.covered.1),
  ),
)

pub known-returns-in_ok-fact_on-in-Var-clause-is :
    goal.known-returns-in_ok-fact_on-in-Var-clause-is
known-returns-in_ok-fact_on-in-Var-clause-is t c =
    let is : plain_pattern c.args.pat.now ≡ variable c.in-Var.x =
    ap plain_pattern c.in-Var.is ∙ plain-Var _ in
    variable_under c.args.cx.now (sort_numbers c.args.sorts.now) c.args.given.now c.in-Var.x
    c.in_ok-fact_on-in-Var.field-0 (plain_pattern c.args.pat.now) is
    (c.requires.ready.given.facts c.in-Var.x c.in_ok-fact_on-in-Var.field-0
    c.in_ok-fact_on-in-Var.ensures)

pub known-returns-in-Ctor-clause-is : goal.known-returns-in-Ctor-clause-is
known-returns-in-Ctor-clause-is t c =
    let is : plain_pattern c.args.pat.now
    ≡ application c.in-Ctor.symbol.0 (plain_patterns c.deref.result.now) =
    ap plain_pattern c.in-Ctor.is ∙ plain-Ctor _ _
    ∙ ap (λ (ps : List RulePat). application c.in-Ctor.symbol.0 (plain_patterns ps))
    (sym c.deref.ensures.value) in
    subst (λ (p : RulePattern). IfOk c.constructed.result (IsKnown c.constructed.new.cx
    (sort_numbers c.args.sorts.now) c.args.given.now p)) (sym is) c.constructed.ensures.is

pub injected-injected_along-requires-clause-injects :
    goal.injected-injected_along-requires-clause-injects
injected-injected_along-requires-clause-injects t c =
    let g : HasGrown c.args.cx.now c.as_element.new.cx =
    grown_twice c.args.cx.now c.known.new.cx c.as_element.new.cx c.in_ok-inner.ensures.grown
    c.in_ok-fact.ensures.grown in
    subst (λ (program : Program). InjectsBelow program.sig c.args.from.0 c.args.to.0)
    (sym g.program)
    (injects c.args.cx.now (sort_numbers c.args.sorts.now) c.args.given.now c.args.from.0
    c.args.to.0 (plain_pattern c.args.below.now) c.requires.ready.well_sorted.signature
    c.requires.covered)

pub injected-injected_along-requires-clause-element :
    goal.injected-injected_along-requires-clause-element
injected-injected_along-requires-clause-element t c =
    let k : c.in_ok-first_new.field-0 ≡ length (sort_numbers c.args.sorts.now) =
    c.in_ok-first_new.ensures ∙ sym (length-numbers c.args.sorts.now) in
    let g : HasGrown c.args.cx.now c.as_element.new.cx =
    grown_twice c.args.cx.now c.known.new.cx c.as_element.new.cx c.in_ok-inner.ensures.grown
    c.in_ok-fact.ensures.grown in
    subst (λ (n : ℕ). (q : Pattern) × IsElementAt c.as_element.new.cx
    c.args.given.now.hypothesis n c.args.from.0 q c.in_ok-fact.fact) (sym k)
    (inner_element c.as_element.new.cx (sort_numbers c.args.sorts.now) c.args.given.now
    c.args.from.0 c.args.to.0 (plain_pattern c.args.below.now) c.in_ok-fact.fact
    (has_element_grown c.args.cx.now c.as_element.new.cx (sort_numbers c.args.sorts.now)
    c.args.given.now (injection c.args.from.0 c.args.to.0 (plain_pattern c.args.below.now)) g
    c.requires.covered)
    (c.in_ok-fact.ensures.is (sort_numbers c.args.sorts.now) (plain_pattern c.args.below.now)
    c.in_ok-inner.ensures.is))

pub injected-returns-clause-is : goal.injected-returns-clause-is
injected-returns-clause-is t c =
    let k : c.in_ok-first_new.field-0 ≡ length (sort_numbers c.args.sorts.now) =
    c.in_ok-first_new.ensures ∙ sym (length-numbers c.args.sorts.now) in
    injected_under c.as_element.new.cx c.injected_along.new.cx (sort_numbers c.args.sorts.now)
    c.args.given.now c.args.from.0 c.args.to.0 (plain_pattern c.args.below.now)
    c.in_ok-fact.fact c.in_ok-made.made c.in_ok-made.ensures.grown
    (c.in_ok-fact.ensures.is (sort_numbers c.args.sorts.now) (plain_pattern c.args.below.now)
    c.in_ok-inner.ensures.is)
    (subst (λ (n : ℕ). RaisesTo c.as_element.new.cx c.injected_along.new.cx
    c.args.given.now.hypothesis n c.args.from.0 c.args.to.0 c.in_ok-fact.fact
    c.in_ok-made.made) k c.in_ok-made.ensures.raises)

pub constructed-returns-in-Some-clause-is : goal.constructed-returns-in-Some-clause-is
constructed-returns-in-Some-clause-is t c =
    told (λ (u : Tree). (ps : List RulePat) → AreTheTerms ps c.deref.result.now
    → application c.args.symbol.0 (plain_patterns ps) ≡ ground_pattern u) c.in_ok-term.field-0
    c.in-Some.term c.in-Some.is c.in_ok-term.ensures c.args.args.now
    (subst (λ (ks : List Known). AreTheTerms c.args.args.now ks) (sym c.deref.ensures.value)
    (known_terms c.all_known.new.cx (sort_numbers c.args.sorts.now) c.args.given.now
    c.args.args.now c.in_ok-parts.parts.items c.in_ok-parts.ensures.are))

known_parts : (t : ℕ) (c : constructed-After-deref-2 t)
    → AreKnown c.all_known.new.cx (sort_numbers c.args.sorts.now) c.args.given.now c.args.args.now
    c.deref-2.result.now
known_parts t c =
    subst (λ (ks : List Known). AreKnown c.all_known.new.cx (sort_numbers c.args.sorts.now)
    c.args.given.now c.args.args.now ks) (sym c.deref-2.ensures.value) c.in_ok-parts.ensures.are

-- what the arguments need is kept while facts are made
made : (t : ℕ) (c : constructed-After-deref-3 t) → HasGrown c.args.cx.now c.as_elements.new.cx
made t c =
    grown_twice c.args.cx.now c.all_known.new.cx c.as_elements.new.cx c.in_ok-parts.ensures.grown
    c.in_ok-facts.ensures.grown

pub constructed-as_elements-requires : goal.constructed-as_elements-requires
constructed-as_elements-requires t c = record {
  known = (
    sort_numbers c.args.sorts.now,
    c.args.args.now,
    ready_grown c.args.cx.now c.all_known.new.cx (sort_numbers c.args.sorts.now)
        c.args.given.now c.in_ok-parts.ensures.grown c.requires.ready,
    have_elements_grown c.args.cx.now c.all_known.new.cx (sort_numbers c.args.sorts.now)
        c.args.given.now c.args.args.now c.in_ok-parts.ensures.grown
        (have_elements c.args.cx.now.program.sig (sort_numbers c.args.sorts.now)
        c.args.given.now c.args.args.now c.requires.covered.1.sorted.0.args.items
        (covered_arguments c.args.cx.now.program.sig (sort_numbers c.args.sorts.now)
        c.args.given.now c.args.symbol.0 (plain_patterns c.args.args.now) c.requires.covered.0
        c.requires.covered.1)),
    known_parts t c,
  );
}

pub constructed-total-requires-clause-ready : goal.constructed-total-requires-clause-ready
constructed-total-requires-clause-ready t c =
    ready_grown c.args.cx.now c.as_elements.new.cx (sort_numbers c.args.sorts.now)
    c.args.given.now (made t c) c.requires.ready

pub constructed-total-requires-clause-covered : goal.constructed-total-requires-clause-covered
constructed-total-requires-clause-covered t c =
    has_element_grown c.args.cx.now c.as_elements.new.cx (sort_numbers c.args.sorts.now)
    c.args.given.now (application c.args.symbol.0 (plain_patterns c.args.args.now)) (made t c)
    c.requires.covered

pub constructed-total-requires-clause-facts : goal.constructed-total-requires-clause-facts
constructed-total-requires-clause-facts t c =
    subst (λ (ts : List Theorem). AreElementsUnder c.as_elements.new.cx
    (sort_numbers c.args.sorts.now) c.args.given.now c.args.args.now ts)
    (sym c.deref-3.ensures.value)
    (c.in_ok-facts.ensures.are (sort_numbers c.args.sorts.now) c.args.args.now
    (known_parts t (goal.at.constructed-total-requires-clause-facts t c).After-deref-2))

pub constructed-returns-in_err-total-clause-grown : goal.constructed-returns-in_err-total-clause-grown
constructed-returns-in_err-total-clause-grown t c =
    grown_twice c.args.cx.now c.as_elements.new.cx c.total.new.cx
    (made t (goal.at.constructed-returns-in_err-total-clause-grown t c).After-deref-3)
    c.in_err-total.ensures.grown

pub constructed-returns-clause-grown : goal.constructed-returns-clause-grown
constructed-returns-clause-grown t c =
    grown_twice c.args.cx.now c.as_elements.new.cx c.total.new.cx
    (made t (goal.at.constructed-returns-clause-grown t c).After-deref-3)
    c.in_ok-total.ensures.grown

pub injected-returns-in-Some-clause-is : goal.injected-returns-in-Some-clause-is
injected-returns-in-Some-clause-is t c =
    told (λ (u : Tree). (p : RulePattern) → IsTheTerm p c.in_ok-inner.inner
    → injection c.args.from.0 c.args.to.0 p ≡ ground_pattern u) c.in_ok-term.field-0
    c.in-Some.term c.in-Some.is c.in_ok-term.ensures (plain_pattern c.args.below.now)
    (known_term c.known.new.cx (sort_numbers c.args.sorts.now) c.args.given.now
    (plain_pattern c.args.below.now) c.in_ok-inner.inner c.in_ok-inner.ensures.is)

pub injected-as_element-requires : goal.injected-as_element-requires
injected-as_element-requires t c = record {
  known = (
    sort_numbers c.args.sorts.now,
    plain_pattern c.args.below.now,
    ready_grown c.args.cx.now c.known.new.cx (sort_numbers c.args.sorts.now) c.args.given.now
        c.in_ok-inner.ensures.grown c.requires.ready,
    has_element_grown c.args.cx.now c.known.new.cx (sort_numbers c.args.sorts.now)
        c.args.given.now (plain_pattern c.args.below.now) c.in_ok-inner.ensures.grown (
          c.args.from.0,
          covered_below c.args.cx.now.program.sig (sort_numbers c.args.sorts.now)
              c.args.given.now c.args.from.0 c.args.to.0 (plain_pattern c.args.below.now)
              c.requires.covered.0 c.requires.covered.1,
        ),
    c.in_ok-inner.ensures.is,
  );
}

pub injected-returns-in_err-made-clause-grown : goal.injected-returns-in_err-made-clause-grown
injected-returns-in_err-made-clause-grown t c =
    grown_twice c.args.cx.now c.as_element.new.cx c.injected_along.new.cx
    (grown_twice c.args.cx.now c.known.new.cx c.as_element.new.cx c.in_ok-inner.ensures.grown
    c.in_ok-fact.ensures.grown) c.in_err-made.ensures.grown

pub injected-returns-clause-grown : goal.injected-returns-clause-grown
injected-returns-clause-grown t c =
    grown_twice c.args.cx.now c.as_element.new.cx c.injected_along.new.cx
    (grown_twice c.args.cx.now c.known.new.cx c.as_element.new.cx c.in_ok-inner.ensures.grown
    c.in_ok-fact.ensures.grown) c.in_ok-made.ensures.grown
