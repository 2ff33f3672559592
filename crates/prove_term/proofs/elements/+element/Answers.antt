use Rattle.std.proofs.Common.{◌≡◌, ◌<◌, ◌≤◌, ◌+◌, ◌-◌, ℕ, List, [], ◌∷◌, length, drop, refl, get_or}
use Rattle.std.proofs.Common.{◌++◌, ap, sym, ◌∙◌, subst, arith}
use Rattle.ml_pat.specs.Patterns.{Pattern}
use Rattle.ml_kernel.specs.Lemmas.{instance, instances, IsMetaBelow, AreMetasBelow}
use Rattle.ml_kernel.specs.Theorems.{Theorem, conclusions, IsByLemma}
use Rattle.term_core.specs.Patterns.{Pattern as RulePattern, Patterns as RulePatterns, application}
use Rattle.term_core.specs.Patterns.{injection, no_pattern, more_patterns}
use Rattle.term_core.specs.GroundPatterns.{IsGround}
use Rattle.term_core.specs.RulePatterns.{plain_pattern}
use Rattle.term_core.specs.PatternLists.{plain_patterns}
use Rattle.term_core.specs.declared.rule_patterns.RulePat.{RulePat}
use Rattle.term_core.proofs.PatternLaws.{depth, depths, depth_of-item}
use Rattle.term_core.proofs.PlainPatterns.{plain-Ctor, plain-Inj}
use Rattle.rule_core.specs.WellSorted.{IsSignature}
use Rattle.rule_core.specs.declared.rules.Program.{Program}
use Rattle.prove_term.specs.Elements.{IsSorted, IsElement, AreGathered}
use Rattle.prove_term.proofs.ResultLaws.{if_ok, if_ok_two}
use Rattle.prove_term.proofs.ContextLaws.{grown_none, grown_twice}
use Rattle.prove_term.proofs.ElementLaws.{gathered_none, gathered_next, says_element, elements_of}
use Rattle.prove_term.proofs.ElementLaws.{IsBuilt, is_made, lemma_found, hypotheses_below}
use Rattle.prove_term.proofs.ElementLaws.{conclusion_below, proofs_fit, made_element, made_stays}
use Rattle.prove_term.specs.Carrying.{Cites, CitedFrom, CitedBy}
use Rattle.prove_term.proofs.InjectedElements.{injects_below, below_sorted, IsInjectedElement}
use Rattle.prove_term.proofs.InjectedElements.{injected_from, injected_cites, injected_says}
use Rattle.prove_term.proofs.InjectedElements.{injected_assumes_nothing, injected_stays}
use Rattle.prove_term.proofs.ElementLoop.{sorted_item, sorted_item_grown, ground_item, item_before}
use Rattle.prove_term.proofs.ElementLoop.{none_from_end}
use Rattle.prove_term.proofs.elements.+element.Goals as goal

pub all_elements-element-requires : goal.all_elements-element-requires
all_elements-element-requires t c =
    let low : c.loop-i.i - 1 < length c.args.args.now =
    omega (arith, c.loop-i-test.true, c.loop-i.auto.i) in
    let high : depth (plain_pattern c.index-args-i.result) ≤ depths
    (plain_patterns c.args.args.now) =
    depth_of-item c.args.args.now (c.loop-i.i - 1) c.index-args-i.result c.index-args-i.is
    low in
    let back : c.args.cx.now.program ≡ c.loop-i.cx.program =
    sym c.loop-i.invariant.grown.program in (
      omega (arith, high, c.decreases),
      (
        subst (λ (program : Program). IsSignature program.sig) back c.requires.signature,
        (
          subst (λ (program : Program). IsSorted program.sig (plain_pattern c.index-args-i.result))
              back (sorted_item c.args.cx.now.program.sig c.args.args.now (c.loop-i.i - 1)
              c.index-args-i.result c.requires.sorted low c.index-args-i.is),
          ground_item c.args.args.now (c.loop-i.i - 1) c.index-args-i.result c.requires.ground low
              c.index-args-i.is,
        ),
      ),
    )

pub element-constructed-requires : goal.element-constructed-requires
element-constructed-requires t c =
    let is : plain_pattern c.args.pat.now ≡ application c.in-Ctor.symbol.0
    (plain_patterns c.in-Ctor.args.items) =
    ap plain_pattern c.in-Ctor.is ∙ plain-Ctor _ _ in
    let is' : plain_pattern c.args.pat.now ≡ application c.in-Ctor.symbol.0
    (plain_patterns c.deref.result.now) =
    is
    ∙ ap (λ (ps : List RulePat). application c.in-Ctor.symbol.0 (plain_patterns ps))
    (sym c.deref.ensures.value) in
    let high : depth (plain_pattern c.args.pat.now) ≡ depths (plain_patterns c.deref.result.now) +
    1 =
    ap depth is' in (
      omega (arith, high, c.decreases),
      (
        c.requires.signature,
        (
          subst (λ (p : RulePattern). IsSorted c.args.cx.now.program.sig p) is' c.requires.sorted,
          subst (λ (p : RulePattern). IsGround p) is' c.requires.ground,
        ),
      ),
    )

pub element-returns-in-Ctor-clause-says : goal.element-returns-in-Ctor-clause-says
element-returns-in-Ctor-clause-says t c =
    let is : plain_pattern c.args.pat.now ≡ application c.in-Ctor.symbol.0
    (plain_patterns c.in-Ctor.args.items) =
    ap plain_pattern c.in-Ctor.is ∙ plain-Ctor _ _ in
    let is' : plain_pattern c.args.pat.now ≡ application c.in-Ctor.symbol.0
    (plain_patterns c.deref.result.now) =
    is
    ∙ ap (λ (ps : List RulePat). application c.in-Ctor.symbol.0 (plain_patterns ps))
    (sym c.deref.ensures.value) in
    if_ok c.constructed.result
    (λ thm says.
    subst (λ (p : RulePattern). IsElement c.constructed.new.cx p thm.conclusion) (sym is') says)
    c.constructed.ensures.says

pub all_elements-loop-i-init : goal.all_elements-loop-i-init
all_elements-loop-i-init t c = record {
  gathered =
      subst (λ (ps : RulePatterns).
      AreGathered c.args.cx.now ps c.in_ok-images.images.items c.in_ok-proofs.proofs.items)
      (sym (none_from_end (length c.args.args.now) c.args.args.now refl))
      (subst (λ (qs : List Pattern).
      AreGathered c.args.cx.now no_pattern qs c.in_ok-proofs.proofs.items)
      (sym c.in_ok-images.ensures.items)
      (subst (λ (ts : List Theorem). AreGathered c.args.cx.now no_pattern [] ts)
      (sym c.in_ok-proofs.ensures.items) (gathered_none c.args.cx.now)));
  grown = grown_none c.args.cx.now;
}

pub all_elements-subject-requires : goal.all_elements-subject-requires
all_elements-subject-requires t c =
    let low : c.loop-i.i - 1 < length c.args.args.now =
    omega (arith, c.loop-i-test.true, c.loop-i.auto.i) in
    says_element c.element.new.cx (plain_pattern c.index-args-i.result) c.in_ok-made.made.conclusion
    (sorted_item_grown c.args.cx.now c.loop-i.cx c.element.new.cx c.args.args.now (c.loop-i.i - 1)
    c.index-args-i.result c.loop-i.invariant.grown c.in_ok-made.ensures.grown c.requires.sorted
    low c.index-args-i.is)
    c.in_ok-made.ensures.says

pub all_elements-loop-i-preserved : goal.all_elements-loop-i-preserved
all_elements-loop-i-preserved t c =
    let low : c.loop-i.i - 1 < length c.args.args.now =
    omega (arith, c.loop-i-test.true, c.loop-i.auto.i) in
    let sorted : IsSorted c.element.new.cx.program.sig (plain_pattern c.index-args-i.result) =
    sorted_item_grown c.args.cx.now c.loop-i.cx c.element.new.cx c.args.args.now (c.loop-i.i - 1)
    c.index-args-i.result c.loop-i.invariant.grown c.in_ok-made.ensures.grown c.requires.sorted
    low c.index-args-i.is in
    let next : plain_patterns (drop (c.loop-i.i - 1) c.args.args.now) ≡ more_patterns
    (plain_pattern c.index-args-i.result) (plain_patterns (drop c.loop-i.i c.args.args.now)) =
    item_before c.args.args.now c.loop-i.i (c.loop-i.i - 1) c.index-args-i.result
    (omega (arith, c.loop-i-test.true)) low c.index-args-i.is in
    record {
      gathered =
          subst (λ (ps : RulePatterns). AreGathered c.element.new.cx ps c.push.new.self.items
          c.push-in-loop-i.new.self.items) (sym next)
          (subst (λ (qs : List Pattern). AreGathered c.element.new.cx
          (more_patterns (plain_pattern c.index-args-i.result)
          (plain_patterns (drop c.loop-i.i c.args.args.now))) qs
          c.push-in-loop-i.new.self.items) (sym c.in_ok-push.ensures.items)
          (subst (λ (ts : List Theorem). AreGathered c.element.new.cx
          (more_patterns (plain_pattern c.index-args-i.result)
          (plain_patterns (drop c.loop-i.i c.args.args.now)))
          (c.loop-i.images.items ++ c.in_ok-subject.field-0 ∷ []) ts)
          (sym c.in_ok-push-2.ensures.items)
          (gathered_next c.loop-i.cx c.element.new.cx (plain_pattern c.index-args-i.result)
          (plain_patterns (drop c.loop-i.i c.args.args.now)) c.loop-i.images.items
          c.loop-i.proofs.items c.in_ok-subject.field-0 c.in_ok-made.made
          c.in_ok-made.ensures.grown c.loop-i.invariant.gathered sorted c.in_ok-made.ensures.says
          c.in_ok-made.ensures.no_hypotheses c.in_ok-made.ensures.stays
          c.in_ok-subject.ensures)));
      grown =
          grown_twice c.args.cx.now c.loop-i.cx c.element.new.cx c.loop-i.invariant.grown
          c.in_ok-made.ensures.grown;
    }

pub all_elements-returns-in_err-push-clause-grown :
    goal.all_elements-returns-in_err-push-clause-grown
all_elements-returns-in_err-push-clause-grown t c =
    grown_twice c.args.cx.now c.loop-i.cx c.element.new.cx c.loop-i.invariant.grown
    c.in_ok-made.ensures.grown

pub all_elements-returns-in_err-push-2-clause-grown :
    goal.all_elements-returns-in_err-push-2-clause-grown
all_elements-returns-in_err-push-2-clause-grown t c =
    grown_twice c.args.cx.now c.loop-i.cx c.element.new.cx c.loop-i.invariant.grown
    c.in_ok-made.ensures.grown

pub all_elements-returns-clause-elements : goal.all_elements-returns-clause-elements
all_elements-returns-clause-elements t c =
    let none : c.loop-i.i ≡ 0 = omega (arith, c.loop-i-test.false) in
    let all : AreGathered c.loop-i.cx (plain_patterns c.args.args.now) c.loop-i.images.items
    c.loop-i.proofs.items =
    subst (λ (i : ℕ). AreGathered c.loop-i.cx (plain_patterns (drop i c.args.args.now))
    c.loop-i.images.items c.loop-i.proofs.items) none c.loop-i.invariant.gathered in
    elements_of c.loop-i.cx (plain_patterns c.args.args.now) c.loop-i.images.items
    c.reverse.new.self.items c.loop-i.proofs.items all c.reverse.ensures.items

pub constructed-use_lemma-requires-clause-hypotheses_metas :
    goal.constructed-use_lemma-requires-clause-hypotheses_metas
constructed-use_lemma-requires-clause-hypotheses_metas t c =
    let m : IsBuilt c.all_elements.new.cx c.args.symbol.0 c.in_ok-place.place
    (plain_patterns c.args.args.now) c.in_ok-made.made.images.items
    c.in_ok-made.made.proofs.items =
    is_made c.args.cx.now c.constructor.new.self c.all_elements.new.cx c.args.symbol.0
    c.in_ok-place.place (plain_patterns c.args.args.now) c.in_ok-made.made.images.items
    c.in_ok-made.made.proofs.items
    c.in_ok-place.ensures.grown c.in_ok-made.ensures.grown c.in_ok-place.ensures.lemma
    c.in_ok-made.ensures.elements c.requires.sorted in
    let found : m.at.lemma ≡ c.index-lemmas-place.result =
    lemma_found c.all_elements.new.cx.lemmas c.in_ok-place.place m.at.lemma
    c.index-lemmas-place.result m.at.there (c.index-lemmas-place.is
    ∙ ap (λ (ts : List Theorem). get_or ts c.in_ok-place.place c.index-lemmas-place.result)
    c.lemmas.ensures) in
    subst (λ (qs : List Pattern). AreMetasBelow (length qs) c.index-lemmas-place.result.hypotheses)
    (sym c.deref.ensures.value)
    (subst (λ (l : Theorem). AreMetasBelow (length c.in_ok-made.made.images.items) l.hypotheses)
    found (hypotheses_below c.all_elements.new.cx c.args.symbol.0 c.in_ok-place.place
    (plain_patterns c.args.args.now) c.in_ok-made.made.images.items
    c.in_ok-made.made.proofs.items m))

pub constructed-use_lemma-requires-clause-conclusion_metas :
    goal.constructed-use_lemma-requires-clause-conclusion_metas
constructed-use_lemma-requires-clause-conclusion_metas t c =
    let m : IsBuilt c.all_elements.new.cx c.args.symbol.0 c.in_ok-place.place
    (plain_patterns c.args.args.now) c.in_ok-made.made.images.items
    c.in_ok-made.made.proofs.items =
    is_made c.args.cx.now c.constructor.new.self c.all_elements.new.cx c.args.symbol.0
    c.in_ok-place.place (plain_patterns c.args.args.now) c.in_ok-made.made.images.items
    c.in_ok-made.made.proofs.items
    c.in_ok-place.ensures.grown c.in_ok-made.ensures.grown c.in_ok-place.ensures.lemma
    c.in_ok-made.ensures.elements c.requires.sorted in
    let found : m.at.lemma ≡ c.index-lemmas-place.result =
    lemma_found c.all_elements.new.cx.lemmas c.in_ok-place.place m.at.lemma
    c.index-lemmas-place.result m.at.there (c.index-lemmas-place.is
    ∙ ap (λ (ts : List Theorem). get_or ts c.in_ok-place.place c.index-lemmas-place.result)
    c.lemmas.ensures) in
    subst (λ (qs : List Pattern). IsMetaBelow (length qs) c.index-lemmas-place.result.conclusion)
    (sym c.deref.ensures.value)
    (subst (λ (l : Theorem). IsMetaBelow (length c.in_ok-made.made.images.items) l.conclusion) found
    (conclusion_below c.all_elements.new.cx c.args.symbol.0 c.in_ok-place.place
    (plain_patterns c.args.args.now) c.in_ok-made.made.images.items
    c.in_ok-made.made.proofs.items m))

pub constructed-use_lemma-requires-clause-proofs : goal.constructed-use_lemma-requires-clause-proofs
constructed-use_lemma-requires-clause-proofs t c =
    let m : IsBuilt c.all_elements.new.cx c.args.symbol.0 c.in_ok-place.place
    (plain_patterns c.args.args.now) c.in_ok-made.made.images.items
    c.in_ok-made.made.proofs.items =
    is_made c.args.cx.now c.constructor.new.self c.all_elements.new.cx c.args.symbol.0
    c.in_ok-place.place (plain_patterns c.args.args.now) c.in_ok-made.made.images.items
    c.in_ok-made.made.proofs.items
    c.in_ok-place.ensures.grown c.in_ok-made.ensures.grown c.in_ok-place.ensures.lemma
    c.in_ok-made.ensures.elements c.requires.sorted in
    let found : m.at.lemma ≡ c.index-lemmas-place.result =
    lemma_found c.all_elements.new.cx.lemmas c.in_ok-place.place m.at.lemma
    c.index-lemmas-place.result m.at.there (c.index-lemmas-place.is
    ∙ ap (λ (ts : List Theorem). get_or ts c.in_ok-place.place c.index-lemmas-place.result)
    c.lemmas.ensures) in
    subst (λ (qs : List Pattern).
    conclusions c.deref-2.result.now ≡ instances qs c.index-lemmas-place.result.hypotheses)
    (sym c.deref.ensures.value)
    (ap conclusions c.deref-2.ensures.value
    ∙ proofs_fit c.all_elements.new.cx c.args.symbol.0 c.in_ok-place.place
    (plain_patterns c.args.args.now) c.in_ok-made.made.images.items
    c.in_ok-made.made.proofs.items m
    ∙ ap (λ (l : Theorem). instances c.in_ok-made.made.images.items l.hypotheses) found)

pub constructed-returns-clause-says : goal.constructed-returns-clause-says
constructed-returns-clause-says t c =
    let m : IsBuilt c.all_elements.new.cx c.args.symbol.0 c.in_ok-place.place
    (plain_patterns c.args.args.now) c.in_ok-made.made.images.items
    c.in_ok-made.made.proofs.items =
    is_made c.args.cx.now c.constructor.new.self c.all_elements.new.cx c.args.symbol.0
    c.in_ok-place.place (plain_patterns c.args.args.now) c.in_ok-made.made.images.items
    c.in_ok-made.made.proofs.items
    c.in_ok-place.ensures.grown c.in_ok-made.ensures.grown c.in_ok-place.ensures.lemma
    c.in_ok-made.ensures.elements c.requires.sorted in
    let found : m.at.lemma ≡ c.index-lemmas-place.result =
    lemma_found c.all_elements.new.cx.lemmas c.in_ok-place.place m.at.lemma
    c.index-lemmas-place.result m.at.there (c.index-lemmas-place.is
    ∙ ap (λ (ts : List Theorem). get_or ts c.in_ok-place.place c.index-lemmas-place.result)
    c.lemmas.ensures) in
    if_ok c.use_lemma.result
    (λ thm is. made_element c.all_elements.new.cx c.args.symbol.0 c.in_ok-place.place
    (plain_patterns c.args.args.now) c.in_ok-made.made.images.items
    c.in_ok-made.made.proofs.items m thm.conclusion
    (is
    ∙ ap (λ (qs : List Pattern). instance qs c.index-lemmas-place.result.conclusion)
    c.deref.ensures.value
    ∙ ap (λ (l : Theorem). instance c.in_ok-made.made.images.items l.conclusion) (sym found)))
    c.use_lemma.ensures.conclusion

pub constructed-returns-clause-stays : goal.constructed-returns-clause-stays
constructed-returns-clause-stays t c =
    let m : IsBuilt c.all_elements.new.cx c.args.symbol.0 c.in_ok-place.place
    (plain_patterns c.args.args.now) c.in_ok-made.made.images.items
    c.in_ok-made.made.proofs.items =
    is_made c.args.cx.now c.constructor.new.self c.all_elements.new.cx c.args.symbol.0
    c.in_ok-place.place (plain_patterns c.args.args.now) c.in_ok-made.made.images.items
    c.in_ok-made.made.proofs.items
    c.in_ok-place.ensures.grown c.in_ok-made.ensures.grown c.in_ok-place.ensures.lemma
    c.in_ok-made.ensures.elements c.requires.sorted in
    let found : m.at.lemma ≡ c.index-lemmas-place.result =
    lemma_found c.all_elements.new.cx.lemmas c.in_ok-place.place m.at.lemma
    c.index-lemmas-place.result m.at.there (c.index-lemmas-place.is
    ∙ ap (λ (ts : List Theorem). get_or ts c.in_ok-place.place c.index-lemmas-place.result)
    c.lemmas.ensures) in
    if_ok_two c.use_lemma.result
    (λ thm is by. made_stays c.all_elements.new.cx c.args.symbol.0 c.in_ok-place.place
    (plain_patterns c.args.args.now) c.in_ok-made.made.images.items
    c.in_ok-made.made.proofs.items m thm
    (is
    ∙ ap (λ (qs : List Pattern). instance qs c.index-lemmas-place.result.conclusion)
    c.deref.ensures.value
    ∙ ap (λ (l : Theorem). instance c.in_ok-made.made.images.items l.conclusion) (sym found))
    (subst (λ (l : Theorem).
    IsByLemma l c.in_ok-made.made.images.items c.in_ok-made.made.proofs.items thm)
    (sym found)
    (subst (λ (qs : List Pattern).
    IsByLemma c.index-lemmas-place.result qs c.in_ok-made.made.proofs.items thm)
    c.deref.ensures.value
    (subst (λ (ts : List Theorem). IsByLemma c.index-lemmas-place.result c.deref.result.now ts thm)
    c.deref-2.ensures.value by))))
    c.use_lemma.ensures.conclusion c.use_lemma.ensures.lemma

pub element-injected-requires : goal.element-injected-requires
element-injected-requires t c =
    let is : plain_pattern c.args.pat.now ≡ injection c.in-Inj.from.0 c.in-Inj.to.0
    (plain_pattern c.in-Inj.below.value) =
    ap plain_pattern c.in-Inj.is ∙ plain-Inj _ _ _ in
    let is' : plain_pattern c.args.pat.now ≡ injection c.in-Inj.from.0 c.in-Inj.to.0
    (plain_pattern c.deref-in-Inj.result.now) =
    is
    ∙ ap (λ (p : RulePat). injection c.in-Inj.from.0 c.in-Inj.to.0 (plain_pattern p))
    (sym c.deref-in-Inj.ensures) in
    let high : depth (plain_pattern c.args.pat.now) ≡ depth
    (plain_pattern c.deref-in-Inj.result.now) + 1 =
    ap depth is' in (
      omega (arith, high, c.decreases),
      (
        c.requires.signature,
        (
          subst (λ (p : RulePattern). IsSorted c.args.cx.now.program.sig p) is' c.requires.sorted,
          subst (λ (p : RulePattern). IsGround p) is' c.requires.ground,
        ),
      ),
    )

pub element-returns-in-Inj-clause-says : goal.element-returns-in-Inj-clause-says
element-returns-in-Inj-clause-says t c =
    let is : plain_pattern c.args.pat.now ≡ injection c.in-Inj.from.0 c.in-Inj.to.0
    (plain_pattern c.in-Inj.below.value) =
    ap plain_pattern c.in-Inj.is ∙ plain-Inj _ _ _ in
    let is' : plain_pattern c.args.pat.now ≡ injection c.in-Inj.from.0 c.in-Inj.to.0
    (plain_pattern c.deref-in-Inj.result.now) =
    is
    ∙ ap (λ (p : RulePat). injection c.in-Inj.from.0 c.in-Inj.to.0 (plain_pattern p))
    (sym c.deref-in-Inj.ensures) in
    if_ok c.injected.result
    (λ thm says.
    subst (λ (p : RulePattern). IsElement c.injected.new.cx p thm.conclusion) (sym is') says)
    c.injected.ensures.says

pub injected-injection-requires : goal.injected-injection-requires
injected-injection-requires t c =
    injects_below c.args.cx.now.program.sig c.args.from.0 c.args.to.0
    (plain_pattern c.args.below.now) c.requires.signature c.requires.sorted

pub injected-element-requires : goal.injected-element-requires
injected-element-requires t c =
    let back : c.args.cx.now.program ≡ c.injection.new.self.program =
    sym c.in_ok-place.ensures.grown.program in (
      omega (arith, c.decreases),
      (
        subst (λ (program : Program). IsSignature program.sig) back c.requires.signature,
        (
          subst (λ (program : Program). IsSorted program.sig (plain_pattern c.args.below.now)) back
              (below_sorted c.args.cx.now.program.sig c.args.from.0 c.args.to.0
              (plain_pattern c.args.below.now) c.requires.sorted),
          c.requires.ground,
        ),
      ),
    )

pub injected-cited-requires : goal.injected-cited-requires
injected-cited-requires t c =
    let m : IsInjectedElement c.element.new.cx c.args.from.0 c.args.to.0 c.in_ok-place.place
    (plain_pattern c.args.below.now) c.in_ok-proof.proof =
    injected_from c.args.cx.now c.injection.new.self c.element.new.cx c.args.from.0 c.args.to.0
    c.in_ok-place.place (plain_pattern c.args.below.now) c.in_ok-proof.proof
    c.in_ok-place.ensures.grown c.in_ok-proof.ensures.grown c.in_ok-place.ensures.lemma
    c.requires.sorted c.in_ok-proof.ensures.says c.in_ok-proof.ensures.no_hypotheses
    c.in_ok-proof.ensures.stays in
    let found : m.at.lemma ≡ c.index-lemmas-place.result =
    lemma_found c.element.new.cx.lemmas c.in_ok-place.place m.at.lemma
    c.index-lemmas-place.result m.at.there (c.index-lemmas-place.is
    ∙ ap (λ (ts : List Theorem). get_or ts c.in_ok-place.place c.index-lemmas-place.result)
    c.lemmas.ensures) in (
      m.at.is.ends.symbol,
      m.at.is.ends.lower,
      m.at.is.ends.upper,
      m.image,
      subst (λ (l : Theorem). Cites m.at.is.ends.symbol m.at.is.ends.lower m.at.is.ends.upper
          m.image l c.in_ok-proof.proof) found (injected_cites c.element.new.cx c.args.from.0
          c.args.to.0 c.in_ok-place.place (plain_pattern c.args.below.now) c.in_ok-proof.proof m),
    )

pub injected-returns-clause-says : goal.injected-returns-clause-says
injected-returns-clause-says t c =
    let m : IsInjectedElement c.element.new.cx c.args.from.0 c.args.to.0 c.in_ok-place.place
    (plain_pattern c.args.below.now) c.in_ok-proof.proof =
    injected_from c.args.cx.now c.injection.new.self c.element.new.cx c.args.from.0 c.args.to.0
    c.in_ok-place.place (plain_pattern c.args.below.now) c.in_ok-proof.proof
    c.in_ok-place.ensures.grown c.in_ok-proof.ensures.grown c.in_ok-place.ensures.lemma
    c.requires.sorted c.in_ok-proof.ensures.says c.in_ok-proof.ensures.no_hypotheses
    c.in_ok-proof.ensures.stays in
    let found : m.at.lemma ≡ c.index-lemmas-place.result =
    lemma_found c.element.new.cx.lemmas c.in_ok-place.place m.at.lemma
    c.index-lemmas-place.result m.at.there (c.index-lemmas-place.is
    ∙ ap (λ (ts : List Theorem). get_or ts c.in_ok-place.place c.index-lemmas-place.result)
    c.lemmas.ensures) in
    if_ok c.cited.result
    (λ thm from. injected_says c.element.new.cx c.args.from.0 c.args.to.0 c.in_ok-place.place
    (plain_pattern c.args.below.now) c.in_ok-proof.proof m thm
    (subst (λ (l : Theorem). CitedFrom l c.in_ok-proof.proof thm) (sym found) from))
    c.cited.ensures.conclusion

pub injected-returns-clause-no_hypotheses : goal.injected-returns-clause-no_hypotheses
injected-returns-clause-no_hypotheses t c =
    let m : IsInjectedElement c.element.new.cx c.args.from.0 c.args.to.0 c.in_ok-place.place
    (plain_pattern c.args.below.now) c.in_ok-proof.proof =
    injected_from c.args.cx.now c.injection.new.self c.element.new.cx c.args.from.0 c.args.to.0
    c.in_ok-place.place (plain_pattern c.args.below.now) c.in_ok-proof.proof
    c.in_ok-place.ensures.grown c.in_ok-proof.ensures.grown c.in_ok-place.ensures.lemma
    c.requires.sorted c.in_ok-proof.ensures.says c.in_ok-proof.ensures.no_hypotheses
    c.in_ok-proof.ensures.stays in
    let found : m.at.lemma ≡ c.index-lemmas-place.result =
    lemma_found c.element.new.cx.lemmas c.in_ok-place.place m.at.lemma
    c.index-lemmas-place.result m.at.there (c.index-lemmas-place.is
    ∙ ap (λ (ts : List Theorem). get_or ts c.in_ok-place.place c.index-lemmas-place.result)
    c.lemmas.ensures) in
    if_ok c.cited.result
    (λ thm by. injected_assumes_nothing c.element.new.cx c.args.from.0 c.args.to.0
    c.in_ok-place.place (plain_pattern c.args.below.now) c.in_ok-proof.proof m thm
    (subst (λ (l : Theorem). CitedBy l c.in_ok-proof.proof thm) (sym found) by))
    c.cited.ensures.by

pub injected-returns-clause-stays : goal.injected-returns-clause-stays
injected-returns-clause-stays t c =
    let m : IsInjectedElement c.element.new.cx c.args.from.0 c.args.to.0 c.in_ok-place.place
    (plain_pattern c.args.below.now) c.in_ok-proof.proof =
    injected_from c.args.cx.now c.injection.new.self c.element.new.cx c.args.from.0 c.args.to.0
    c.in_ok-place.place (plain_pattern c.args.below.now) c.in_ok-proof.proof
    c.in_ok-place.ensures.grown c.in_ok-proof.ensures.grown c.in_ok-place.ensures.lemma
    c.requires.sorted c.in_ok-proof.ensures.says c.in_ok-proof.ensures.no_hypotheses
    c.in_ok-proof.ensures.stays in
    let found : m.at.lemma ≡ c.index-lemmas-place.result =
    lemma_found c.element.new.cx.lemmas c.in_ok-place.place m.at.lemma
    c.index-lemmas-place.result m.at.there (c.index-lemmas-place.is
    ∙ ap (λ (ts : List Theorem). get_or ts c.in_ok-place.place c.index-lemmas-place.result)
    c.lemmas.ensures) in
    if_ok_two c.cited.result
    (λ thm from by. injected_stays c.element.new.cx c.args.from.0 c.args.to.0 c.in_ok-place.place
    (plain_pattern c.args.below.now) c.in_ok-proof.proof m thm
    (subst (λ (l : Theorem). CitedFrom l c.in_ok-proof.proof thm) (sym found) from)
    (subst (λ (l : Theorem). CitedBy l c.in_ok-proof.proof thm) (sym found) by))
    c.cited.ensures.conclusion c.cited.ensures.by
