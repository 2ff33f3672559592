use Rattle.std.proofs.Common.{[], ◌∷◌, List, false, subst, sym, ◌∙◌, length}
use Rattle.ml_kernel.specs.Theorems.{Theorem, conclusions}
use Rattle.ml_derived.specs.Scopes.{StaysWithin}
use Rattle.term_core.specs.RulePatterns.{plain_pattern, sort_numbers}
use Rattle.prove_term.specs.Contexts.{HasGrown}
use Rattle.prove_term.proofs.ContextLaws.{grown_twice}
use Rattle.prove_term.proofs.InjectionSteps.{length-numbers}
use Rattle.prove_term.proofs.ResultLaws.{if_ok_two}
use Rattle.prove_open.specs.Elements.{IsReady}
use Rattle.prove_open.specs.Instances.{IsForPatterns, HoldsOfPatterns}
use Rattle.prove_open.proofs.GatheringLaws.{ready_grown}
use Rattle.prove_open.proofs.FactsTaken.{IsPrepared, IsOnSides, prepared_images, prepared_sides}
use Rattle.prove_open.proofs.FactsTaken.{for_sides, under_sides, first_sided, second_sided}
use Rattle.prove_open.proofs.differences.unequal_under.Goals as goal

pub both_facts-requires-clause-ready : goal.both_facts-requires-clause-ready
both_facts-requires-clause-ready c = c.requires.ready

pub both_facts-requires-clause-left : goal.both_facts-requires-clause-left
both_facts-requires-clause-left c = (c.requires.clash.covered.0, c.requires.clash.covered.1)

pub both_facts-requires-clause-right : goal.both_facts-requires-clause-right
both_facts-requires-clause-right c = (c.requires.clash.covered.0, c.requires.clash.covered.2)

pub both_facts-requires-clause-first_side : goal.both_facts-requires-clause-first_side
both_facts-requires-clause-first_side c =
    first_sided c.args.cx.now.program.sig (sort_numbers c.args.sorts.now) c.args.given.now
    (plain_pattern c.args.left.now) (plain_pattern c.args.right.now) false c.requires.clash

pub both_facts-requires-clause-second_side : goal.both_facts-requires-clause-second_side
both_facts-requires-clause-second_side c =
    second_sided c.args.cx.now.program.sig (sort_numbers c.args.sorts.now) c.args.given.now
    (plain_pattern c.args.left.now) (plain_pattern c.args.right.now) false
    c.is_injection-deep.result c.requires.clash c.is_injection-deep.ensures

pub side_of-requires : goal.side_of-requires
side_of-requires c =
    first_sided c.args.cx.now.program.sig (sort_numbers c.args.sorts.now) c.args.given.now
    (plain_pattern c.args.left.now) (plain_pattern c.args.right.now) false c.requires.clash

pub side_of-requires-2 : goal.side_of-requires-2
side_of-requires-2 c =
    second_sided c.args.cx.now.program.sig (sort_numbers c.args.sorts.now) c.args.given.now
    (plain_pattern c.args.left.now) (plain_pattern c.args.right.now) false
    c.is_injection-deep.result c.requires.clash c.is_injection-deep.ensures

pub unequal_from-requires : goal.unequal_from-requires
unequal_from-requires c =
    let prepared : IsPrepared c.args.cx.now c.both_facts.new.cx (sort_numbers c.args.sorts.now)
    c.args.given.now (plain_pattern c.args.left.now) (plain_pattern c.args.right.now)
    c.is_injection-deep.result c.in_ok-found.found.1 c.in_ok-found.found.0.items
    (plain_pattern c.in_ok-one.one) (plain_pattern c.in_ok-other.other) =
    record {
      ready = c.requires.ready;
      clash = c.requires.clash;
      grown = c.in_ok-found.ensures.grown;
      deep_is = c.is_injection-deep.ensures;
      facts = c.in_ok-found.ensures.have;
      few = c.in_ok-found.ensures.few;
      left_is = c.in_ok-one.ensures;
      right_is = c.in_ok-other.ensures;
    } in
    prepared_images c.args.cx.now c.both_facts.new.cx (sort_numbers c.args.sorts.now)
    c.args.given.now (plain_pattern c.args.left.now) (plain_pattern c.args.right.now)
    c.is_injection-deep.result c.in_ok-found.found.1 c.in_ok-found.found.0.items
    (plain_pattern c.in_ok-one.one) (plain_pattern c.in_ok-other.other) prepared

pub at_patterns-requires : goal.at_patterns-requires
at_patterns-requires c =
    let prepared : IsPrepared c.args.cx.now c.both_facts.new.cx (sort_numbers c.args.sorts.now)
    c.args.given.now (plain_pattern c.args.left.now) (plain_pattern c.args.right.now)
    c.is_injection-deep.result c.in_ok-found.found.1 c.in_ok-found.found.0.items
    (plain_pattern c.in_ok-one.one) (plain_pattern c.in_ok-other.other) =
    record {
      ready = c.requires.ready;
      clash = c.requires.clash;
      grown = c.in_ok-found.ensures.grown;
      deep_is = c.is_injection-deep.ensures;
      facts = c.in_ok-found.ensures.have;
      few = c.in_ok-found.ensures.few;
      left_is = c.in_ok-one.ensures;
      right_is = c.in_ok-other.ensures;
    } in
    let on : IsOnSides c.unequal_from.new.self c.args.given.now.hypothesis
    (length (sort_numbers c.args.sorts.now)) (plain_pattern c.args.left.now)
    (plain_pattern c.args.right.now) c.in_ok-stated.stated.conclusion
    c.in_ok-found.found.0.items =
    prepared_sides c.args.cx.now c.both_facts.new.cx c.unequal_from.new.self
    (sort_numbers c.args.sorts.now) c.args.given.now (plain_pattern c.args.left.now)
    (plain_pattern c.args.right.now) c.is_injection-deep.result c.in_ok-found.found.1
    c.in_ok-first_new.field-0 c.in_ok-found.found.0.items (plain_pattern c.in_ok-one.one)
    (plain_pattern c.in_ok-other.other) c.in_ok-stated.stated prepared
    c.in_ok-stated.ensures.grown
    (c.in_ok-first_new.ensures ∙ sym (length-numbers c.args.sorts.now))
    c.in_ok-stated.ensures.says c.in_ok-stated.ensures.stays in
    subst (λ (ts : List Theorem). IsForPatterns c.args.given.now.hypothesis
    c.in_ok-stated.stated.conclusion (conclusions ts)) (sym c.deref.ensures.value)
    (for_sides c.unequal_from.new.self c.args.given.now.hypothesis
    (length (sort_numbers c.args.sorts.now)) (plain_pattern c.args.left.now)
    (plain_pattern c.args.right.now) c.in_ok-stated.stated.conclusion
    c.in_ok-found.found.0.items on)

pub returns-clause-is : goal.returns-clause-is
returns-clause-is c =
    let prepared : IsPrepared c.args.cx.now c.both_facts.new.cx (sort_numbers c.args.sorts.now)
    c.args.given.now (plain_pattern c.args.left.now) (plain_pattern c.args.right.now)
    c.is_injection-deep.result c.in_ok-found.found.1 c.in_ok-found.found.0.items
    (plain_pattern c.in_ok-one.one) (plain_pattern c.in_ok-other.other) =
    record {
      ready = c.requires.ready;
      clash = c.requires.clash;
      grown = c.in_ok-found.ensures.grown;
      deep_is = c.is_injection-deep.ensures;
      facts = c.in_ok-found.ensures.have;
      few = c.in_ok-found.ensures.few;
      left_is = c.in_ok-one.ensures;
      right_is = c.in_ok-other.ensures;
    } in
    let on : IsOnSides c.unequal_from.new.self c.args.given.now.hypothesis
    (length (sort_numbers c.args.sorts.now)) (plain_pattern c.args.left.now)
    (plain_pattern c.args.right.now) c.in_ok-stated.stated.conclusion
    c.in_ok-found.found.0.items =
    prepared_sides c.args.cx.now c.both_facts.new.cx c.unequal_from.new.self
    (sort_numbers c.args.sorts.now) c.args.given.now (plain_pattern c.args.left.now)
    (plain_pattern c.args.right.now) c.is_injection-deep.result c.in_ok-found.found.1
    c.in_ok-first_new.field-0 c.in_ok-found.found.0.items (plain_pattern c.in_ok-one.one)
    (plain_pattern c.in_ok-other.other) c.in_ok-stated.stated prepared
    c.in_ok-stated.ensures.grown
    (c.in_ok-first_new.ensures ∙ sym (length-numbers c.args.sorts.now))
    c.in_ok-stated.ensures.says c.in_ok-stated.ensures.stays in
    let g : HasGrown c.args.cx.now c.unequal_from.new.self =
    grown_twice c.args.cx.now c.both_facts.new.cx c.unequal_from.new.self
    c.in_ok-found.ensures.grown c.in_ok-stated.ensures.grown in
    let ready : IsReady c.unequal_from.new.self (sort_numbers c.args.sorts.now)
    c.args.given.now =
    ready_grown c.args.cx.now c.unequal_from.new.self (sort_numbers c.args.sorts.now)
    c.args.given.now g c.requires.ready in
    if_ok_two c.at_patterns.result
    (λ made holds stays. under_sides c.unequal_from.new.self c.args.given.now.hypothesis
    (length (sort_numbers c.args.sorts.now)) (plain_pattern c.args.left.now)
    (plain_pattern c.args.right.now) c.in_ok-stated.stated made c.in_ok-found.found.0.items on
    ready.given.over c.in_ok-stated.ensures.stays
    (subst (λ (ts : List Theorem). HoldsOfPatterns c.args.given.now.hypothesis
    c.in_ok-stated.stated.conclusion (conclusions ts) made.conclusion) c.deref.ensures.value
    holds)
    (subst (λ (ts : List Theorem). StaysWithin (c.args.given.now.hypothesis ∷ [])
    (c.in_ok-stated.stated ∷ ts) made) c.deref.ensures.value stays))
    c.at_patterns.ensures.conclusion c.at_patterns.ensures.stays

pub returns-clause-grown : goal.returns-clause-grown
returns-clause-grown c =
    grown_twice c.args.cx.now c.both_facts.new.cx c.unequal_from.new.self
    c.in_ok-found.ensures.grown c.in_ok-stated.ensures.grown
