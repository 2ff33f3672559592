use Rattle.std.proofs.Common.{◌≡◌, List, Some, slice_get, sym, ◌∙◌, ap, subst}
use Rattle.std.proofs.lemmas.Option.{slice_get_within}
use Rattle.ml_pat.specs.Patterns.{Pattern, imp, member}
use Rattle.term_core.specs.RulePatterns.{sort_numbers}
use Rattle.term_core.specs.declared.ids.SortId.{SortId}
use Rattle.prove_open.specs.Givens.{IsGiven, all_sorted}
use Rattle.ml_image.specs.Sentences.{sentence_image}
use Rattle.prove_term.proofs.ResultLaws.{if_ok_two}
use Rattle.refute.specs.Refutations.{SaysSentence, all_bound}
use Rattle.rule_core.specs.ProgramView.{names_of}
use Rattle.rule_core.specs.declared.rules.Named.{Named}
use Rattle.ml_image.specs.NamedSides.{of_child}
use Rattle.guard_body.specs.Arguments.{pattern_of}
use Rattle.refute_guard.specs.Bodies.{variables_of}
use Rattle.refute_guard.specs.Repeated.{IsOfBody}
use Rattle.guard_body.specs.Guarded.{IsGuarded}
use Rattle.guard_body.specs.declared.arguments.Argument.{Argument}
use Rattle.guard_body.proofs.FoundLists.{item_there}
use Rattle.refute_body.proofs.Shapes.{and_left, imp_left}
use Rattle.refute.specs.NamedRefutations.{inverted_named}
use Rattle.refute_guard.proofs.GuardParts.{IsInversion, IsPlace, body_over, guarded_grown}
use Rattle.refute_guard.proofs.GuardParts.{inversion_is, inverted_at, inverted_said, place_of}
use Rattle.refute_guard.proofs.GuardParts.{three_stay}
use Rattle.refute_guard.proofs.GuardParts.{written_given}
use Rattle.refute_guard.proofs.bindings.inverted.Goals.{In_ok-rule}
use Rattle.refute_guard.proofs.bindings.inverted.Goals as goal

there : (c : In_ok-rule)
    → slice_get c.args.guard.now.arguments.items c.args.place ≡ Some c.index-argument.result.now
there c =
    item_there c.args.guard.now.arguments.items c.args.place c.index-argument.result.now
    (slice_get_within c.args.guard.now.arguments.items c.args.place c.requires.matches.0
    c.requires.matches.1) c.index-argument.ensures

now : (c : In_ok-rule) → IsGuarded c.inversion_named.new.cx c.requires.guard.0 c.args.guard.now
now c =
    guarded_grown c.args.cx.now c.inversion_named.new.cx c.requires.guard.0 c.args.guard.now
    c.in_ok-rule.ensures.grown c.requires.guard.1

inversion : (c : In_ok-rule) → IsInversion c.inversion_named.new.cx
    (sort_numbers c.args.guard.now.sorts.items) c.args.subst.now c.index-argument.result.now
    c.in_ok-rule.rule.conclusion
inversion c =
    inversion_is c.inversion_named.new.cx (sort_numbers c.args.guard.now.sorts.items)
    c.args.subst.now c.index-argument.result.now c.in_ok-rule.rule.conclusion
    (subst (λ (ns : List Named). SaysSentence c.inversion_named.new.cx
    (inverted_named (sort_numbers c.args.guard.now.sorts.items) c.args.subst.now (of_child 0 (names_of ns))
    (pattern_of c.index-argument.result.now) c.index-argument.result.now.term.now)
    c.in_ok-rule.rule.conclusion) c.deref-2.ensures.value
    (subst (λ (ss : List SortId). SaysSentence c.inversion_named.new.cx
    (inverted_named (sort_numbers ss) c.args.subst.now (of_child 0 (names_of c.deref-2.result.now))
    (pattern_of c.index-argument.result.now) c.index-argument.result.now.term.now)
    c.in_ok-rule.rule.conclusion) c.deref.ensures.value c.in_ok-rule.ensures.says))

place : (c : In_ok-rule) → IsPlace c.inversion_named.new.cx c.args.guard.now c.args.place
    c.index-argument.result.now
place c =
    place_of c.inversion_named.new.cx c.requires.guard.0 c.args.guard.now c.args.place
    c.index-argument.result.now (now c) (there c)

pub weaker-requires-clause-given : goal.weaker-requires-clause-given
weaker-requires-clause-given c =
    subst (λ (ss : List SortId). IsGiven c.inversion_named.new.cx (sort_numbers ss)
    c.args.guard.now.given) (sym c.deref-3.ensures.value)
    (now (goal.at.weaker-requires-clause-given c).In_ok-rule).given

pub weaker-requires-clause-hypothesis : goal.weaker-requires-clause-hypothesis
weaker-requires-clause-hypothesis c =
    let at : In_ok-rule = (goal.at.weaker-requires-clause-hypothesis c).In_ok-rule in
    let m : IsInversion c.inversion_named.new.cx (sort_numbers c.args.guard.now.sorts.items)
    c.args.subst.now c.index-argument.result.now c.in_ok-rule.rule.conclusion = inversion at in
    let read : m.h ≡ c.conjuncts.result.0.now =
    and_left m.h _ c.conjuncts.result.0.now c.conjuncts.result.1.now
    (imp_left _ _ c.sides.result.0.now c.sides.result.1.now
    (sym m.says ∙ sym c.conclusion.ensures ∙ c.sides.ensures) ∙ c.conjuncts.ensures) in (
      variables_of c.index-argument.result.now,
      ap (λ (ss : List SortId). sentence_image c.inversion_named.new.cx.program.sig
          c.inversion_named.new.cx.names
          (all_sorted (sort_numbers ss) (variables_of c.index-argument.result.now)))
          c.deref-3.ensures.value ∙ m.is_h ∙ ap (λ (p : Pattern). Some p) read,
      written_given c.inversion_named.new.cx c.requires.guard.0 c.args.guard.now c.args.place
          c.index-argument.result.now (now at) (there at),
    )

pub member_at-requires : goal.member_at-requires
member_at-requires c =
    let p : IsPlace c.inversion_named.new.cx c.args.guard.now c.args.place
    c.index-argument.result.now = place (goal.at.member_at-requires c).In_ok-rule in
    (p.condition, p.members, p.is, p.low)

pub inverted_at-requires : goal.inverted_at-requires
inverted_at-requires c =
    let at : In_ok-rule = (goal.at.inverted_at-requires c).In_ok-rule in
    let m : IsInversion c.inversion_named.new.cx (sort_numbers c.args.guard.now.sorts.items)
    c.args.subst.now c.index-argument.result.now c.in_ok-rule.rule.conclusion = inversion at in
    let p : IsPlace c.inversion_named.new.cx c.args.guard.now c.args.place
    c.index-argument.result.now = place at in
    let read : m.h ≡ c.conjuncts.result.0.now =
    and_left m.h _ c.conjuncts.result.0.now c.conjuncts.result.1.now
    (imp_left _ _ c.sides.result.0.now c.sides.result.1.now
    (sym m.says ∙ sym c.conclusion.ensures ∙ c.sides.ensures) ∙ c.conjuncts.ensures) in
    inverted_at c.inversion_named.new.cx (sort_numbers c.args.guard.now.sorts.items)
    c.args.subst.now c.args.guard.now c.args.place c.index-argument.result.now c.in_ok-rule.rule.conclusion
    c.in_ok-weaker.weaker.conclusion c.in_ok-inside.inside.conclusion p m
    (c.in_ok-weaker.ensures.says ∙ ap (imp c.args.guard.now.given.hypothesis) (sym read))
    (c.in_ok-inside.ensures.conclusion p.condition (member p.left p.right) p.members p.is p.member)
    (now at).given.predicate

pub returns-clause-says : goal.returns-clause-says
returns-clause-says c =
    let at : In_ok-rule = (goal.at.returns-clause-says c).In_ok-rule in
    let m : IsInversion c.inversion_named.new.cx (sort_numbers c.args.guard.now.sorts.items)
    c.args.subst.now c.index-argument.result.now c.in_ok-rule.rule.conclusion = inversion at in
    let p : IsPlace c.inversion_named.new.cx c.args.guard.now c.args.place
    c.index-argument.result.now = place at in
    if_ok_two c.inverted_at.result
    (λ t says stays a other. subst (λ (b : Argument). IsOfBody c.inversion_named.new.cx
    c.args.guard.now (all_bound c.args.subst.now (variables_of b)) t)
    (some_argument c.index-argument.result.now a (sym (there at) ∙ other)) (record {
      says =
          inverted_said c.inversion_named.new.cx (sort_numbers c.args.guard.now.sorts.items)
          c.args.subst.now c.args.guard.now c.index-argument.result.now
          c.in_ok-rule.rule.conclusion c.in_ok-inside.inside.conclusion t m says
          (member p.left p.right)
          (c.in_ok-inside.ensures.conclusion p.condition (member p.left p.right) p.members p.is
          p.member);
      stays =
          three_stay c.inversion_named.new.cx c.args.guard.now.given.hypothesis c.in_ok-rule.rule
          c.in_ok-weaker.weaker c.in_ok-inside.inside t (now at).given.over
          c.in_ok-rule.ensures.stays c.in_ok-weaker.ensures.stays
          (body_over c.inversion_named.new.cx c.requires.guard.0 c.args.guard.now
          c.in_ok-inside.inside (now at) c.in_ok-inside.ensures.stays) stays;
    }))
    c.inverted_at.ensures.conclusion c.inverted_at.ensures.stays
  where
    some_argument : (x y : Argument) → Some x ≡ Some y → x ≡ y
    some_argument x y e = cc
