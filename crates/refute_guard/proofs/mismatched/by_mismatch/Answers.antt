use Rattle.std.proofs.Common.{◌≡◌, List, Some, slice_get, sym, ◌∙◌, ap, subst}
use Rattle.std.proofs.lemmas.Option.{slice_get_within}
use Rattle.ml_pat.specs.Patterns.{Pattern, imp, member}
use Rattle.term_core.specs.RulePatterns.{sort_numbers}
use Rattle.term_core.specs.declared.ids.SortId.{SortId}
use Rattle.prove_open.specs.Givens.{IsGiven, all_sorted}
use Rattle.ml_image.specs.Sentences.{sentence_image}
use Rattle.prove_term.proofs.ResultLaws.{if_ok_two}
use Rattle.refute.specs.Refutations.{SaysSentence}
use Rattle.rule_core.specs.ProgramView.{names_of}
use Rattle.rule_core.specs.declared.rules.Named.{Named}
use Rattle.ml_image.specs.NamedSides.{of_child}
use Rattle.guard_body.specs.Arguments.{pattern_of}
use Rattle.refute_guard.specs.Bodies.{variables_of}
use Rattle.guard_body.specs.Guarded.{IsGuarded}
use Rattle.guard_body.proofs.FoundLists.{item_there}
use Rattle.refute_body.proofs.Shapes.{imp_left}
use Rattle.refute.specs.NamedRefutations.{mismatched_named}
use Rattle.refute_guard.proofs.GuardParts.{IsMismatch, IsPlace, body_over, disjoint_at}
use Rattle.refute_guard.proofs.GuardParts.{guarded_grown, mismatch_is, none_said, place_of, three_stay}
use Rattle.refute_guard.proofs.GuardParts.{written_given}
use Rattle.refute_guard.proofs.mismatched.by_mismatch.Goals.{In_ok-none}
use Rattle.refute_guard.proofs.mismatched.by_mismatch.Goals as goal

there : (c : In_ok-none)
    → slice_get c.args.guard.now.arguments.items c.args.place ≡ Some c.index-argument.result.now
there c =
    item_there c.args.guard.now.arguments.items c.args.place c.index-argument.result.now
    (slice_get_within c.args.guard.now.arguments.items c.args.place c.requires.mismatch.0
    c.requires.mismatch.1) c.index-argument.ensures

now : (c : In_ok-none) → IsGuarded c.mismatch_named.new.cx c.requires.guard.0 c.args.guard.now
now c =
    guarded_grown c.args.cx.now c.mismatch_named.new.cx c.requires.guard.0 c.args.guard.now
    c.in_ok-none.ensures.grown c.requires.guard.1

none : (c : In_ok-none) → IsMismatch c.mismatch_named.new.cx
    (sort_numbers c.args.guard.now.sorts.items) c.index-argument.result.now
    c.in_ok-none.none.conclusion
none c =
    mismatch_is c.mismatch_named.new.cx (sort_numbers c.args.guard.now.sorts.items)
    c.index-argument.result.now c.in_ok-none.none.conclusion
    (subst (λ (ns : List Named). SaysSentence c.mismatch_named.new.cx
    (mismatched_named (sort_numbers c.args.guard.now.sorts.items) (of_child 0 (names_of ns))
    (pattern_of c.index-argument.result.now) c.index-argument.result.now.term.now)
    c.in_ok-none.none.conclusion) c.deref-2.ensures.value
    (subst (λ (ss : List SortId). SaysSentence c.mismatch_named.new.cx
    (mismatched_named (sort_numbers ss) (of_child 0 (names_of c.deref-2.result.now))
    (pattern_of c.index-argument.result.now) c.index-argument.result.now.term.now)
    c.in_ok-none.none.conclusion) c.deref.ensures.value c.in_ok-none.ensures.says))

place : (c : In_ok-none) → IsPlace c.mismatch_named.new.cx c.args.guard.now c.args.place
    c.index-argument.result.now
place c =
    place_of c.mismatch_named.new.cx c.requires.guard.0 c.args.guard.now c.args.place
    c.index-argument.result.now (now c) (there c)

pub weaker-requires-clause-given : goal.weaker-requires-clause-given
weaker-requires-clause-given c =
    subst (λ (ss : List SortId). IsGiven c.mismatch_named.new.cx (sort_numbers ss)
    c.args.guard.now.given) (sym c.deref-3.ensures.value)
    (now (goal.at.weaker-requires-clause-given c).In_ok-none).given

pub weaker-requires-clause-hypothesis : goal.weaker-requires-clause-hypothesis
weaker-requires-clause-hypothesis c =
    let at : In_ok-none = (goal.at.weaker-requires-clause-hypothesis c).In_ok-none in
    let m : IsMismatch c.mismatch_named.new.cx (sort_numbers c.args.guard.now.sorts.items)
    c.index-argument.result.now c.in_ok-none.none.conclusion = none at in
    let read : m.h ≡ c.sides.result.0.now =
    imp_left m.h _ c.sides.result.0.now c.sides.result.1.now
    (sym m.says ∙ sym c.conclusion.ensures ∙ c.sides.ensures) in (
      variables_of c.index-argument.result.now,
      ap (λ (ss : List SortId). sentence_image c.mismatch_named.new.cx.program.sig
          c.mismatch_named.new.cx.names
          (all_sorted (sort_numbers ss) (variables_of c.index-argument.result.now)))
          c.deref-3.ensures.value ∙ m.is_h ∙ ap (λ (p : Pattern). Some p) read,
      written_given c.mismatch_named.new.cx c.requires.guard.0 c.args.guard.now c.args.place
          c.index-argument.result.now (now at) (there at),
    )

pub member_at-requires : goal.member_at-requires
member_at-requires c =
    let p : IsPlace c.mismatch_named.new.cx c.args.guard.now c.args.place
    c.index-argument.result.now = place (goal.at.member_at-requires c).In_ok-none in
    (p.condition, p.members, p.is, p.low)

pub none_at-requires : goal.none_at-requires
none_at-requires c =
    let at : In_ok-none = (goal.at.none_at-requires c).In_ok-none in
    let m : IsMismatch c.mismatch_named.new.cx (sort_numbers c.args.guard.now.sorts.items)
    c.index-argument.result.now c.in_ok-none.none.conclusion = none at in
    let p : IsPlace c.mismatch_named.new.cx c.args.guard.now c.args.place
    c.index-argument.result.now = place at in
    let read : m.h ≡ c.sides.result.0.now =
    imp_left m.h _ c.sides.result.0.now c.sides.result.1.now
    (sym m.says ∙ sym c.conclusion.ensures ∙ c.sides.ensures) in
    disjoint_at c.mismatch_named.new.cx (sort_numbers c.args.guard.now.sorts.items)
    c.args.guard.now c.args.place c.index-argument.result.now c.in_ok-none.none.conclusion
    c.in_ok-weaker.weaker.conclusion c.in_ok-inside.inside.conclusion p m
    (c.in_ok-weaker.ensures.says ∙ ap (imp c.args.guard.now.given.hypothesis) (sym read))
    (c.in_ok-inside.ensures.conclusion p.condition (member p.left p.right) p.members p.is p.member)
    (now at).given.predicate

pub returns-clause-says : goal.returns-clause-says
returns-clause-says c =
    let at : In_ok-none = (goal.at.returns-clause-says c).In_ok-none in
    let p : IsPlace c.mismatch_named.new.cx c.args.guard.now c.args.place
    c.index-argument.result.now = place at in
    if_ok_two c.none_at.result
    (λ t says stays. record {
      says =
          none_said c.mismatch_named.new.cx c.args.guard.now c.in_ok-inside.inside.conclusion
          p.left t (λ q r is. says c.args.guard.now.body q r is) p.right p.left
          (c.in_ok-inside.ensures.conclusion p.condition (member p.left p.right) p.members p.is
          p.member);
      stays =
          three_stay c.mismatch_named.new.cx c.args.guard.now.given.hypothesis c.in_ok-none.none
          c.in_ok-weaker.weaker c.in_ok-inside.inside t (now at).given.over
          c.in_ok-none.ensures.stays c.in_ok-weaker.ensures.stays
          (body_over c.mismatch_named.new.cx c.requires.guard.0 c.args.guard.now
          c.in_ok-inside.inside (now at) c.in_ok-inside.ensures.stays) stays;
    })
    c.none_at.ensures.conclusion c.none_at.ensures.stays
