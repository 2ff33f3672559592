use Rattle.std.proofs.Common.{rules, ◌≡◌, ◌+◌, List, [], ◌∷◌, ◌++◌, length, Option}
use Rattle.std.proofs.Common.{refl, sym, ◌∙◌, ap, subst, arith}
use Rattle.ml_pat.specs.Patterns.{imp, and, bot}
use Rattle.ml_pat.specs.Judgements.{IsPredicate}
use Rattle.ml_kernel.specs.Theorems.{Theorem}
use Rattle.ml_derived.specs.Scopes.{IsOver}
use Rattle.term_core.specs.RulePatterns.{sort_numbers}
use Rattle.refute.proofs.WeakFacts.{AreWeakened, one_weakened, linked_fact, item_at, weak_given}
use Rattle.refute.proofs.WeakFacts.{weak_has}
use Rattle.refute.proofs.supposing.denying.Goals as goal

pub weakened-requires : goal.weakened-requires
weakened-requires c =
    let all : length c.deref-fact-items.result.now ≡ length c.args.given.now.facts.items =
    ap length c.deref-fact-items.ensures.value in
    linked_fact c.args.cx.now (sort_numbers c.args.sorts.now) c.args.given.now
    (and c.args.given.now.hypothesis c.in_ok-denial.denial) c.in_ok-weaker.weaker
    c.loop-fact.fact-index c.fact-item.result c.requires.given c.in_ok-weaker.ensures.conclusion
    (item_at c.deref-fact-items.result.now c.args.given.now.facts.items c.loop-fact.fact-index
    c.fact-item.result c.deref-fact-items.ensures.value
    (omega (arith, c.loop-fact-test.true, all)) c.fact-item.is)

pub loop-fact-preserved : goal.loop-fact-preserved
loop-fact-preserved c =
    let all : length c.deref-fact-items.result.now ≡ length c.args.given.now.facts.items =
    ap length c.deref-fact-items.ensures.value in
    let items : c.push.new.self.items
    ≡ c.loop-fact.facts.items ++ c.in_ok-weakened.field-0 ∷ [] = search rules in
    subst (λ (os : List (Option Theorem)). AreWeakened c.in_ok-weaker.weaker
    c.args.given.now.facts.items os (c.loop-fact.fact-index + 1)) (sym items)
    (one_weakened c.in_ok-weaker.weaker c.args.given.now.facts.items c.loop-fact.facts.items
    c.loop-fact.fact-index c.fact-item.result c.in_ok-weakened.field-0 c.loop-fact.invariant
    (item_at c.deref-fact-items.result.now c.args.given.now.facts.items c.loop-fact.fact-index
    c.fact-item.result c.deref-fact-items.ensures.value
    (omega (arith, c.loop-fact-test.true, all)) c.fact-item.is)
    c.in_ok-weakened.ensures)

pub returns-clause-given : goal.returns-clause-given
returns-clause-given c =
    let denial : c.in_ok-denial.denial ≡ imp c.args.equation.now bot =
    c.in_ok-denial.ensures ∙ ap (imp c.args.equation.now) c.in_ok-bot.ensures in
    weak_given c.args.cx.now (sort_numbers c.args.sorts.now) c.args.given.now
    (record { hypothesis = c.in_ok-hypothesis.hypothesis; facts = c.loop-fact.facts })
    c.in_ok-denial.denial c.in_ok-weaker.weaker c.loop-fact.fact-index c.requires.given
    (subst IsPredicate (sym denial) (rw (c.requires.predicate) refl))
    (λ s has. subst (IsOver s) (sym denial) (c.requires.over s has, tt))
    c.in_ok-weaker.ensures.conclusion c.in_ok-weaker.ensures.stays c.in_ok-hypothesis.ensures
    c.loop-fact.invariant

pub returns-clause-facts : goal.returns-clause-facts
returns-clause-facts c x has =
    let all : length c.deref-fact-items.result.now ≡ length c.args.given.now.facts.items =
    ap length c.deref-fact-items.ensures.value in
    weak_has c.in_ok-weaker.weaker c.args.given.now
    (record { hypothesis = c.in_ok-hypothesis.hypothesis; facts = c.loop-fact.facts })
    c.loop-fact.fact-index x c.loop-fact.invariant
    (omega (arith, c.loop-fact-test.false, c.loop-fact.auto.fact-index-end, all)) has
