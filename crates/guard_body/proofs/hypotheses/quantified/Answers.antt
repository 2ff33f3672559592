use Rattle.std.proofs.Common.{◌≡◌, ◌<◌, ◌+◌, ◌-◌, ℕ, List, [], ◌∷◌, ◌++◌, length, sym, ◌∙◌, ap}
use Rattle.std.proofs.Common.{subst, arith}
use Rattle.std.specs.Prelude.{All, Contains}
use Rattle.term_core.specs.RulePatterns.{sort_numbers}
use Rattle.ml_image.specs.Sentences.{sentence_image}
use Rattle.prove_open.specs.Givens.{all_sorted}
use Rattle.prove_term.proofs.ResultLaws.{if_ok}
use Rattle.guard_body.specs.Hypotheses.{down_from}
use Rattle.guard_body.proofs.CountedDown.{down_all, down_low, down_more, down_there, down_to}
use Rattle.guard_body.proofs.hypotheses.quantified.Goals.{After-deref}
use Rattle.guard_body.proofs.hypotheses.quantified.Goals as goal

pub loop-i-init : goal.loop-i-init
loop-i-init c =
    let none : c.args.count - c.args.count ≡ 0 = omega arith in
    c.in_ok-variables.ensures.items ∙ ap (λ (n : ℕ). down_to c.args.first n c.args.count) (sym none)

pub loop-i-preserved : goal.loop-i-preserved
loop-i-preserved c =
    let further : c.args.count - c.loop-i.i + 1 ≡ c.args.count - (c.loop-i.i - 1) =
    omega (arith, c.loop-i-test.true, c.loop-i.auto.i) in
    let next : c.loop-i.i ≡ c.loop-i.i - 1 + 1 = omega (arith, c.loop-i-test.true) in
    c.in_ok-push.ensures.items
    ∙ ap (λ (xs : List ℕ). xs ++ (c.args.first + (c.loop-i.i - 1)) ∷ []) (c.loop-i.invariant
    ∙ ap (λ (n : ℕ). down_to c.args.first (c.args.count - c.loop-i.i) n) next)
    ∙ sym (down_more c.args.first (c.args.count - c.loop-i.i) (c.loop-i.i - 1))
    ∙ ap (λ (n : ℕ). down_to c.args.first n (c.loop-i.i - 1)) further

-- all of them
all : (c : After-deref) → c.deref.result.now ≡ down_from c.args.first c.args.count
all c =
    let none : c.loop-i.i ≡ 0 = omega (arith, c.loop-i-test.false) in
    let every : c.args.count - c.loop-i.i ≡ c.args.count = omega (arith, none) in
    c.deref.ensures.value ∙ c.loop-i.invariant
    ∙ ap (λ (n : ℕ). down_to c.args.first n c.loop-i.i) every
    ∙ ap (λ (n : ℕ). down_to c.args.first c.args.count n) none
    ∙ down_all c.args.first c.args.count

pub of-requires-clause-variables : goal.of-requires-clause-variables
of-requires-clause-variables c =
    subst (λ (xs : List ℕ). All (λ x. x < length c.args.sorts.now) xs) (sym (all c))
    (down_low c.args.first c.args.count (length c.args.sorts.now) c.requires.many)

pub returns-clause-hypothesis : goal.returns-clause-hypothesis
returns-clause-hypothesis c =
    if_ok c.of.result
    (λ g is. ap (λ (xs : List ℕ). sentence_image c.of.new.cx.program.sig c.of.new.cx.names
    (all_sorted (sort_numbers c.args.sorts.now) xs))
    (sym (all (goal.at.returns-clause-hypothesis c).After-deref)) ∙ is) c.of.ensures.hypothesis

pub returns-clause-facts : goal.returns-clause-facts
returns-clause-facts c =
    if_ok c.of.result
    (λ g has x low. has (c.args.first + x)
    (subst (λ (xs : List ℕ). Contains xs (c.args.first + x))
    (sym (all (goal.at.returns-clause-facts c).After-deref))
    (down_there c.args.first c.args.count x low))) c.of.ensures.facts
