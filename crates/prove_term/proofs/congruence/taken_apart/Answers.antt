use Rattle.std.proofs.Common.{◌≡◌, ◌+◌, List, [], ◌∷◌, ◌++◌, reverse, sym, ◌∙◌, ap, subst, arith}
use Rattle.ml_pat.specs.Patterns.{Pattern}
use Rattle.prove_term.proofs.ApplicationLaws.{IsTaken, taken_none, taken_halves, taken_next}
use Rattle.prove_term.proofs.ApplicationLaws.{taken_all}
use Rattle.prove_term.proofs.congruence.taken_apart.Goals as goal

pub loop-i-init : goal.loop-i-init
loop-i-init c =
    subst (λ (taken : List Pattern). IsTaken c.args.image.now c.args.image.now taken 0 c.args.count)
    (sym c.in_ok-arguments.ensures.items)
    (taken_none c.args.image.now c.requires.0 c.requires.1 c.args.count c.requires.2 c.requires.3)

pub halves-requires : goal.halves-requires
halves-requires c =
    taken_halves c.args.image.now c.loop-i.rest.now c.loop-i.arguments.items c.loop-i.i c.args.count
    c.loop-i.invariant c.loop-i-test.true

pub loop-i-preserved : goal.loop-i-preserved
loop-i-preserved c =
    let items : c.push.new.self.items ≡ c.loop-i.arguments.items ++ c.halves.result.1.now ∷ [] =
    c.in_ok-push.ensures.items
    ∙ ap (λ (q : Pattern). c.loop-i.arguments.items ++ q ∷ []) c.in_ok-share.ensures in
    subst (λ (taken : List Pattern).
    IsTaken c.args.image.now c.halves.result.0.now taken (c.loop-i.i + 1) c.args.count)
    (sym items)
    (taken_next c.args.image.now c.loop-i.rest.now c.halves.result.0.now c.halves.result.1.now
    c.loop-i.arguments.items c.loop-i.i c.args.count c.loop-i.invariant c.loop-i-test.true
    c.halves.ensures)

pub returns : goal.returns
returns c = λ head qs is many.
    let all : c.loop-i.i ≡ c.args.count = omega (arith, c.loop-i-test.false, c.loop-i.auto.i-end) in
    let both : (c.loop-i.rest.now ≡ head) × (reverse c.loop-i.arguments.items ≡ qs) =
    taken_all c.args.image.now c.loop-i.rest.now c.loop-i.arguments.items c.loop-i.i
    c.args.count head qs c.loop-i.invariant all is many in
    (c.in_ok-head.ensures ∙ both.0, c.reverse.ensures.items ∙ both.1)
