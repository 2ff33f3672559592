use Rattle.std.proofs.Common.{◌≡◌, ◌∙◌, length, sym, ap}
use Rattle.ml_pat.specs.Patterns.{equal}
use Rattle.prove_term.proofs.ResultLaws.{if_ok}
use Rattle.prove_term.proofs.EqualityLaws.{four, app_closed, app_proved, app_says}
use Rattle.prove_term.proofs.EqualityLaws.{app_stays}
use Rattle.prove_term.proofs.equalities.cong_app.Goals as goal

pub sides-requires : goal.sides-requires
sides-requires c =
    let known = c.requires.function in
    (known.0, known.1.0, c.conclusion.ensures ∙ known.1.1.0)

pub sides-requires-2 : goal.sides-requires-2
sides-requires-2 c =
    let known = c.requires.argument in
    (known.0, known.1.0, c.conclusion-2.ensures ∙ known.1.1.0)

pub by_lemma-requires-clause-enough : goal.by_lemma-requires-clause-enough
by_lemma-requires-clause-enough c =
    ap length (c.deref.ensures.value ∙ c.in_ok-images.ensures)

pub by_lemma-requires-clause-closed : goal.by_lemma-requires-clause-closed
by_lemma-requires-clause-closed c =
    let is : c.args.f.now.conclusion ≡ equal c.sides.result.0.now c.sides.result.1.now =
    sym c.conclusion.ensures ∙ c.sides.ensures in
    let is' : c.args.a.now.conclusion ≡ equal c.sides-2.result.0.now c.sides-2.result.1.now =
    sym c.conclusion-2.ensures ∙ c.sides-2.ensures in
    let all : c.deref.result.now ≡ four c.sides.result.0.now c.sides.result.1.now
    c.sides-2.result.0.now c.sides-2.result.1.now =
    c.deref.ensures.value ∙ c.in_ok-images.ensures in
    app_closed c.args.f.now c.args.a.now c.sides.result.0.now c.sides.result.1.now
    c.sides-2.result.0.now c.sides-2.result.1.now c.deref.result.now
    all is is' c.requires.function c.requires.argument

pub by_lemma-requires-clause-proved : goal.by_lemma-requires-clause-proved
by_lemma-requires-clause-proved c =
    let is : c.args.f.now.conclusion ≡ equal c.sides.result.0.now c.sides.result.1.now =
    sym c.conclusion.ensures ∙ c.sides.ensures in
    let is' : c.args.a.now.conclusion ≡ equal c.sides-2.result.0.now c.sides-2.result.1.now =
    sym c.conclusion-2.ensures ∙ c.sides-2.ensures in
    let all : c.deref.result.now ≡ four c.sides.result.0.now c.sides.result.1.now
    c.sides-2.result.0.now c.sides-2.result.1.now =
    c.deref.ensures.value ∙ c.in_ok-images.ensures in
    app_proved c.args.f.now c.args.a.now c.sides.result.0.now c.sides.result.1.now
    c.sides-2.result.0.now c.sides-2.result.1.now c.deref.result.now
    all is is'

pub returns-clause-conclusion : goal.returns-clause-conclusion
returns-clause-conclusion c =
    let is : c.args.f.now.conclusion ≡ equal c.sides.result.0.now c.sides.result.1.now =
    sym c.conclusion.ensures ∙ c.sides.ensures in
    let is' : c.args.a.now.conclusion ≡ equal c.sides-2.result.0.now c.sides-2.result.1.now =
    sym c.conclusion-2.ensures ∙ c.sides-2.ensures in
    let all : c.deref.result.now ≡ four c.sides.result.0.now c.sides.result.1.now
    c.sides-2.result.0.now c.sides-2.result.1.now =
    c.deref.ensures.value ∙ c.in_ok-images.ensures in
    if_ok c.by_lemma.result
    (λ t says. app_says c.args.f.now c.args.a.now t c.sides.result.0.now c.sides.result.1.now
    c.sides-2.result.0.now c.sides-2.result.1.now
    c.deref.result.now all is is' says)
    c.by_lemma.ensures.conclusion

pub returns-clause-stays : goal.returns-clause-stays
returns-clause-stays c =
    let is : c.args.f.now.conclusion ≡ equal c.sides.result.0.now c.sides.result.1.now =
    sym c.conclusion.ensures ∙ c.sides.ensures in
    let is' : c.args.a.now.conclusion ≡ equal c.sides-2.result.0.now c.sides-2.result.1.now =
    sym c.conclusion-2.ensures ∙ c.sides-2.ensures in
    let all : c.deref.result.now ≡ four c.sides.result.0.now c.sides.result.1.now
    c.sides-2.result.0.now c.sides-2.result.1.now =
    c.deref.ensures.value ∙ c.in_ok-images.ensures in
    if_ok c.by_lemma.result
    (λ t stays. app_stays c.by_lemma.new.cx c.args.f.now c.args.a.now t c.sides.result.0.now c.sides.result.1.now
    c.sides-2.result.0.now c.sides-2.result.1.now
    c.deref.result.now all is is' stays)
    c.by_lemma.ensures.stays
