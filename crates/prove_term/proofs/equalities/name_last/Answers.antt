use Rattle.std.proofs.Common.{◌≡◌, ◌∙◌, length, sym, ap}
use Rattle.ml_pat.specs.Patterns.{equal}
use Rattle.prove_term.proofs.ResultLaws.{if_ok}
use Rattle.prove_term.proofs.EqualityChains.{two, flip_closed, last_proved, last_says, flip_stays}
use Rattle.prove_term.proofs.equalities.name_last.Goals as goal

pub sides-requires : goal.sides-requires
sides-requires c =
    let known = c.requires in
    (known.0, known.1.0, c.conclusion.ensures ∙ known.1.1.0)

pub by_lemma-requires-clause-enough : goal.by_lemma-requires-clause-enough
by_lemma-requires-clause-enough c =
    ap length (c.deref.ensures.value ∙ c.in_ok-images.ensures)

pub by_lemma-requires-clause-closed : goal.by_lemma-requires-clause-closed
by_lemma-requires-clause-closed c =
    let is : c.args.ab.now.conclusion ≡ equal c.sides.result.0.now c.sides.result.1.now =
    sym c.conclusion.ensures ∙ c.sides.ensures in
    let all : c.deref.result.now ≡ two c.sides.result.0.now c.sides.result.1.now =
    c.deref.ensures.value ∙ c.in_ok-images.ensures in
    flip_closed c.args.ab.now.conclusion c.sides.result.0.now c.sides.result.1.now
    c.deref.result.now all is c.requires

pub by_lemma-requires-clause-proved : goal.by_lemma-requires-clause-proved
by_lemma-requires-clause-proved c =
    let is : c.args.ab.now.conclusion ≡ equal c.sides.result.0.now c.sides.result.1.now =
    sym c.conclusion.ensures ∙ c.sides.ensures in
    let all : c.deref.result.now ≡ two c.sides.result.0.now c.sides.result.1.now =
    c.deref.ensures.value ∙ c.in_ok-images.ensures in
    last_proved c.args.ab.now c.sides.result.0.now c.sides.result.1.now c.deref.result.now all is

pub returns-clause-conclusion : goal.returns-clause-conclusion
returns-clause-conclusion c =
    let is : c.args.ab.now.conclusion ≡ equal c.sides.result.0.now c.sides.result.1.now =
    sym c.conclusion.ensures ∙ c.sides.ensures in
    let all : c.deref.result.now ≡ two c.sides.result.0.now c.sides.result.1.now =
    c.deref.ensures.value ∙ c.in_ok-images.ensures in
    if_ok c.by_lemma.result
    (λ t says. last_says c.args.ab.now.conclusion t.conclusion c.sides.result.0.now
    c.sides.result.1.now c.deref.result.now all is says)
    c.by_lemma.ensures.conclusion

pub returns-clause-stays : goal.returns-clause-stays
returns-clause-stays c =
    let is : c.args.ab.now.conclusion ≡ equal c.sides.result.0.now c.sides.result.1.now =
    sym c.conclusion.ensures ∙ c.sides.ensures in
    let all : c.deref.result.now ≡ two c.sides.result.0.now c.sides.result.1.now =
    c.deref.ensures.value ∙ c.in_ok-images.ensures in
    if_ok c.by_lemma.result
    (λ t stays. flip_stays c.by_lemma.new.cx c.args.ab.now t c.sides.result.0.now
    c.sides.result.1.now c.deref.result.now all is stays)
    c.by_lemma.ensures.stays
