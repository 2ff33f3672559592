use Rattle.std.proofs.Common.{sym, ◌∙◌, ap}
use Rattle.ml_pat.specs.PatternView.{pattern_of}
use Rattle.prove_schema.proofs.UsingLaws.{fact_place, given_fact, negation_at, given_negation}
use Rattle.prove_schema.proofs.using.proof.Goals as goal

pub nth-requires : goal.nth-requires
nth-requires c =
    fact_place c.requires.0 c.requires.1 c.args.facts.now c.args.others.now c.args.hypothesis.now
    c.in-Fun.element c.in-Fun.field-1.0 c.number.result c.requires.2 c.requires.3
    (sym c.form.ensures ∙ ap pattern_of c.in-Fun.is) c.number.ensures

pub returns-in-Fun : goal.returns-in-Fun
returns-in-Fun c =
    given_fact c.args.facts.now c.args.others.now c.args.hypothesis.now c.in-Fun.element
    c.in-Fun.field-1.0 c.number.result c.nth.result.now
    (sym c.form.ensures ∙ ap pattern_of c.in-Fun.is) c.number.ensures c.nth.ensures

pub negation-requires : goal.negation-requires
negation-requires c =
    negation_at c.requires.0 c.requires.1 c.args.others.now c.args.hypothesis.now
    c.in-Not.field-0 c.requires.3 (sym c.form.ensures ∙ ap pattern_of c.in-Not.is)

pub returns-in-Not : goal.returns-in-Not
returns-in-Not c =
    given_negation c.args.facts.now c.args.others.now c.args.hypothesis.now c.in-Not.field-0
    c.negation.result.now (sym c.form.ensures ∙ ap pattern_of c.in-Not.is)
    (negation_at c.requires.0 c.requires.1 c.args.others.now c.args.hypothesis.now
    c.in-Not.field-0 c.requires.3 (sym c.form.ensures ∙ ap pattern_of c.in-Not.is))
    c.negation.ensures
