use Rattle.std.proofs.Common.{◌≡◌, ◌+◌, ◌-◌, length, sym, ◌∙◌, ap, arith}
use Rattle.ml_pat.specs.PatternView.{pattern_of}
use Rattle.prove_schema.proofs.UsingLaws.{some_theorems, negation_last, negation_before}
use Rattle.prove_schema.proofs.UsingLaws.{negation_only}
use Rattle.prove_schema.proofs.using.negation.Goals as goal

pub nth-last-requires : goal.nth-last-requires
nth-last-requires c = omega (arith, some_theorems c.args.theorems.now c.requires)

pub returns-in-Not : goal.returns-in-Not
returns-in-Not c =
    let last : length c.args.theorems.now - 1 + 1 ≡ length c.args.theorems.now =
    omega (arith, some_theorems c.args.theorems.now c.requires) in
    negation_last c.args.theorems.now (length c.args.theorems.now - 1) c.nth-last.result.now
    c.in-Not.field-0 c.nth-last.ensures last
    (sym c.conclusion.ensures ∙ sym c.form.ensures ∙ ap pattern_of c.in-Not.is)

pub nth-requires : goal.nth-requires
nth-requires c =
    omega (arith, some_theorems c.args.theorems.now c.requires)

pub returns-in_default : goal.returns-in_default
returns-in_default c =
    let last : length c.args.theorems.now - 1 + 1 ≡ length c.args.theorems.now =
    omega (arith, some_theorems c.args.theorems.now c.requires) in
    let before : c.requires.0 + 2 ≡ length c.args.theorems.now =
    negation_before c.args.theorems.now (length c.args.theorems.now - 1) c.nth-last.result.now
    c.form.result.now c.requires.0 c.nth-last.ensures last
    (sym c.conclusion.ensures ∙ sym c.form.ensures) c.in_default.not-Not c.requires.1 in
    let place : length c.args.theorems.now - 2 + 2 ≡ length c.args.theorems.now =
    omega (arith, before) in
    negation_only c.args.theorems.now (length c.args.theorems.now - 1) c.nth-last.result.now
    c.nth.result.now c.form.result.now (length c.args.theorems.now - 2) c.nth-last.ensures last
    (sym c.conclusion.ensures ∙ sym c.form.ensures) c.in_default.not-Not place c.nth.ensures
