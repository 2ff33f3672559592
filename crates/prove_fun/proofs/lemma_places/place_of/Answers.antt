use Rattle.std.proofs.Common.{ℕ, Option, length, refl, sym, ◌∙◌, ap, subst}
use Rattle.std.specs.Prelude.{IfSome}
use Rattle.rule_core.specs.ProgramView.{function_equation}
use Rattle.prove_term.specs.Contexts.{HasGrown}
use Rattle.prove_term.proofs.ContextLaws.{grown_twice}
use Rattle.prove_fun.specs.KeptLemmas.{IsLemmaAt}
use Rattle.prove_fun.proofs.KeptLaws.{kept_grown, lemma_placed}
use Rattle.prove_fun.proofs.lemma_places.place_of.Goals as goal

pub returns-in-Some-clause-place : goal.returns-in-Some-clause-place
returns-in-Some-clause-place c =
    subst (λ (o : Option ℕ).
    IfSome o (IsLemmaAt c.args.cx.now c.args.equation.now.fun.0 c.args.number))
    (sym c.place.ensures ∙ c.in-Some.is)
    (c.requires.kept.each c.args.equation.now.fun.0 c.args.number)

pub returns-clause-place : goal.returns-clause-place
returns-clause-place c =
    (lemma_placed c.args.cx.now c.equation_lemma.new.cx c.add_lemma.new.self
    c.args.equation.now.fun.0 c.args.number _ (function_equation c.args.equation.now)
    c.in_ok-lemma.lemma c.in_ok-lemma.ensures.grown c.requires.there c.in_ok-lemma.ensures.says
    c.in_ok-add_lemma.ensures.ok (ap length c.lemmas-place.ensures)).1

pub returns-clause-grown : goal.returns-clause-grown
returns-clause-grown c =
    grown_twice c.args.cx.now c.equation_lemma.new.cx c.add_lemma.new.self
    c.in_ok-lemma.ensures.grown
    (lemma_placed c.args.cx.now c.equation_lemma.new.cx c.add_lemma.new.self
    c.args.equation.now.fun.0 c.args.number (length c.equation_lemma.new.cx.lemmas)
    (function_equation c.args.equation.now) c.in_ok-lemma.lemma c.in_ok-lemma.ensures.grown
    c.requires.there c.in_ok-lemma.ensures.says c.in_ok-add_lemma.ensures.ok refl).0

pub returns-clause-kept : goal.returns-clause-kept
returns-clause-kept c =
    let made =
    lemma_placed c.args.cx.now c.equation_lemma.new.cx c.add_lemma.new.self
    c.args.equation.now.fun.0 c.args.number _ (function_equation c.args.equation.now)
    c.in_ok-lemma.lemma c.in_ok-lemma.ensures.grown c.requires.there
    c.in_ok-lemma.ensures.says c.in_ok-add_lemma.ensures.ok
    (ap length c.lemmas-place.ensures) in
    let g : HasGrown c.args.cx.now c.add_lemma.new.self =
    grown_twice c.args.cx.now c.equation_lemma.new.cx c.add_lemma.new.self
    c.in_ok-lemma.ensures.grown made.0 in
    c.keep.ensures c.add_lemma.new.self
    (kept_grown c.args.cx.now c.add_lemma.new.self c.args.kept.now g c.requires.kept) made.1

pub returns-in_err-keep-clause-kept : goal.returns-in_err-keep-clause-kept
returns-in_err-keep-clause-kept c =
    let made =
    lemma_placed c.args.cx.now c.equation_lemma.new.cx c.add_lemma.new.self
    c.args.equation.now.fun.0 c.args.number _ (function_equation c.args.equation.now)
    c.in_ok-lemma.lemma c.in_ok-lemma.ensures.grown c.requires.there
    c.in_ok-lemma.ensures.says c.in_ok-add_lemma.ensures.ok
    (ap length c.lemmas-place.ensures) in
    let g : HasGrown c.args.cx.now c.add_lemma.new.self =
    grown_twice c.args.cx.now c.equation_lemma.new.cx c.add_lemma.new.self
    c.in_ok-lemma.ensures.grown made.0 in
    c.keep.ensures c.add_lemma.new.self
    (kept_grown c.args.cx.now c.add_lemma.new.self c.args.kept.now g c.requires.kept) made.1
