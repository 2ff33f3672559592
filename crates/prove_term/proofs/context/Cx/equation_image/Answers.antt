use Rattle.std.proofs.Common.{◌≡◌, ◌<◌, List, length, map, subst, sym, ◌∙◌, ap, arith}
use Rattle.std.specs.Prelude.{Vec}
use Rattle.std.specs.Global.{Global}
use Rattle.rule_core.specs.Rules.{Equation}
use Rattle.rule_core.specs.Theories.{equations_of}
use Rattle.rule_core.specs.ProgramView.{function_equation, theory_of}
use Rattle.rule_core.specs.declared.rules.Equation.{Equation as CodeEquation}
use Rattle.ml_image.specs.HasImages.{HasEquationImage}
use Rattle.ml_image.specs.OwnAxioms.{IsEquationFor, SaysEquation}
use Rattle.ml_image.specs.Sentences.{IsImageOf}
use Rattle.prove_term.specs.Contexts.{Context}
use Rattle.prove_term.proofs.ResultLaws.{if_ok}
use Rattle.prove_term.proofs.KeptInside.{kept_gains, grown_gains}
use Rattle.prove_term.proofs.EquationLaws.{function_listed, equations_found}
use Rattle.prove_term.proofs.context.Cx.equation_image.Goals as goal

pub index-equations-requires : goal.index-equations-requires
index-equations-requires c =
    let low : c.args.equation.now.fun.0 < length c.self.inside.program.now.equations.items =
    function_listed c.self.inside.program.now c.args.equation.now.fun.0
    (function_equation c.args.equation.now)
    (subst (λ (v : Context). IsEquationFor (theory_of v.program) c.args.equation.now.fun.0
    (function_equation c.args.equation.now)) (sym c.self.view_is) c.requires.own) in
    omega (arith, low, c.self.inside.program.now.equations.ok)

pub equation_image-requires : goal.equation_image-requires
equation_image-requires c =
    let own : IsEquationFor (theory_of c.self.inside.program.now) c.args.equation.now.fun.0
    (function_equation c.args.equation.now) =
    subst (λ (v : Context). IsEquationFor (theory_of v.program) c.args.equation.now.fun.0
    (function_equation c.args.equation.now)) (sym c.self.view_is) c.requires.own in
    let same : map function_equation c.deref.result.now
    ≡ equations_of (theory_of c.self.inside.program.now) c.args.equation.now.fun.0 =
    ap (map function_equation) c.deref.ensures.value
    ∙ equations_found c.self.inside.program.now c.args.equation.now.fun.0
    c.index-equations.result.now
    (function_listed c.self.inside.program.now c.args.equation.now.fun.0
    (function_equation c.args.equation.now) own)
    c.index-equations.ensures in
    subst (λ (es : List Equation). HasEquationImage c.self.inside.program.now.sig es
    c.args.equation.now.fun.0 (function_equation c.args.equation.now)) (sym same)
    (subst (λ (v : Context). HasEquationImage v.program.sig
    (equations_of (theory_of v.program) c.args.equation.now.fun.0) c.args.equation.now.fun.0
    (function_equation c.args.equation.now)) (sym c.self.view_is) c.requires.image)

pub invariant_of-self : goal.invariant_of-self
invariant_of-self c =
    kept_gains c.self.inside c.equation_image.new.names c.self.invariant
    c.equation_image.ensures.names

pub returns-clause-says : goal.returns-clause-says
returns-clause-says c =
    let own : IsEquationFor (theory_of c.self.inside.program.now) c.args.equation.now.fun.0
    (function_equation c.args.equation.now) =
    subst (λ (v : Context). IsEquationFor (theory_of v.program) c.args.equation.now.fun.0
    (function_equation c.args.equation.now)) (sym c.self.view_is) c.requires.own in
    let same : map function_equation c.deref.result.now
    ≡ equations_of (theory_of c.self.inside.program.now) c.args.equation.now.fun.0 =
    ap (map function_equation) c.deref.ensures.value
    ∙ equations_found c.self.inside.program.now c.args.equation.now.fun.0
    c.index-equations.result.now
    (function_listed c.self.inside.program.now c.args.equation.now.fun.0
    (function_equation c.args.equation.now) own)
    c.index-equations.ensures in
    if_ok c.equation_image.result
    (λ p says. subst (λ (es : List Equation).
    IsImageOf c.self.inside.program.now.sig c.equation_image.new.names
    (SaysEquation c.self.inside.program.now.sig es c.args.equation.now.fun.0
    (function_equation c.args.equation.now)) p) same says)
    c.equation_image.ensures.image

pub returns-clause-grown : goal.returns-clause-grown
returns-clause-grown c =
    grown_gains c.self.inside c.args.self.now c.equation_image.new.names c.self.view_is
    c.equation_image.ensures.names
