use Rattle.std.proofs.Common.{◌≡◌, ℕ, Some, slice_get, sym, subst}
use Rattle.ml_kernel.specs.Theorems.{Theorem}
use Rattle.term_core.specs.Forests.{forest}
use Rattle.rule_core.specs.Rules.{Equation as PlainEquation}
use Rattle.rule_core.specs.Theories.{equations_of}
use Rattle.rule_core.specs.ProgramView.{function_equation, sorts_of, theory_of}
use Rattle.rule_core.specs.BoundVariables.{IsEquationAt}
use Rattle.rule_core.specs.declared.rules.Program.{Program}
use Rattle.prove_term.specs.Contexts.{HasGrown}
use Rattle.prove_term.specs.Values.{SaysEquationAt}
use Rattle.prove_term.proofs.ContextLaws.{grown_twice}
use Rattle.prove_term.proofs.ResultLaws.{if_ok}
use Rattle.prove_equation.specs.Conditions.{DeniesGuards, ProvesAt}
use Rattle.prove_equation.proofs.FillingLaws.{condition_grown, denied_grown}
use Rattle.prove_fun.proofs.KeptLaws.{kept_grown}
use Rattle.prove_fun.proofs.Uses.{asked, asked_later, plain_there, ready_later, same_equation}
use Rattle.prove_fun.proofs.equations.equation_fact.Goals as goal

pub equation_of-equation-requires : goal.equation_of-equation-requires
equation_of-equation-requires c = (
  c.requires.used.equation,
  subst (λ (p : Program). slice_get (equations_of (theory_of p) c.args.symbol.0)
      c.args.used.now.equation ≡ Some c.requires.used.equation) (sym c.program.ensures)
      c.requires.used.there,
)

pub denied_guards-requires-clause-equation : goal.denied_guards-requires-clause-equation
denied_guards-requires-clause-equation c =
    subst (λ (p : Program). IsEquationAt p c.args.symbol.0 c.args.used.now.equation
    c.equation_of-equation.result.now) c.program.ensures c.equation_of-equation.ensures

pub lemma_of-requires-clause-image : goal.lemma_of-requires-clause-image
lemma_of-requires-clause-image c =
    let at =
    subst (λ (p : Program). IsEquationAt p c.args.symbol.0 c.args.used.now.equation
    c.equation_of-equation.result.now) c.program.ensures
    c.equation_of-equation.ensures in
    (asked_later c.args.cx.now c.denied_guards.new.cx c.args.symbol.0 _ c.args.used.now.equation
    c.args.used.now.subst c.equation_of-equation.result.now c.in_ok-denied.ensures.grown
    (asked c.args.cx.now.program c.args.symbol.0 _ c.args.used.now.equation c.args.used.now.subst _
    _ _ c.equation_of-equation.result.now c.requires.ready c.requires.used at)).image

pub lemma_of-requires-clause-own : goal.lemma_of-requires-clause-own
lemma_of-requires-clause-own c =
    let at =
    subst (λ (p : Program). IsEquationAt p c.args.symbol.0 c.args.used.now.equation
    c.equation_of-equation.result.now) c.program.ensures
    c.equation_of-equation.ensures in
    (asked_later c.args.cx.now c.denied_guards.new.cx c.args.symbol.0 _ c.args.used.now.equation
    c.args.used.now.subst c.equation_of-equation.result.now c.in_ok-denied.ensures.grown
    (asked c.args.cx.now.program c.args.symbol.0 _ c.args.used.now.equation c.args.used.now.subst _
    _ _ c.equation_of-equation.result.now c.requires.ready c.requires.used at)).own

pub lemma_of-requires-clause-there : goal.lemma_of-requires-clause-there
lemma_of-requires-clause-there c =
    let at =
    subst (λ (p : Program). IsEquationAt p c.args.symbol.0 c.args.used.now.equation
    c.equation_of-equation.result.now) c.program.ensures
    c.equation_of-equation.ensures in
    (asked_later c.args.cx.now c.denied_guards.new.cx c.args.symbol.0 _ c.args.used.now.equation
    c.args.used.now.subst c.equation_of-equation.result.now c.in_ok-denied.ensures.grown
    (asked c.args.cx.now.program c.args.symbol.0 _ c.args.used.now.equation c.args.used.now.subst _
    _ _ c.equation_of-equation.result.now c.requires.ready c.requires.used at)).there

pub lemma_of-requires-clause-kept : goal.lemma_of-requires-clause-kept
lemma_of-requires-clause-kept c =
    kept_grown c.args.cx.now c.denied_guards.new.cx c.args.kept.now c.in_ok-denied.ensures.grown
    c.requires.kept

pub equation_at-requires : goal.equation_at-requires
equation_at-requires c =
    let at =
    subst (λ (p : Program). IsEquationAt p c.args.symbol.0 c.args.used.now.equation
    c.equation_of-equation.result.now) c.program.ensures
    c.equation_of-equation.ensures in
    let further : HasGrown c.denied_guards.new.cx c.lemma_of.new.cx = c.in_ok-lemma.ensures.grown in
    let g : HasGrown c.args.cx.now c.lemma_of.new.cx =
    grown_twice c.args.cx.now c.denied_guards.new.cx c.lemma_of.new.cx
    c.in_ok-denied.ensures.grown further in
    let is =
    asked_later c.args.cx.now c.lemma_of.new.cx c.args.symbol.0 _ c.args.used.now.equation
    c.args.used.now.subst c.equation_of-equation.result.now g
    (asked c.args.cx.now.program c.args.symbol.0 _ c.args.used.now.equation c.args.used.now.subst _
    _ _ c.equation_of-equation.result.now c.requires.ready c.requires.used at) in
    record {
      well_sorted = (ready_later c.args.cx.now c.lemma_of.new.cx g c.requires.ready).well_sorted;
      image = is.image;
      own = is.own;
      is_lemma = c.in_ok-lemma.ensures.lemma;
      matches = is.matches;
      bound = is.bound;
      condition =
          condition_grown c.args.cx.now c.lemma_of.new.cx
          (sorts_of c.equation_of-equation.result.now.vars.items) c.args.used.now.subst
          (function_equation c.equation_of-equation.result.now).condition c.args.condition.now g
          (c.requires.condition (function_equation c.equation_of-equation.result.now)
          (plain_there c.args.cx.now.program c.args.symbol.0 c.args.used.now.equation
          c.equation_of-equation.result.now at));
      each = is.each;
      guards =
          subst (λ (n : ℕ). DeniesGuards c.lemma_of.new.cx n
          (function_equation c.equation_of-equation.result.now) (forest c.args.terms.now)
          c.in_ok-denied.denied) (sym is.function)
          (denied_grown c.denied_guards.new.cx c.lemma_of.new.cx c.args.symbol.0
          (function_equation c.equation_of-equation.result.now)
          (function_equation c.equation_of-equation.result.now).last_resort
          (forest c.args.terms.now) c.in_ok-denied.denied further c.in_ok-denied.ensures.denied);
    }

pub returns-in_err-lemma-clause-grown : goal.returns-in_err-lemma-clause-grown
returns-in_err-lemma-clause-grown c =
    grown_twice c.args.cx.now c.denied_guards.new.cx c.lemma_of.new.cx
    c.in_ok-denied.ensures.grown c.lemma_of.ensures.grown

pub returns-clause-grown : goal.returns-clause-grown
returns-clause-grown c =
    grown_twice c.args.cx.now c.lemma_of.new.cx c.equation_at.new.cx
    (grown_twice c.args.cx.now c.denied_guards.new.cx c.lemma_of.new.cx
    c.in_ok-denied.ensures.grown c.in_ok-lemma.ensures.grown) c.equation_at.ensures.grown

pub returns-clause-says : goal.returns-clause-says
returns-clause-says c =
    let at =
    subst (λ (p : Program). IsEquationAt p c.args.symbol.0 c.args.used.now.equation
    c.equation_of-equation.result.now) c.program.ensures
    c.equation_of-equation.ensures in
    let function =
    (asked c.args.cx.now.program c.args.symbol.0 _ c.args.used.now.equation
    c.args.used.now.subst _ _ _ c.equation_of-equation.result.now c.requires.ready c.requires.used
    at).function in
    if_ok c.equation_at.result
    (λ (t : Theorem) (proves : ProvesAt c.equation_at.new.cx
    c.equation_of-equation.result.now.fun.0
    (function_equation c.equation_of-equation.result.now) c.args.used.now.subst
    (forest c.args.terms.now) t). λ e there.
    let same : function_equation c.equation_of-equation.result.now ≡ e =
    same_equation c.args.cx.now.program c.args.symbol.0 c.args.used.now.equation
    c.equation_of-equation.result.now e at there in
    subst (λ (n : ℕ). SaysEquationAt c.equation_at.new.cx n e c.args.used.now.subst
    (forest c.args.terms.now) t.conclusion) function
    (subst (λ (x : PlainEquation). SaysEquationAt c.equation_at.new.cx
    c.equation_of-equation.result.now.fun.0 x c.args.used.now.subst (forest c.args.terms.now)
    t.conclusion) same proves.says))
    c.equation_at.ensures.proves

pub returns-clause-stays : goal.returns-clause-stays
returns-clause-stays c =
    if_ok c.equation_at.result
    (λ (t : Theorem) (proves : ProvesAt c.equation_at.new.cx
    c.equation_of-equation.result.now.fun.0
    (function_equation c.equation_of-equation.result.now) c.args.used.now.subst
    (forest c.args.terms.now) t). proves.stays) c.equation_at.ensures.proves

pub returns-clause-kept : goal.returns-clause-kept
returns-clause-kept c =
    kept_grown c.lemma_of.new.cx c.equation_at.new.cx c.lemma_of.new.kept
    c.equation_at.ensures.grown c.in_ok-lemma.ensures.kept
