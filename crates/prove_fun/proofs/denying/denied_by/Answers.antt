use Rattle.std.proofs.Common.{◌≡◌, Option, sym, ◌∙◌, ap, subst}
use Rattle.ml_kernel.specs.Theorems.{Theorem}
use Rattle.term_core.specs.Forests.{forest}
use Rattle.rule_core.specs.AcSymbols.{IsAcFree}
use Rattle.rule_core.specs.ProgramView.{function_equation}
use Rattle.rule_core.specs.RecordView.{plain_record}
use Rattle.rule_core.specs.Records.{Miss, condition_false}
use Rattle.rule_core.specs.declared.rules.Program.{Program}
use Rattle.refute_guard.specs.Guards.{IsAppliedTo}
use Rattle.prove_fun.specs.Missing.{IsMissedAt, IsValued}
use Rattle.prove_fun.specs.Using.{missed_record}
use Rattle.prove_fun.proofs.PlainRecords.{plain-CondFalse}
use Rattle.prove_fun.proofs.denying.denied_by.Goals as goal

pub guard_denied-requires-in-CondFalse-Some-clause-no_ac :
    goal.guard_denied-requires-in-CondFalse-Some-clause-no_ac
guard_denied-requires-in-CondFalse-Some-clause-no_ac c =
    subst (λ (p : Program). IsAcFree p.sig)
    (sym c.in_ok-untrue-in-CondFalse-Some.ensures.grown.program) c.requires.no_ac

pub guard_denied-requires-in-CondFalse-Some-clause-equation :
    goal.guard_denied-requires-in-CondFalse-Some-clause-equation
guard_denied-requires-in-CondFalse-Some-clause-equation c =
    subst (λ (p : Program). IsAppliedTo p.sig (function_equation c.args.equation.now)
    (forest c.args.terms.now)) (sym c.in_ok-untrue-in-CondFalse-Some.ensures.grown.program)
    c.requires.applied

pub guard_denied-requires-in-CondFalse-Some-clause-missed :
    goal.guard_denied-requires-in-CondFalse-Some-clause-missed
guard_denied-requires-in-CondFalse-Some-clause-missed c =
    let is : missed_record c.args.miss.now ≡ condition_false c.in-CondFalse-Some.subst
    (plain_record c.in-CondFalse-Some.evaluation) =
    ap missed_record c.in-CondFalse-Some.is-0
    ∙ plain-CondFalse c.in-CondFalse-Some.subst c.in-CondFalse-Some.evaluation in
    c.in_ok-untrue-in-CondFalse-Some.ensures.fails (forest c.args.terms.now)
    c.in-CondFalse-Some.subst
    (subst (IsMissedAt c.args.cx.now.program (function_equation c.args.equation.now)
    (forest c.args.terms.now)) is c.requires.missed)
    (subst (λ (o : Option Theorem). IsValued c.args.cx.now
    (function_equation c.args.equation.now)
    (condition_false c.in-CondFalse-Some.subst (plain_record c.in-CondFalse-Some.evaluation)) o)
    c.in-CondFalse-Some.is-1
    (subst (λ (m : Miss). IsValued c.args.cx.now (function_equation c.args.equation.now) m
    c.args.value.now) is c.requires.valued))
