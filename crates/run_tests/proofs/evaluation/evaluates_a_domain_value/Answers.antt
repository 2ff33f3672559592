use Rattle.std.proofs.Common.{◌≡◌, sym, subst, arith}
use Rattle.std.specs.Prelude.{pos}
use Rattle.term_core.specs.Terms.{integer}
use Rattle.term_core.specs.Patterns.{domain_value}
use Rattle.term_core.specs.RulePatterns.{plain_pattern}
use Rattle.term_core.specs.declared.rule_patterns.RulePat.TheVariants as form
use Rattle.term_core.specs.declared.values.Value.TheVariants as value
use Rattle.term_core.proofs.PlainPatterns.{plain-Value}
use Rattle.rule_core.specs.ProgramView.{theory_of}
use Rattle.rule_core.specs.declared.rules.Program.{Program}
use Rattle.fun_eval.specs.Evaluable.{IsEvaluable}
use Rattle.fun_eval.specs.TestPrograms.{HasIntegers}
use Rattle.fun_eval.proofs.Empty.{number_evaluable, integer_value}
use Rattle.run_tests.proofs.evaluation.evaluates_a_domain_value.Goals as goal

pub eval-requires-clause-fits : goal.eval-requires-clause-fits
eval-requires-clause-fits g c =
    let has : HasIntegers c.in-Some.program.sig =
    c.in_ok-program.ensures.integers c.in-Some.program c.in-Some.is in
    let plain : IsEvaluable (theory_of c.in-Some.program) c.in_ok-subst.subst
    (domain_value 0 (integer (pos 5))) =
    number_evaluable (theory_of c.in-Some.program) 0 (pos 5) c.in_ok-subst.subst
    (integer_value c.in-Some.program.sig 5 (omega arith) has) c.in_ok-subst.ensures in
    let own : IsEvaluable (theory_of c.in-Some.program) c.in_ok-subst.subst
    (plain_pattern (form.Value (record { 0 = 0 }) (value.Int (pos 5)))) =
    subst (IsEvaluable (theory_of c.in-Some.program) c.in_ok-subst.subst)
    (sym (plain-Value _ _)) plain in
    subst (λ (p : Program). IsEvaluable (theory_of p) c.in_ok-subst.subst
    (plain_pattern (form.Value (record { 0 = 0 }) (value.Int (pos 5)))))
    (sym c.in_ok-engine.ensures) own

pub eval_as-requires-clause-fits : goal.eval_as-requires-clause-fits
eval_as-requires-clause-fits g c =
    let has : HasIntegers c.in-Some.program.sig =
    c.in_ok-program.ensures.integers c.in-Some.program c.in-Some.is in
    let plain : IsEvaluable (theory_of c.in-Some.program) c.in_ok-subst.subst
    (domain_value 0 (integer (pos 5))) =
    number_evaluable (theory_of c.in-Some.program) 0 (pos 5) c.in_ok-subst.subst
    (integer_value c.in-Some.program.sig 5 (omega arith) has) c.in_ok-subst.ensures in
    let own : IsEvaluable (theory_of c.in-Some.program) c.in_ok-subst.subst
    (plain_pattern (form.Value (record { 0 = 0 }) (value.Int (pos 5)))) =
    subst (IsEvaluable (theory_of c.in-Some.program) c.in_ok-subst.subst)
    (sym (plain-Value _ _)) plain in
    subst (λ (p : Program). IsEvaluable (theory_of p) c.in_ok-subst.subst
    (plain_pattern (form.Value (record { 0 = 0 }) (value.Int (pos 5)))))
    (sym c.in_ok-engine.ensures) own
