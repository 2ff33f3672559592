use Rattle.std.proofs.Common.{◌≡◌, ◌<◌, List, [], length, refl, sym, ap, subst, arith}
use Rattle.std.specs.Prelude.{pos, All}
use Rattle.term_core.specs.Terms.{integer}
use Rattle.term_core.specs.Patterns.{domain_value}
use Rattle.term_core.specs.RulePatterns.{plain_pattern}
use Rattle.term_core.specs.declared.rule_patterns.RulePat.TheVariants as form
use Rattle.term_core.specs.declared.values.Value.TheVariants as value
use Rattle.term_core.proofs.PlainPatterns.{plain-Value}
use Rattle.rule_core.specs.ProgramView.{theory_of, rewrite_rules}
use Rattle.rule_core.specs.WellSorted.{IsRuleOf, IsStart}
use Rattle.rule_core.specs.declared.rules.Program.{Program}
use Rattle.rule_core.specs.declared.rules.Rule.{Rule}
use Rattle.fun_eval.specs.TestPrograms.{HasIntegers}
use Rattle.fun_eval.proofs.Empty.{integer_value}
use Rattle.run_tests.proofs.rewriting.is_stuck_without_a_rule.Goals as goal

pub new-requires-2 : goal.new-requires-2
new-requires-2 g c =
    let has : HasIntegers c.in-Some.program.sig =
    c.in_ok-program.ensures.integers c.in-Some.program c.in-Some.is in
    let none : c.in-Some.program.rules.items ≡ [] =
    c.in_ok-program.ensures.rules c.in-Some.program c.in-Some.is in
    let rules_fit : All (IsRuleOf c.in-Some.program.sig 0)
    (rewrite_rules c.in-Some.program.rules.items) =
    subst (λ (rs : List Rule). All (IsRuleOf c.in-Some.program.sig 0) (rewrite_rules rs))
    (sym none) (λ k d lt. absurd (omega arith)) in
    let plain : IsStart (theory_of c.in-Some.program) (domain_value 0 (integer (pos 5))) =
    (0, (refl, integer_value c.in-Some.program.sig 5 (omega arith) has), rules_fit) in
    let own : IsStart (theory_of c.in-Some.program)
    (plain_pattern (form.Value (record { 0 = 0 }) (value.Int (pos 5)))) =
    subst (IsStart (theory_of c.in-Some.program)) (sym (plain-Value _ _)) plain in
    subst (λ (p : Program). IsStart (theory_of p)
    (plain_pattern (form.Value (record { 0 = 0 }) (value.Int (pos 5)))))
    (sym c.in_ok-engine.ensures) own
