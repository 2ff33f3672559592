use Rattle.std.proofs.Common.{◌≡◌, ◌≤◌, ◌<◌, length, arith}
use Rattle.std.specs.Prelude.{◌^◌}
use Rattle.std.proofs.lemmas.List.{length-map}
use Rattle.rule_core.specs.ProgramView.{rewrite_rule, rewrite_rules}
use Rattle.run_tests.proofs.hints.program_of.Goals as goal

pub returns-in-Ok-clause-numbers : goal.returns-in-Ok-clause-numbers
returns-in-Ok-clause-numbers c =
    let count : length (rewrite_rules c.in-Ok.program.rules.items)
    ≡ length c.in-Ok.program.rules.items =
    length-map c.in-Ok.program.rules.items rewrite_rule in
    let few : length c.in-Ok.program.rules.items ≤ 2 ^ 32 = c.in-Ok.ensures.rules in
    let symbols : length c.in-Ok.program.sig.symbols < 2 ^ 32 = c.in-Ok.ensures.numbered.1 in
    record {
      sorts = c.in-Ok.ensures.numbered.0;
      symbols = omega (arith, symbols);
      rules = omega (arith, count, few);
      equations = c.in-Ok.ensures.equations;
    }
