use Rattle.std.proofs.Common.{◌-◌, ◌<◌, Some, length, sym, arith}
use Rattle.std.specs.Ordering.{nat_cmp}
use Rattle.std.specs.BTreeMap.{Updates}
use Rattle.rule_core.specs.ProgramView.{rewrite_rule, rewrite_rules}
use Rattle.rule_core.proofs.Trials.{rule_at}
use Rattle.hint_file.proofs.RuleNumbers.{number_grown}
use Rattle.hint_file.proofs.places.rule_numbers.Goals as goal

pub loop-i-preserved : goal.loop-i-preserved
loop-i-preserved c =
    let lt : c.loop-i.i - 1 < length c.args.program.now.rules.items =
    omega (arith, c.loop-i-test.true, c.loop-i.invariant.within) in
    let updates : Updates nat_cmp c.loop-i.numbers c.insert.new.self
    (rewrite_rule c.index.result.now).place (Some (c.loop-i.i - 1)) =
    rw (sym c.from.ensures) c.in_ok-insert.ensures.updates in
    record {
      numbered = λ byte.
          number_grown (rewrite_rules c.args.program.now.rules.items) c.loop-i.i byte
          (rewrite_rule c.index.result.now) c.loop-i.numbers c.insert.new.self
          (omega (arith, c.loop-i-test.true))
          (rule_at c.args.program.now.rules.items (c.loop-i.i - 1) c.index.result.now lt
          c.index.ensures) updates (c.loop-i.invariant.numbered byte);
      within = omega arith;
    }
