use Rattle.std.proofs.Common.{◌≡◌, ◌+◌, ◌*◌, drop, map, take}
use Rattle.ml_kernel.specs.Lemmas.{HasNoVariable}
use Rattle.rule_core.specs.RecordView.{plain_record, misses}
use Rattle.prove_term.specs.Contexts.{HasGrown}
use Rattle.prove_term.specs.Applications.{applied_to}
use Rattle.prove_term.specs.Comparing.{IsOverContext}
use Rattle.prove_fun.specs.KeptLemmas.{IsKeptIn}
use Rattle.prove_fun.specs.Missing.{AreValued}
use Rattle.prove_fun.specs.Using.{condition_record, missed_record}
use Rattle.prove_fun.proofs.Gathering.{IsGathered}
use Rattle.prove_fun.proofs.Sizes.{size, size_if, miss_size, miss_sizes}
use Rattle.prove_fun.proofs.evaluating.+evaluated.Given as goal

abbrev pub decreases-evaluated : goal.decreases-evaluated
decreases-evaluated l = 5 * size (plain_record l.evaluation.now) + 4

abbrev pub decreases-constructed : goal.decreases-constructed
decreases-constructed l = 5 * size (plain_record l.evaluation.now) + 3

abbrev pub decreases-injected : goal.decreases-injected
decreases-injected l = 5 * size (plain_record l.evaluation.now) + 3

abbrev pub decreases-called : goal.decreases-called
decreases-called l = 5 * size (plain_record l.evaluation.now) + 3

abbrev pub decreases-by_equation : goal.decreases-by_equation
decreases-by_equation l = 5 * size (plain_record l.evaluation.now) + 2

abbrev pub decreases-used_equation : goal.decreases-used_equation
decreases-used_equation l = 5 * size (plain_record l.evaluation.now) + 1

abbrev pub decreases-missed_values : goal.decreases-missed_values
decreases-missed_values l = 5 * miss_sizes (misses (map missed_record l.missed.now)) + 7

abbrev pub decreases-missed_value : goal.decreases-missed_value
decreases-missed_value l = 5 * miss_size (missed_record l.miss.now) + 6

abbrev pub invariant-missed_values-loop-i : goal.invariant-missed_values-loop-i
invariant-missed_values-loop-i l = record {
  values : AreValued l.cx l.symbol.0 (take l.i (map missed_record l.missed)) l.values.items;
  grown : HasGrown l.initial.cx l.cx;
  kept : IsKeptIn l.cx l.kept;
}

abbrev pub decreases-condition_held : goal.decreases-condition_held
decreases-condition_held l = 5 * size_if (condition_record l.used.now) + 6

abbrev pub decreases-value_held : goal.decreases-value_held
decreases-value_held l = 5 * size (plain_record l.evaluation.now) + 5

abbrev pub decreases-at_values : goal.decreases-at_values
decreases-at_values l = 5 * size (plain_record l.evaluation.now) + 1

abbrev pub decreases-all_evaluated : goal.decreases-all_evaluated
decreases-all_evaluated l = 5 * size (plain_record l.evaluation.now)

abbrev pub invariant-all_evaluated-loop-i : goal.invariant-all_evaluated-loop-i
invariant-all_evaluated-loop-i l = record {
  done : IsGathered l.cx l.subst l.args l.i l.head l.function l.made;
  closed : HasNoVariable l.function;
  over : IsOverContext l.cx l.function;
  left : applied_to l.function (drop l.i l.images) ≡ applied_to l.head l.images;
  grown : HasGrown l.initial.cx l.cx;
  kept : IsKeptIn l.cx l.kept;
}
