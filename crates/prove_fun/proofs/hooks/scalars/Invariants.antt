use Rattle.std.proofs.Common.{◌≡◌, length}
use Rattle.rule_core.specs.RecordView.{plain_record}
use Rattle.prove_fun.specs.RecordParts.{children}
use Rattle.prove_fun.proofs.Hooking.{AreScalarsOf}
use Rattle.prove_fun.proofs.hooks.scalars.Given as goal

abbrev pub invariant-loop-i : goal.invariant-loop-i
invariant-loop-i l = record {
  are : AreScalarsOf (children (plain_record l.evaluation)) l.values.items;
  many : length l.values.items ≡ l.i;
}
