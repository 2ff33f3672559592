use Rattle.std.proofs.Common.{ℕ, ◌≡◌, ◌≤◌, drop, length}
use Rattle.std.specs.Ordering.{nat_cmp}
use Rattle.std.specs.BTreeMap.{get}
use Rattle.rule_core.specs.ProgramView.{rewrite_rules}
use Rattle.hint_file.specs.HintLines.{number_from}
use Rattle.hint_file.proofs.places.rule_numbers.Given as goal

abbrev pub invariant-loop-i : goal.invariant-loop-i
invariant-loop-i l = record {
  numbered : (byte : ℕ) → get nat_cmp l.numbers byte
      ≡ number_from l.i (drop l.i (rewrite_rules l.program.rules.items)) byte;
  within : l.i ≤ length l.program.rules.items;
}

abbrev pub decreases-loop-i : goal.decreases-loop-i
decreases-loop-i l = l.i
