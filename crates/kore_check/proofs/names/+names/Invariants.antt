use Rattle.std.proofs.Common.{◌≡◌, ◌++◌, ◌-◌, ℕ, true, List, length, drop}
use Rattle.kore_text.specs.Trees.{SortTree}
use Rattle.rule_core.specs.ProgramView.{names_of}
use Rattle.kore_check.specs.Folds.{fold_of}
use Rattle.kore_check.specs.PartNames.{names_in, names_in_all}
use Rattle.kore_check.proofs.Applications.{reads}
use Rattle.kore_check.proofs.NameFolds.{zeros, left_names, right_names}
use Rattle.kore_check.proofs.names.+names.Given as goal

abbrev pub invariant-note_all-loop-i : goal.invariant-note_all-loop-i
invariant-note_all-loop-i l = record {
  way : l.way.items ≡ l.fn.way.items;
  named : names_of l.named.items
      ++ names_in_all l.sig l.vars l.fn.way.items l.i (reads (drop l.i l.args))
      ≡ names_of l.fn.named.items ++ names_in_all l.sig l.vars l.fn.way.items 0 (reads l.args);
}

abbrev pub invariant-note_left-loop : goal.invariant-note_left-loop
invariant-note_left-loop l = l.way.items ≡ l.fn.way.items ++ zeros (l.counter - 1)

abbrev pub invariant-note_left-loop-i : goal.invariant-note_left-loop-i
invariant-note_left-loop-i l = record {
  way : l.way.items ≡ l.fn.way.items ++ zeros (length l.args - l.i);
  named : (byte : ℕ) (name : List ℕ) (ss : List SortTree)
      → names_of l.named.items ++ left_names l.sig l.vars l.fn.way.items (reads (drop l.i l.args))
      ≡ names_of l.fn.named.items
      ++ names_in l.sig l.vars l.fn.way.items (fold_of true byte name ss (reads l.args));
}

abbrev pub invariant-note_right-loop-i : goal.invariant-note_right-loop-i
invariant-note_right-loop-i l = record {
  way : (behind : List ℕ) × (l.way.items ≡ l.fn.way.items ++ behind);
  named : names_of l.named.items ++ right_names l.sig l.vars l.way.items (reads (drop l.i l.args))
      ≡ names_of l.fn.named.items ++ right_names l.sig l.vars l.fn.way.items (reads l.args);
}
