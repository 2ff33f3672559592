use Rattle.std.proofs.Common.{◌≡◌, drop}
use Rattle.term_core.specs.PatternLists.{plain_patterns}
use Rattle.match_tree.specs.Agreement.{all_agree}
use Rattle.match_tree.proofs.agreement.row_agrees.Given as goal

abbrev pub invariant-loop-i : goal.invariant-loop-i
invariant-loop-i g l =
    all_agree l.subsorts (plain_patterns (drop l.i l.row)) (drop l.i l.subjects)
    ≡ all_agree l.subsorts (plain_patterns l.row) l.subjects
