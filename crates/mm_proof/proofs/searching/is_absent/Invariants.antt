use Rattle.std.proofs.Common.{◌≡◌}
use Rattle.ml_pat.specs.Judgements.{absent}
use Rattle.mm_proof.specs.Searching.{all_absent, all_forms, patterns_of}
use Rattle.mm_proof.proofs.searching.is_absent.Given as goal

abbrev pub invariant-loop-next : goal.invariant-loop-next
invariant-loop-next l = all_absent l.x.0 (patterns_of l.stack.items) ≡ absent l.x.0 l.pat

abbrev pub decreases-loop-next : goal.decreases-loop-next
decreases-loop-next l = all_forms (patterns_of l.stack.items)
