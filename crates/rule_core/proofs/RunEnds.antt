-- Where a run may be cut.
use Rattle.std.proofs.Common.{◌≡◌, ℕ, ◌<◌, ◌≤◌, refl, arith}
use Rattle.term_core.specs.Terms.{Tree}
use Rattle.term_core.specs.Patterns.{Pattern, ground_pattern}
use Rattle.rule_core.specs.Theories.{RewriteTheory}
use Rattle.rule_core.specs.Evaluation.{value, blocked}
use Rattle.rule_core.specs.FirstRule.{most_nesting}
use Rattle.rule_core.specs.Runs.{Reaches, stuck, limited, stopped, unstarted}
use Rattle.rule_core.specs.RunCuts.{MayEndAt, at_blocked_start, at_configuration}
use Rattle.rule_core.specs.RunLaws.{EndsAreOfRun, RunMayEnd, IsReachedWithin}
use Rattle.rule_core.specs.WellSorted.{IsWellSorted}
use Rattle.rule_core.proofs.RunUnique.{Last, stuck_last, stopped_last, limited_last}
use Rattle.rule_core.proofs.RunUnique.{not_after, unstarted_reaches}

-- a configuration within the limit is reached no later than the last one
within_last : (theory : RewriteTheory) → IsWellSorted theory
    → (start : Pattern) (calls limit n : ℕ) {c : ℕ} {t : Tree} (end : Pattern)
    → Last theory limit start calls n t c → MayEndAt theory limit calls start end
    → IsReachedWithin theory calls start n end
within_last theory good start calls limit n end last (at_blocked_start {cause = cause} e) =
    absurd (unstarted_reaches theory good cause e last.reached)
within_last theory good start calls limit n end last (at_configuration {n = m} {c = d} {t = u} r le) =
    let later : n < m → ⊥ = not_after theory good limit n m last r le in
    (m, d, u, r, omega (arith, later), refl)

pub ends_are_of_run : EndsAreOfRun
ends_are_of_run theory limit calls start end (stuck n t) good run cut =
    within_last theory good start calls limit n end (stuck_last theory good limit n t run) cut
ends_are_of_run theory limit calls start end (limited n t) good run cut =
    within_last theory good start calls limit n end (limited_last theory limit n t run) cut
ends_are_of_run theory limit calls start end (stopped n cause t) good run cut =
    within_last theory good start calls limit n end (stopped_last theory good limit n cause t run) cut
ends_are_of_run theory limit calls start end (unstarted cause) good run (at_blocked_start e) = refl
ends_are_of_run theory limit calls start end (unstarted cause) good run (at_configuration r le) =
    absurd (unstarted_reaches theory good cause run r)

pub run_may_end : RunMayEnd
run_may_end theory limit calls start (stuck n t) (c, r, lt, s) = at_configuration r (omega arith)
run_may_end theory limit calls start (limited n t) (c, r, e) = at_configuration r (omega arith)
run_may_end theory limit calls start (stopped n cause t) (c, r, lt, s) =
    at_configuration r (omega arith)
run_may_end theory limit calls start (unstarted cause) e = at_blocked_start e
