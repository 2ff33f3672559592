use Rattle.std.specs.Prelude.{◌-◌, length}
use Rattle.mm_scope.specs.ScopeState.{scope_state}
use Rattle.rule_core.specs.ProgramView.{theory_of}
use Rattle.mm_check.specs.AxiomsView.{theory_for}
use Rattle.mm_check.proofs.PassLaws.{IsPassing}
use Rattle.mm_check.proofs.pass.pass.Given as goal

abbrev pub invariant-loop-last : goal.invariant-loop-last
invariant-loop-last l = IsPassing (theory_of l.program) (theory_for l.axioms) l.bytes l.reader
    (scope_state l.scopes) l.last

abbrev pub decreases-loop-last : goal.decreases-loop-last
decreases-loop-last l = length l.bytes - l.reader.at
