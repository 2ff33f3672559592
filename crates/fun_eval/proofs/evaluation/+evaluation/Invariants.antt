use Rattle.std.proofs.Common.{◌+◌, ◌*◌, length, take}
use Rattle.term_core.specs.Forests.{forest}
use Rattle.term_core.specs.PatternLists.{plain_patterns}
use Rattle.rule_core.specs.Theories.{equations_of}
use Rattle.rule_core.specs.ProgramView.{theory_of}
use Rattle.fun_eval.specs.Equations.{RecordsPassed}
use Rattle.fun_eval.specs.Giving.{AreRecorded}
use Rattle.fun_eval.proofs.PatternsInTurn.{GoesOn}
use Rattle.fun_eval.proofs.Walks.{IsTrying, equations_left}
use Rattle.fun_eval.proofs.evaluation.+evaluation.Given as goal

abbrev pub decreases-evaluate : goal.decreases-evaluate
decreases-evaluate g l = 6 * l.nest + 1

abbrev pub decreases-evaluate_ctor : goal.decreases-evaluate_ctor
decreases-evaluate_ctor g l = 6 * l.nest

abbrev pub decreases-evaluate_inj : goal.decreases-evaluate_inj
decreases-evaluate_inj g l = 6 * l.nest

abbrev pub decreases-evaluate_call : goal.decreases-evaluate_call
decreases-evaluate_call g l = 6 * l.nest

abbrev pub decreases-evaluate_all : goal.decreases-evaluate_all
decreases-evaluate_all g l = 6 * l.nest + 2

abbrev pub decreases-evaluate_in : goal.decreases-evaluate_in
decreases-evaluate_in g l = 6 * l.nest + 1

abbrev pub decreases-try_equation : goal.decreases-try_equation
decreases-try_equation g l = 6 * l.nest + 2

abbrev pub decreases-choose_equation : goal.decreases-choose_equation
decreases-choose_equation g l = 6 * l.nest + 3

abbrev pub decreases-apply_equations : goal.decreases-apply_equations
decreases-apply_equations g l = 6 * l.nest + 4

abbrev pub decreases-apply : goal.decreases-apply
decreases-apply g l = 6 * l.nest + 5

abbrev pub invariant-evaluate_all-loop-pat : goal.invariant-evaluate_all-loop-pat
invariant-evaluate_all-loop-pat g l = record {
  goes : GoesOn (theory_of l.engine) l.nest l.subst l.pats l.fn.calls l.pat-index l.terms.items
      l.left;
  recorded : AreRecorded (g.R.Recording.all_tell l.records.items) (theory_of l.engine) l.subst
      (plain_patterns (take l.pat-index l.pats)) (forest l.terms.items);
}

abbrev pub invariant-choose_equation-loop-hit : goal.invariant-choose_equation-loop-hit
invariant-choose_equation-loop-hit g l = record {
  trying : IsTrying (theory_of l.engine) l.nest l.sym.0 l.tree l.terms l.passed.count l.fn.calls
      l.left l.hit;
  passed : RecordsPassed g.R.Recording.misses_tell (theory_of l.engine) l.sym.0 (forest l.terms)
      l.passed;
}

abbrev pub decreases-choose_equation-loop-hit : goal.decreases-choose_equation-loop-hit
decreases-choose_equation-loop-hit g l =
    equations_left (length (equations_of (theory_of l.engine) l.sym.0)) l.hit
