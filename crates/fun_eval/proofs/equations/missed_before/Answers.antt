use Rattle.std.proofs.Common.{inl, inr, refl}
use Rattle.rule_core.specs.ProgramView.{theory_of, function_equation}
use Rattle.rule_core.specs.Records.{none_missed}
use Rattle.rule_core.specs.Theories.{equations_of}
use Rattle.fun_eval.proofs.LastResorts.{is_last, is_not_last}
use Rattle.fun_eval.proofs.Misses.{one_is_last, unmatched_recorded}
use Rattle.fun_eval.proofs.equations.missed_before.Goals as goal

pub returns-then-is_none : goal.returns-then-is_none
returns-then-is_none g c = λ ts was none. (
  function_equation c.equation_of.result.now,
  none_missed,
  c.equation_of.ensures,
  c.none_missed.ensures,
  inl (is_not_last c.equation_of.result.now c.if-is_none.ensures, refl),
)

pub returns : goal.returns
returns g c = λ ts was none.
    let last = is_last c.equation_of.result.now c.if-is_none.ensures in
    let first =
    unmatched_recorded g.R.Recording.misses_tell (theory_of c.args.engine.now) c.args.sym.0
    c.args.passed.count c.args.row ts c.args.passed.missed c.unmatched.new.others c.requires.later
    c.requires.number none
    (was (one_is_last (equations_of (theory_of c.args.engine.now) c.args.sym.0) c.args.row
    (function_equation c.equation_of.result.now) c.equation_of.ensures last))
    c.in_ok-unmatched.ensures in (
      function_equation c.equation_of.result.now,
      first.0,
      c.equation_of.ensures,
      first.1,
      inr (last, first.2),
    )
