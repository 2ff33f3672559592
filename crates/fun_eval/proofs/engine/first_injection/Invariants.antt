use Rattle.fun_eval.proofs.Injections.{NoneInjects}
use Rattle.fun_eval.proofs.engine.first_injection.Given as goal

abbrev pub invariant-loop-i : goal.invariant-loop-i
invariant-loop-i l = NoneInjects l.program.sig l.i
