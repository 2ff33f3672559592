use Rattle.std.proofs.Common.{◌≡◌, map, take}
use Rattle.term_core.specs.Forests.{forest}
use Rattle.rule_core.specs.Guards.{after_guards}
use Rattle.rule_core.specs.ProgramView.{guard_of, theory_of}
use Rattle.rule_core.specs.Theories.{equations_of}
use Rattle.prove_term.specs.Contexts.{HasGrown}
use Rattle.refute_guard.specs.Guards.{DenyGuards}
use Rattle.prove_fun.proofs.denying.all_denied.Given as goal

abbrev pub invariant-loop-i : goal.invariant-loop-i
invariant-loop-i l = record {
  denied : DenyGuards l.cx (equations_of (theory_of l.initial.cx.program) l.symbol.0) l.first
      (take l.i (map guard_of l.guards)) (forest l.terms) l.denied.items;
  next : l.next ≡ after_guards l.first (take l.i (map guard_of l.guards));
  grown : HasGrown l.initial.cx l.cx;
}
