use Rattle.std.proofs.Common.{◌-◌, get_or}
use Rattle.term_core.specs.RulePatterns.{sort_numbers}
use Rattle.rule_core.specs.Subsorts.{IsBelow}
use Rattle.prove_term.specs.Contexts.{HasGrown}
use Rattle.prove_term.specs.Injections.{IsInjectionAt}
use Rattle.prove_term.proofs.context.Cx.injection_along.Given as goal

abbrev pub invariant-loop-i : goal.invariant-loop-i
invariant-loop-i l = record {
  place : IsInjectionAt l.self l.from.0 (get_or (sort_numbers l.sorts) (l.i - 1) 0) l.place;
  below : IsBelow l.fn.self.program.sig.subsorts l.from.0
      (get_or (sort_numbers l.sorts) (l.i - 1) 0);
  grown : HasGrown l.fn.self l.self;
}
