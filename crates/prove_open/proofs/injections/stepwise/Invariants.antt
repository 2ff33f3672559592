use Rattle.std.proofs.Common.{◌-◌, get_or}
use Rattle.term_core.specs.RulePatterns.{sort_numbers}
use Rattle.rule_core.specs.Subsorts.{IsBelow}
use Rattle.prove_term.specs.Contexts.{HasGrown}
use Rattle.prove_open.specs.Elements.{RaisesTo}
use Rattle.prove_open.proofs.injections.stepwise.Given as goal

abbrev pub invariant-loop-i : goal.invariant-loop-i
invariant-loop-i l = record {
  raises : RaisesTo l.fn.cx l.cx l.h l.k l.from.0 (get_or (sort_numbers l.sorts) (l.i - 1) 0)
      l.fact l.present;
  below : IsBelow l.fn.cx.program.sig.subsorts l.from.0 (get_or (sort_numbers l.sorts) (l.i - 1) 0);
  grown : HasGrown l.fn.cx l.cx;
}
