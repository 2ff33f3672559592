use Rattle.std.proofs.Common.{drop, take}
use Rattle.rule_core.specs.FirstRule.{Tries, none_applies}
use Rattle.rule_core.specs.ProgramView.{rewrite_rules, theory_of}
use Rattle.prove_term.specs.Contexts.{HasGrown}
use Rattle.prove_fun.specs.KeptLemmas.{IsKeptIn}
use Rattle.stuck_prove.specs.RefutedRules.{SayNoneMet}
use Rattle.stuck_prove.proofs.stuck.not_met.Given as goal

abbrev pub invariant-loop-i : goal.invariant-loop-i
invariant-loop-i l = record {
  grown : HasGrown l.initial.cx l.cx;
  kept : IsKeptIn l.cx l.kept;
  tries : Tries (theory_of l.engine) l.run.config l.i
      (rewrite_rules (drop l.i l.engine.rules.items)) l.budget.calls none_applies;
  shown : SayNoneMet l.cx l.run.config (rewrite_rules (take l.i l.engine.rules.items))
      l.shown.items;
}
