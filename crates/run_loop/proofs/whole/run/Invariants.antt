use Rattle.term_core.specs.RulePatterns.{plain_pattern}
use Rattle.rule_core.specs.ProgramView.{theory_of}
use Rattle.rule_core.specs.Runs.{Reaches}
use Rattle.match_tree.specs.SlotView.{HasRoom}
use Rattle.rewriter.specs.Configurations.{IsConfiguration}
use Rattle.run_loop.proofs.HintsGrow.{AddsSteps}
use Rattle.run_loop.proofs.whole.run.Given as goal

abbrev pub invariant-loop-made : goal.invariant-loop-made
invariant-loop-made l = record {
  reached : Reaches (theory_of l.engine) (plain_pattern l.start) l.calls l.made l.run.config
      l.run.calls;
  hinted : AddsSteps (theory_of l.engine) (plain_pattern l.start) l.calls l.made l.run.config
      l.run.calls l.fn.hints l.hints;
  sorted : IsConfiguration (theory_of l.engine) l.run.config;
  room : HasRoom l.tree l.slots;
}
