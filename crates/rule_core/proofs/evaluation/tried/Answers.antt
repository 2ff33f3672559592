use Rattle.rule_core.proofs.TriedIntegers.{tried_integers}
use Rattle.rule_core.proofs.TriedBounds.{tried_bounds}
use Rattle.rule_core.proofs.TriedSteps.{tried_conditions, tried_injections}
use Rattle.rule_core.proofs.TriedLists.{tried_lists}
use Rattle.rule_core.proofs.evaluation.tried.Goals as goal

pub returns : goal.returns
returns a = record {
  cases =
      record {
        integers = tried_integers;
        bounds = tried_bounds;
        conditions = tried_conditions;
        injections = tried_injections;
        lists = tried_lists;
      };
}
