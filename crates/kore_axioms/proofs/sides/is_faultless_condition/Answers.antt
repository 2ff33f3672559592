use Rattle.kore_shapes.specs.Views.{plain_condition}
use Rattle.kore_axioms.specs.RuleFaults.{condition_faults}
use Rattle.kore_axioms.proofs.NotingLaws.{none_seen}
use Rattle.kore_axioms.proofs.sides.is_faultless_condition.Goals as goal

pub returns : goal.returns
returns c =
    none_seen (condition_faults c.args.sig.now (plain_condition c.args.condition))
    c.note_condition.new.first c.is_none.result c.note_condition.ensures c.is_none.ensures
