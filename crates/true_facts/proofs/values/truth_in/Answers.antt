use Rattle.std.proofs.Common.{Some, None}
use Rattle.true_facts.proofs.ValueLaws.{truth_only}
use Rattle.true_facts.proofs.values.truth_in.Goals as goal

pub returns-in-Some : goal.returns-in-Some
returns-in-Some c = truth_only c.args.text.now (Some c.in-Some.truth) c.in-Some.ensures

pub returns-in-None : goal.returns-in-None
returns-in-None c = truth_only c.args.text.now None c.in-None.ensures
