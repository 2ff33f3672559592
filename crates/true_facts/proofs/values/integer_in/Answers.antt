use Rattle.std.proofs.Common.{None}
use Rattle.true_facts.proofs.ValueLaws.{integer_only, stored_only}
use Rattle.true_facts.proofs.values.integer_in.Goals as goal

pub returns-in-Some : goal.returns-in-Some
returns-in-Some c = stored_only c.args.text.now c.in-Some.number c.in-Some.ensures

pub returns-in-None : goal.returns-in-None
returns-in-None c = integer_only c.args.text.now None c.in-None.ensures
