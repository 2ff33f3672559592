use Rattle.true_facts.proofs.ColonLaws.{last_colon}
use Rattle.true_facts.proofs.values.at_last_colon.Goals as goal

pub returns : goal.returns
returns c = last_colon c.args.text.now c.rsplit_once.result c.rsplit_once.ensures.cases
