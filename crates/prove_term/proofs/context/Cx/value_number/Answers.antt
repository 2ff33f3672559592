use Rattle.prove_term.proofs.ContextLaws.{grown_none}
use Rattle.prove_term.proofs.context.Cx.value_number.Goals as goal

pub returns-in-Some-clause-grown : goal.returns-in-Some-clause-grown
returns-in-Some-clause-grown c = grown_none c.args.self.now
