use Rattle.prove_open.proofs.known.constructor_of.Goals as goal

pub returns : goal.returns
returns c = tt
