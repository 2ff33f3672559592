use Rattle.mm_proof.proofs.substitution.put_under.Goals as goal

pub returns : goal.returns
returns c = rw (← c.first_part-first.ensures) c.put_steps.ensures
