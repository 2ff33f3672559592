use Rattle.mm_proof.proofs.substitution.put_two.Goals as goal

pub returns : goal.returns
returns c = rw (← c.first_part-first.ensures, ← c.second_part-second.ensures) c.put_steps.ensures
