use Rattle.mm_proof.proofs.substitution.expand_by_form.Goals as goal

pub returns-in-Quantified : goal.returns-in-Quantified
returns-in-Quantified c =
    let shape = c.in-Quantified.ensures in
    rw (shape.1, ← shape.2) c.put_under.ensures
