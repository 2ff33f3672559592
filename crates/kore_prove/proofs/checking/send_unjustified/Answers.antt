use Rattle.kore_prove.proofs.checking.send_unjustified.Goals as goal

pub returns-clause-sent : goal.returns-clause-sent
returns-clause-sent g c =
    rw (← c.format.ensures.text, ← c.format-2.ensures.text) c.send_pieces.ensures.sent
