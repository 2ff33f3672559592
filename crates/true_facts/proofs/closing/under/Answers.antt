use Rattle.true_facts.proofs.closing.under.Goals as goal

pub returns-in_default : goal.returns-in_default
returns-in_default c = λ q h. c.in_default.ensures _ _ _ h.2
