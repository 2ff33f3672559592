use Rattle.mm_verify.proofs.notes.Notes.forget_many.Goals as goal

pub returns-then-count_numbers-gt-MOST-clause-noted : goal.returns-then-count_numbers-gt-MOST-clause-noted
returns-then-count_numbers-gt-MOST-clause-noted c = λ p noted. c.clear.ensures.noted p
