use Rattle.mm_text.proofs.LettersRead.{number_in_front, save_in_front}
use Rattle.mm_text.proofs.laws.letter_laws.Goals as goal

pub returns-clause-number : goal.returns-clause-number
returns-clause-number a = number_in_front

pub returns-clause-save : goal.returns-clause-save
returns-clause-save a = save_in_front
