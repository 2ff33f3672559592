use Rattle.mm_text.proofs.Appending.{appended_text}
use Rattle.mm_text.proofs.Writing.{written_statement}
use Rattle.mm_text.proofs.laws.text_laws.Goals as goal

pub returns-clause-appended : goal.returns-clause-appended
returns-clause-appended c = appended_text

pub returns-clause-written : goal.returns-clause-written
returns-clause-written c = written_statement
