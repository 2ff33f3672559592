use Rattle.mm_text.proofs.Spelling.{one_spelling, read_back}
use Rattle.mm_text.proofs.laws.number_laws.Goals as goal

pub returns-clause-one : goal.returns-clause-one
returns-clause-one c = one_spelling

pub returns-clause-back : goal.returns-clause-back
returns-clause-back c = read_back
