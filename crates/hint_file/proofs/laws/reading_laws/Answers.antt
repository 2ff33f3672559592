use Rattle.hint_file.proofs.OneReading.{line_is_one, file_is_one}
use Rattle.hint_file.proofs.OneStep.{step_by_is_one}
use Rattle.hint_file.proofs.ReadPath.{read_is_path}
use Rattle.hint_file.proofs.laws.reading_laws.Goals as goal

pub returns-clause-step : goal.returns-clause-step
returns-clause-step c = step_by_is_one

pub returns-clause-line : goal.returns-clause-line
returns-clause-line c = line_is_one

pub returns-clause-file : goal.returns-clause-file
returns-clause-file c =
    file_is_one c.acceptance_laws.ensures.exclusive_term c.acceptance_laws.ensures.start

pub returns-clause-path : goal.returns-clause-path
returns-clause-path c = read_is_path
