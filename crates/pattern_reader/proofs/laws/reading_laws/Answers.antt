use Rattle.pattern_reader.proofs.Renumbering.{readings_agree, reading_is_unique}
use Rattle.pattern_reader.proofs.laws.reading_laws.Goals as goal

pub returns-clause-unique : goal.returns-clause-unique
returns-clause-unique c = reading_is_unique

pub returns-clause-agree : goal.returns-clause-agree
returns-clause-agree c = readings_agree
