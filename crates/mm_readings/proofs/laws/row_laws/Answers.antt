use Rattle.std.specs.Prelude.{Contains}
use Rattle.mm_readings.proofs.RowReadings.{rows_sound}
use Rattle.mm_readings.proofs.laws.row_laws.Goals as goal

pub returns : goal.returns
returns c = record { rows = λ axioms number r f. rows_sound (Contains axioms) number r f }
