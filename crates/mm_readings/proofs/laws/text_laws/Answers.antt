use Rattle.mm_readings.proofs.ReadBack.{read-spell_all}
use Rattle.mm_readings.proofs.laws.text_laws.Goals as goal

pub returns : goal.returns
returns c = record { read = read-spell_all }
