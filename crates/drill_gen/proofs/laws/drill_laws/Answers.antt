use Rattle.drill_gen.proofs.Lengths.{drill-short}
use Rattle.drill_gen.proofs.laws.drill_laws.Goals as goal

pub returns : goal.returns
returns c = record { short = drill-short }
