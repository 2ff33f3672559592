use Rattle.kore_equations.proofs.ExclusionLaws.{readings_exclude}
use Rattle.kore_equations.proofs.laws.reading_laws.Goals as goal

pub returns : goal.returns
returns c = readings_exclude
