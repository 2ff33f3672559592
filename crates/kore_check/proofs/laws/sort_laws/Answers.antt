use Rattle.kore_check.proofs.SortedLaws.{meanings_are_sorted}
use Rattle.kore_check.proofs.laws.sort_laws.Goals as goal

pub returns : goal.returns
returns c = meanings_are_sorted
