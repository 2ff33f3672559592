use Rattle.kore_show.proofs.SortedShown.{sorted-shown}
use Rattle.kore_show.proofs.laws.shown_laws.Goals as goal

pub returns : goal.returns
returns c sig p sort well sorted = sorted-shown sig p sort well sorted
