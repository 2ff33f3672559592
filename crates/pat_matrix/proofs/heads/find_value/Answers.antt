use Rattle.std.proofs.Common.{◌∙◌}
use Rattle.pat_matrix.proofs.HeadLists.{found_index}
use Rattle.pat_matrix.proofs.heads.find_value.Goals as goal

pub returns-in-Some : goal.returns-in-Some
returns-in-Some c =
    c.get_index_of.ensures.index
    ∙ found_index c.in-Some.head _ c.args.heads.now.keys c.in-Some.ensures
