use Rattle.match_tree.proofs.WalkLaws.{branch_tells, other_tells, later_tells, hit_matches}
use Rattle.match_tree.proofs.WalkLaws.{hit_comes_first}
use Rattle.match_tree.proofs.laws.walk_laws.Goals as goal

pub returns-clause-branch : goal.returns-clause-branch
returns-clause-branch c = branch_tells

pub returns-clause-others : goal.returns-clause-others
returns-clause-others c = other_tells

pub returns-clause-later : goal.returns-clause-later
returns-clause-later c = later_tells

pub returns-clause-twins : goal.returns-clause-twins
returns-clause-twins c = hit_matches

pub returns-clause-first : goal.returns-clause-first
returns-clause-first c = hit_comes_first
