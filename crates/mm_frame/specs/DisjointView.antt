-- The groups of the active `$d`.
use Rattle.std.specs.Prelude.{ℕ, List}
use Rattle.mm_frame.specs.PlainFrames.{groups_of}
use Rattle.mm_frame.specs.declared.disjoint.Disjoint.{Disjoint}

abbrev pub groups_in : Disjoint → List (List ℕ)
groups_in d = groups_of d.groups.items
