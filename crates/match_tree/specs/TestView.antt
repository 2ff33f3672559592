-- Where a test leads.
use Rattle.std.specs.Prelude.{ℕ, map}
use Rattle.std.specs.Option.{unwrap_or}
use Rattle.term_core.specs.Terms.{Tree}
use Rattle.pat_matrix.specs.Heads.{root}
use Rattle.pat_matrix.specs.HeadView.{head_of}
use Rattle.match_tree.specs.Walking.{find_place}
use Rattle.match_tree.specs.declared.testing.Test.{Test}

-- the place for a term: the one of its head, or the one for every other head
abbrev pub next_place : Test → Tree → ℕ
next_place test t =
    unwrap_or (find_place (map head_of test.heads.keys) test.branches.items (root t)) test.other
