-- Where a walk that keeps nothing goes on.
use Rattle.std.proofs.Common.{◌≡◌, ◌+◌, ◌++◌, ℕ, false, true, List, length, refl, sym, subst}
use Rattle.std.specs.List.{list_any}
use Rattle.term_core.specs.Terms as terms
use Rattle.pat_matrix.specs.MatrixView.{rows_of}
use Rattle.match_tree.specs.Walking.{AreWide}
use Rattle.match_tree.specs.TreeView.{nodes_of, tries, IsTree}
use Rattle.match_tree.specs.SlotView.{IsReachedBy, IsTried}
use Rattle.match_tree.specs.Finding.{BeginsAt, GivesOn, LooksOnce}
use Rattle.match_tree.specs.Passing.{Reaches}
use Rattle.match_tree.specs.declared.compiling.Tree.{Tree}
use Rattle.match_tree.specs.declared.slots.NodeNo.{NodeNo}
use Rattle.match_tree.specs.declared.slots.NodeNo.TheVariants as place
use Rattle.match_tree.specs.declared.slots.Hit.{Hit}
use Rattle.match_tree.specs.declared.slots.Hit.TheVariants as answer
use Rattle.match_tree.proofs.ArmLaws.{some_tries}
use Rattle.match_tree.proofs.OnceLaws.{tested_once}
use Rattle.match_tree.proofs.WalkEnds.{hit_starts}

-- after a row at the end of a way
pub reached_gives : (t : Tree) (ts : List terms.Tree) (path : List ℕ) (hit : Hit) → IsTree t
    → IsReachedBy t ts path hit → GivesOn t ts hit
reached_gives t ts path answer.None tree reached = tt
reached_gives t ts path (answer.Row row place.Start) tree (leads, matches) = absurd leads
reached_gives t ts path (answer.Row row (place.Node next)) tree
    ((way, (before, k, spots, ends, node)), matches) =
    (matches, ((path, way), hit_starts t k row next spots tree node))
reached_gives t ts path (answer.Row row (place.Rows n)) tree
    ((is, (k, from, way, node, le)), matches) =
    (matches, (some_tries (nodes_of t) k from node, is))

-- what was looked at on the way
pub looks_once : (t : Tree) (ts : List terms.Tree) (before after : List ℕ → Type 0)
    (old new : ℕ) (hit : Hit) → IsTree t → AreWide (length ts) (rows_of t.matrix)
    → list_any tries (nodes_of t) ≡ false → Reaches t ts before after old new hit
    → LooksOnce t ts old new
looks_once t ts before after old new hit tree wide none (last, passed, reached) = record {
  path = passed.path;
  more = passed.more;
  last = last;
  way = passed.way;
  once = tested_once t ts (passed.path ++ passed.more) last tree wide passed.way;
  looks = passed.looks none;
}

-- after a row that was found in order
pub tried_gives : (t : Tree) (ts : List terms.Tree) (from : ℕ) (hit : Hit)
    → list_any tries (nodes_of t) ≡ true → IsTried t ts from hit → GivesOn t ts hit
tried_gives t ts from answer.None some tried = tt
tried_gives t ts from (answer.Row row resume) some (is, past, matches) =
    let P : NodeNo → Type 0 = λ no. BeginsAt t ts no (row + 1) in
    (matches, subst P (sym is) (some, refl))
