-- Frames as scopes hold them: symbols by their numbers, and the pairs that have to stay apart as
-- one list of variables for each `$d`. Hypotheses are in a list, or in a tree that other frames
-- share.
pub use Rattle.mm_frame.specs.NumberLists.{has_number}
pub use Rattle.mm_frame.specs.StateHypotheses.{plain_hypothesis, plain_hypotheses}
use Rattle.std.specs.Prelude.{ℕ, Bool, false, not, ◌&&◌, nat_eq, List, map, ◌++◌}
use Rattle.std.specs.Global.{Vec}
use Rattle.std.specs.List.{list_any}
use Rattle.mm_frame.specs.Numbered.{NumberedHypothesis, NumberedFrame}
use Rattle.mm_frame.specs.PlacedHypotheses.{hypotheses_placed}
use Rattle.mm_frame.specs.ExpressionView.{expression_symbols}
use Rattle.mm_frame.specs.declared.frames.Frame.{Frame}
use Rattle.mm_frame.specs.declared.asking.Parts.{Parts}
use Rattle.mm_frame.specs.declared.asking.Mandatory.{Mandatory}
use Rattle.mm_frame.specs.declared.asking.Mandatory.TheVariants.{Listed, Shared}
use Rattle.mm_database.specs.Frames.{floating, essential}

-- two different numbers of one group
abbrev pub in_group : ℕ → ℕ → List ℕ → Bool
in_group a b group = not (nat_eq a b) && (has_number group a && has_number group b)

abbrev pub in_groups : List (List ℕ) → ℕ → ℕ → Bool
in_groups groups a b = list_any (in_group a b) groups

abbrev pub items_of : Vec ℕ → List ℕ
items_of v = v.items

abbrev pub groups_of : List (Vec ℕ) → List (List ℕ)
groups_of groups = map items_of groups

abbrev pub parts_hypotheses : Parts → List NumberedHypothesis
parts_hypotheses parts = hypotheses_placed parts.tree.value

abbrev pub parts_groups : Parts → List (List ℕ)
parts_groups parts = groups_of parts.common.value.items ++ groups_of parts.own.items

abbrev pub mandatory_hypotheses : Mandatory → List NumberedHypothesis
mandatory_hypotheses (Listed lists) = plain_hypotheses lists.hyps.items
mandatory_hypotheses (Shared parts) = parts_hypotheses parts

abbrev pub mandatory_groups : Mandatory → List (List ℕ)
mandatory_groups (Listed lists) = groups_of lists.apart.items
mandatory_groups (Shared parts) = parts_groups parts

abbrev pub plain_frame : Frame → NumberedFrame
plain_frame f = record {
  label = f.label.now;
  hypotheses = mandatory_hypotheses f.mandatory.value;
  apart = in_groups (mandatory_groups f.mandatory.value);
  statement = expression_symbols f.statement.value;
}

abbrev pub plain_frames : List Frame → List NumberedFrame
plain_frames frames = map plain_frame frames

-- it is a `$f` of the variable
abbrev pub types_number : ℕ → NumberedHypothesis → Bool
types_number n (floating label typecode variable) = nat_eq variable n
types_number n (essential label statement) = false
