-- In what a text without a fault declares, no two active hypotheses type the same variable. The
-- same is true of the hypotheses of a frame.
use Rattle.std.specs.Prelude.{◌≡◌, false, List, [], ◌∷◌, Some}
use Rattle.std.specs.List.{list_any}
use Rattle.mm_text.specs.Bytes.{Token}
use Rattle.mm_text.specs.Statements.{Statement}
use Rattle.mm_database.specs.Frames.{Hypothesis, floating, essential, Frame, types}
use Rattle.mm_database.specs.Database.{Block, Context, empty_context, context_after}
use Rattle.mm_database.specs.Validity.{HasNoFault}

abbrev pub TypeOnce : List Hypothesis → Type 0
TypeOnce [] = Unit {0}
TypeOnce (floating label typecode variable ∷ hypotheses) =
    (list_any (types variable) hypotheses ≡ false) × TypeOnce hypotheses
TypeOnce (essential label statement ∷ hypotheses) = TypeOnce hypotheses

-- outside each open block, no two hypotheses type the same variable
abbrev pub BlocksTypeOnce : List Block → Type 0
BlocksTypeOnce [] = Unit {0}
BlocksTypeOnce (block ∷ blocks) = TypeOnce block.outside.hypotheses × BlocksTypeOnce blocks

pub record IsOrderly (c : Context) : Type 0 where
  pub active : TypeOnce c.scope.hypotheses
  pub blocks : BlocksTypeOnce c.blocks
  pub frames : (label : Token) (f : Frame) → c.frames label ≡ Some f → TypeOnce f.hypotheses

-- this is true of an empty database, and after a statement that has no fault it is still true
abbrev pub EmptyIsOrderly : Type 0
EmptyIsOrderly = IsOrderly empty_context

abbrev pub OrderlyAfter : Type 0
OrderlyAfter =
    (c : Context) (s : Statement) → IsOrderly c → HasNoFault c s.tokens
    → IsOrderly (context_after c s)
