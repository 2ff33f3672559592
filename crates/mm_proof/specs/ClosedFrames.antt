-- The frame of an assertion without hypotheses.
use Rattle.std.specs.Prelude.{false, List, []}
use Rattle.mm_text.specs.Bytes.{Token}
use Rattle.mm_database.specs.Frames.{Frame}

-- an assertion without hypotheses
abbrev pub closed_frame : Token → List Token → Frame
closed_frame name tokens = record {
  label = name;
  hypotheses = [];
  apart = λ a b. false;
  statement = tokens;
}
