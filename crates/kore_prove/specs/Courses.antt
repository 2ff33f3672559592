-- What is known of a call: its words, and the desk and the streams before and after.
use Rattle.std.specs.Prelude.{ℕ, List}
use Rattle.desk_io.specs.States.{DeskState, SinkState}

-- the desk and the output, before and after
pub record Course : Type 0 where
  pub desk : DeskState
  pub desk' : DeskState
  pub out : SinkState
  pub out' : SinkState

abbrev pub course_of : DeskState → DeskState → SinkState → SinkState → Course
course_of desk desk' out out' = record { desk = desk; desk' = desk'; out = out; out' = out' }

-- the words of a call, its course, and the error stream before and after
pub record Call : Type 0 where
  pub words : List (List ℕ)
  pub course : Course
  pub err : SinkState
  pub err' : SinkState

abbrev pub call_of : List (List ℕ) → DeskState → DeskState → SinkState → SinkState → SinkState
    → SinkState → Call
call_of words desk desk' out out' err err' = record {
  words = words;
  course = course_of desk desk' out out';
  err = err;
  err' = err';
}
