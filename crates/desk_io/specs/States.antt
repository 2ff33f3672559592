-- What is known of a desk and of a sink at one time.
use Rattle.std.specs.Prelude.{ℕ, List, Option}
use Rattle.desk_io.specs.Told.{Told}

-- what a desk tells, and how many faults it has had: in reading, and in writing
pub record DeskState : Type 0 where
  pub told : Option Told
  pub read_faults : ℕ
  pub write_faults : ℕ

-- the bytes that a sink tells, and how many faults it has had
pub record SinkState : Type 0 where
  pub bytes : Option (List ℕ)
  pub faults : ℕ
