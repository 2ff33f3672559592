-- How a call that prints no run ends: its exit code, and the line on the error stream that states
-- the reason.
use Rattle.std.specs.Prelude.{◌≡◌, ℕ, List, [], ◌∷◌, ◌++◌, Option, Result, Ok, Err, codes, decimal}
use Rattle.desk_io.specs.declared.desk.DeskFault.{DeskFault}
use Rattle.desk_io.specs.declared.desk.DeskFault.TheVariants as fault
use Rattle.desk_io.specs.Sent.{Appends}
use Rattle.desk_io.specs.SinkChanges.{AppendsFront}
use Rattle.desk_io.specs.Counts.{CountRose}

-- why a call ended; the names are names of files; the numbers are the number of a refusal and the
-- byte or the line at which it is
pub data Ending : Type 0 where
  out_of_memory : Ending
  bad_words : Ending
  read_fault : Ending
  write_fault : Ending
  no_such_file : List ℕ → Ending
  definition_refused : ℕ → ℕ → Ending
  term_refused : ℕ → ℕ → Ending
  too_large : List ℕ → Ending
  hints_refused : ℕ → ℕ → Ending

-- the exit code
abbrev pub end_code : Ending → ℕ
end_code out_of_memory = 1
end_code bad_words = 2
end_code read_fault = 3
end_code write_fault = 4
end_code (no_such_file name) = 5
end_code (definition_refused number byte) = 6
end_code (term_refused number byte) = 7
end_code (too_large name) = 8
end_code (hints_refused number line) = 14

-- the number of a refusal, and the byte at which it is
abbrev pub refusal : ℕ → ℕ → List ℕ
refusal number byte = codes " refused " ++ (decimal number ++ (codes " at " ++ decimal byte))

-- the number of a refusal, and the line at which it is
abbrev pub line_refusal : ℕ → ℕ → List ℕ
line_refusal number line =
    codes " refused " ++ (decimal number ++ (codes " at line " ++ decimal line))

-- the reason in words
abbrev pub reason : Ending → List ℕ
reason out_of_memory = codes "out of memory"
reason bad_words = codes "bad words"
reason read_fault = codes "read fault"
reason write_fault = codes "write fault"
reason (no_such_file name) = codes "no such file " ++ name
reason (definition_refused number byte) = codes "definition" ++ refusal number byte
reason (term_refused number byte) = codes "term" ++ refusal number byte
reason (too_large name) = codes "too large " ++ name
reason (hints_refused number line) = codes "hints" ++ line_refusal number line

-- the line, followed by a newline
abbrev pub report_line : Ending → List ℕ
report_line e = codes "kore_prove: " ++ (reason e ++ 10 ∷ [])

-- What the stream got, by the answer to sending the line: the whole line; or, after a fault, a part
-- from its front. If the fault is a failure of the stream, its count of faults rose.
abbrev pub Gets : Ending → Result (Unit {0}) DeskFault → Option (List ℕ) → Option (List ℕ) → ℕ → ℕ
    → Type 0
Gets e (Ok done) before after old new = Appends before after (report_line e)
Gets e (Err fault.Failed) before after old new =
    AppendsFront before after (report_line e) × CountRose old new
Gets e (Err fault.Memory) before after old new = AppendsFront before after (report_line e)

-- the exit code: that of the end, or 1 if the answer to sending its line is that memory ran out
abbrev pub code_after : Ending → Result (Unit {0}) DeskFault → ℕ
code_after e (Ok done) = end_code e
code_after e (Err fault.Failed) = end_code e
code_after e (Err fault.Memory) = end_code out_of_memory

-- the line was sent to the stream, and the code is the one after the answer
pub record Reports (e : Ending) (before after : Option (List ℕ)) (old new code : ℕ) : Type 0 where
  pub answer : Result (Unit {0}) DeskFault
  pub got : Gets e answer before after old new
  pub code_is : code ≡ code_after e answer
