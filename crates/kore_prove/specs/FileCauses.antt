-- The cause of each error in reading a file, and of each end of a call after it.
use Rattle.std.specs.Prelude.{◌≡◌, ℕ, List, Option}
use Rattle.desk_io.specs.Told.{Told}
use Rattle.desk_io.specs.MissingFiles.{Lacks, HoldsMore}
use Rattle.desk_io.specs.Counts.{CountRose}
use Rattle.desk_io.specs.declared.read.ReadEnd.{ReadEnd}
use Rattle.desk_io.specs.declared.read.ReadEnd.TheVariants as read
use Rattle.kore_axioms.specs.declared.refusals.Refusal.TheVariants as refusal
use Rattle.kore_sig.specs.FirstFault.{Fault}
use Rattle.kore_prove.specs.declared.files.FileEnd.{FileEnd}
use Rattle.kore_prove.specs.declared.files.FileEnd.TheVariants as file
use Rattle.kore_prove.specs.Limits.{HoldsWithin, definition_limit}
use Rattle.kore_prove.specs.Causes.{HoldsRefused}
use Rattle.kore_prove.specs.Reports.{Ending, out_of_memory, bad_words, read_fault, write_fault}
use Rattle.kore_prove.specs.Reports.{no_such_file, definition_refused, term_refused, too_large}
use Rattle.kore_prove.specs.Reports.{hints_refused}

-- the file of that name holds bytes within the limit that are refused with this fault
abbrev pub HoldsWhat : (List ℕ → Fault → Type 0) → Option Told → List ℕ → ℕ → Fault → Type 0
HoldsWhat IsWhy told name limit f =
    (bytes : List ℕ) × HoldsWithin told name limit bytes × IsWhy bytes f

-- Why the file of that name was not read as a whole: it does not exist, a fault was counted, or it
-- has more bytes than the limit.
abbrev pub UnreadCause : Option Told → List ℕ → ℕ → ℕ → ℕ → ReadEnd → Type 0
UnreadCause told name limit reads reads' read.NoFile = Lacks told name
UnreadCause told name limit reads reads' read.Failed = CountRose reads reads'
UnreadCause told name limit reads reads' read.TooLarge = HoldsMore told name limit
UnreadCause told name limit reads reads' read.Memory = Unit {0}

-- the file was not read as a whole, or its bytes are refused
abbrev pub FileCause : (List ℕ → Fault → Type 0) → Option Told → List ℕ → ℕ → ℕ → ℕ → FileEnd
    → Type 0
FileCause IsWhy told name limit reads reads' (file.Unread end) =
    UnreadCause told name limit reads reads' end
FileCause IsWhy told name limit reads reads' (file.Refused (refusal.Refused number byte)) =
    HoldsWhat IsWhy told name limit (record { number = number; byte = byte })
FileCause IsWhy told name limit reads reads' (file.Refused refusal.Memory) = Unit {0}

-- each end of a call whose file was not read as a whole has its cause
abbrev pub UnreadEnding : Option Told → List ℕ → ℕ → ℕ → ℕ → Ending → Type 0
UnreadEnding told name limit reads reads' out_of_memory = Unit {0}
UnreadEnding told name limit reads reads' bad_words = ⊥
UnreadEnding told name limit reads reads' read_fault = CountRose reads reads'
UnreadEnding told name limit reads reads' write_fault = ⊥
UnreadEnding told name limit reads reads' (no_such_file other) = (other ≡ name) × Lacks told other
UnreadEnding told name limit reads reads' (definition_refused number byte) = ⊥
UnreadEnding told name limit reads reads' (term_refused number byte) = ⊥
UnreadEnding told name limit reads reads' (too_large other) =
    (other ≡ name) × HoldsMore told other limit
UnreadEnding told name limit reads reads' (hints_refused number line) = ⊥

-- so has each end of a call whose definition was not read or not accepted
abbrev pub DefinitionEnding : Option Told → List ℕ → ℕ → ℕ → Ending → Type 0
DefinitionEnding told name reads reads' (definition_refused number byte) =
    HoldsRefused name told (record { number = number; byte = byte })
DefinitionEnding told name reads reads' e =
    UnreadEnding told name definition_limit reads reads' e
