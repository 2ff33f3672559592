-- What the ends of the code mean.
use Rattle.desk_io.specs.declared.desk.DeskFault.{DeskFault}
use Rattle.desk_io.specs.declared.desk.DeskFault.TheVariants as fault
use Rattle.kore_prove.specs.declared.report.End.{End}
use Rattle.kore_prove.specs.declared.report.End.TheVariants as end
use Rattle.kore_prove.specs.Reports.{Ending, out_of_memory, bad_words, read_fault, write_fault}
use Rattle.kore_prove.specs.Reports.{no_such_file, definition_refused, term_refused, too_large}
use Rattle.kore_prove.specs.Reports.{hints_refused}

-- the end in the terms of the definitions
abbrev pub plain_end : End → Ending
plain_end end.OutOfMemory = out_of_memory
plain_end end.BadWords = bad_words
plain_end end.ReadFault = read_fault
plain_end end.WriteFault = write_fault
plain_end (end.NoSuchFile name) = no_such_file name.now
plain_end (end.DefinitionRefused number byte) = definition_refused number byte
plain_end (end.TermRefused number byte) = term_refused number byte
plain_end (end.TooLarge name) = too_large name.now
plain_end (end.HintsRefused number line) = hints_refused number line

-- the end of a call after a fault in writing
abbrev pub fault_end : DeskFault → Ending
fault_end fault.Failed = write_fault
fault_end fault.Memory = out_of_memory
