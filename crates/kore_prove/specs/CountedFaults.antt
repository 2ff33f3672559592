-- Which faults a call counted.
use Rattle.desk_io.specs.Counts.{CountRose}
use Rattle.kore_prove.specs.Courses.{Course}

-- a fault was counted: in reading a file, in writing a file, or in writing the output
abbrev pub CountsReadFault : Course → Type 0
CountsReadFault c = CountRose c.desk.read_faults c.desk'.read_faults

abbrev pub CountsWriteFault : Course → Type 0
CountsWriteFault c = CountRose c.desk.write_faults c.desk'.write_faults

abbrev pub CountsOutputFault : Course → Type 0
CountsOutputFault c = CountRose c.out.faults c.out'.faults
