-- How a reading ends after a fault of the desk.
use Rattle.desk_io.specs.declared.desk.DeskFault.{DeskFault}
use Rattle.desk_io.specs.declared.desk.DeskFault.TheVariants as fault
use Rattle.desk_io.specs.declared.read.ReadEnd.{ReadEnd}
use Rattle.desk_io.specs.declared.read.ReadEnd.TheVariants as end

abbrev pub end_by : DeskFault → ReadEnd
end_by fault.Failed = end.Failed
end_by fault.Memory = end.Memory
