-- The fault of the desk by which a call of a proof ended.
use Rattle.desk_io.specs.declared.desk.DeskFault.{DeskFault}
use Rattle.desk_io.specs.declared.desk.DeskFault.TheVariants as fault
use Rattle.prove_run.specs.declared.ends.ProveEnd.{ProveEnd}
use Rattle.prove_run.specs.declared.ends.ProveEnd.TheVariants as end

abbrev pub fault_by : ProveEnd → DeskFault
fault_by end.Failed = fault.Failed
fault_by end.Memory = fault.Memory
