use Rattle.desk_io.specs.Memory.{named_bytes}
use Rattle.desk_io.proofs.Memory.{first_named, writes_first}
use Rattle.desk_io.proofs.mem_desk.MemDeskDesk.write.Goals as goal

pub returns-in-Ok-clause-writes : goal.returns-in-Ok-clause-writes
returns-in-Ok-clause-writes c =
    let desk = c.args.self.now in
    writes_first (named_bytes desk.files.items) (named_bytes c.append_to_first.new.files.items)
    desk.reading desk.created _ c.requires (first_named desk.files (desk.first c.requires))
    c.in-Ok.ensures.grown desk.within desk.ended
