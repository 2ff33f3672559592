use Rattle.desk_io.specs.Memory.{named_bytes}
use Rattle.desk_io.specs.MemDesk.{unread_of, created_of}
use Rattle.desk_io.proofs.Memory.{creates_first}
use Rattle.desk_io.proofs.mem_desk.MemDeskDesk.create_file.Goals as goal

pub returns-in-Ok-clause-creates : goal.returns-in-Ok-clause-creates
returns-in-Ok-clause-creates c =
    let desk = c.args.self.now in
    creates_first (named_bytes desk.files.items) (named_bytes c.put_empty.new.files.items)
    (unread_of desk) c.args.name.now (created_of desk) c.in-Ok.ensures.put
