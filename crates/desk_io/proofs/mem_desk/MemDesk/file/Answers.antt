use Rattle.std.proofs.Common.{Some, None, sym, ◌∙◌, ap}
use Rattle.desk_io.specs.Memory.{named_bytes}
use Rattle.desk_io.proofs.Memory.{StandsAt, stands_at, found_content}
use Rattle.desk_io.proofs.mem_desk.MemDesk.file.Goals as goal

pub returns-in-Some : goal.returns-in-Some
returns-in-Some c =
    let files = c.args.self.now.files.items in
    let h : StandsAt (named_bytes files) c.args.name.now (Some c.in-Some.file) =
    stands_at files c.args.name.now (Some c.in-Some.file)
    (rw c.deref.ensures.value at c.in-Some.ensures) in
    ap (λ xs. Some xs) c.as_slice.ensures.value
    ∙ found_content files c.args.name.now c.in-Some.file c.index.result.now h c.index.ensures

pub returns-in-None : goal.returns-in-None
returns-in-None c =
    sym (stands_at c.args.self.now.files.items c.args.name.now None (rw c.deref.ensures.value at
    c.in-None.ensures))
