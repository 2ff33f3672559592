use Rattle.std.proofs.Common.{List, ℕ, Option, Some, None, refl, ap}
use Rattle.desk_io.specs.Told.{Told}
use Rattle.desk_io.specs.Memory.{named_bytes}
use Rattle.desk_io.specs.MemDesk.{created_of}
use Rattle.desk_io.proofs.Memory.{StandsAt, stands_at, unread_part-opened}
use Rattle.desk_io.proofs.mem_desk.MemDeskDesk.open_file.Goals as goal

pub returns-in-Some-clause-opens : goal.returns-in-Some-clause-opens
returns-in-Some-clause-opens c =
    let files = c.args.self.now.files.items in
    let h : StandsAt (named_bytes files) c.args.name.now (Some c.in-Some.file) =
    stands_at files c.args.name.now (Some c.in-Some.file)
    (rw c.deref.ensures.value at c.in-Some.ensures) in
    let told : List ℕ → Option Told =
    λ unread. Some (record {
      files = named_bytes files;
      unread = unread;
      created = created_of c.args.self.now;
    }) in (
      _,
      h.1,
      ap told (unread_part-opened files c.in-Some.file c.len-end.result c.index.result.now
          c.index.ensures h.0 c.len-end.ensures),
    )

pub returns-in-None-clause-opens : goal.returns-in-None-clause-opens
returns-in-None-clause-opens c = (
  stands_at c.args.self.now.files.items c.args.name.now None
      (rw c.deref.ensures.value at c.in-None.ensures),
  refl,
)
