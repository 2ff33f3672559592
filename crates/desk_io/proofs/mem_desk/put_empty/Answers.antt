use Rattle.desk_io.proofs.Memory.{without-none, without-some, named_bytes-put, named_bytes-replace}
use Rattle.desk_io.proofs.mem_desk.put_empty.Goals as goal

pub returns-in-Some-clause-put : goal.returns-in-Some-clause-put
returns-in-Some-clause-put c =
    let files = c.args.files.now.items in
    named_bytes-replace files c.insert.new.self.items c.remove.new.self.items
    (c.in_ok-from_str.field-0, c.new.result) c.args.name.now c.in-Some.at
    c.in_ok-insert.ensures.items c.remove.ensures.items c.in_ok-from_str.ensures.ok
    c.new.ensures.items
    (without-some files c.args.name.now c.in-Some.at
    (rw c.deref.ensures.value at c.in-Some.ensures))

pub returns-in_default-clause-put : goal.returns-in_default-clause-put
returns-in_default-clause-put c =
    let files = c.args.files.now.items in
    named_bytes-put files c.insert.new.self.items (c.in_ok-from_str.field-0, c.new.result)
    c.args.name.now c.in_ok-insert.ensures.items c.in_ok-from_str.ensures.ok c.new.ensures.items
    (without-none files c.args.name.now (rw c.deref.ensures.value at c.in_default.ensures))
