use Rattle.std.proofs.Common.{ℕ, List, string_bytes, subst}
use Rattle.std.specs.Str.{IsUtf8}
use Rattle.assumed_texts.specs.Filing.{Finds}
use Rattle.assumed_texts.proofs.FilingLaws.{filed-there, filed-inserted, filed-kept-out}
use Rattle.assumed_texts.proofs.filing.file_by.Goals as goal

pub returns-then-in_table : goal.returns-then-in_table
returns-then-in_table c names is =
    filed-there names c.args.image.now c.args.filed.now.by_text c.args.filed.now.others.items
    (subst IsUtf8 is c.utf8.name)
    (subst (λ (t : List ℕ). Finds c.args.filed.now.by_text t c.args.image.now) is
    (c.in_table.ensures.0 c.if-in_table.true))

pub returns-then-branch : goal.returns-then-branch
returns-then-branch c names is =
    filed-inserted names c.args.image.now c.in_ok-share.field-0 c.args.filed.now.by_text
    c.insert.new.self c.args.filed.now.others.items c.args.name.now
    (string_bytes c.in_ok-held.held) c.in_ok-insert.field-0 c.in_ok-share.ensures is c.utf8.name
    c.in_ok-held.ensures.ok c.in_ok-insert.ensures.fresh c.in_ok-insert.ensures.entries
    c.if-branch.true

pub returns : goal.returns
returns c names is =
    filed-kept-out names c.args.image.now c.in_ok-share-2.field-0 c.in_ok-share.field-0
    c.args.filed.now.by_text c.insert.new.self c.args.filed.now.others.items
    c.push.new.self.items (string_bytes c.in_ok-held.held) c.in_ok-insert.field-0
    c.in_ok-insert.ensures.entries c.if-branch.false c.in_ok-share-2.ensures
    c.in_ok-push.ensures.items
