use Rattle.std.proofs.Common.{rules, ◌≡◌, slice_get, Some, ap, sym, ◌∙◌}
use Rattle.mm_frame.specs.KnownNames.{name_in}
use Rattle.mm_frame.proofs.KnownEntries.{entry-known}
use Rattle.mm_frame.proofs.names.Names.near.Goals as goal

pub returns-then-is_of : goal.returns-then-is_of
returns-then-is_of c =
    let names = name_in c.args.self.now.ordered in
    let entry = c.in_ok-entry.entry.now in
    let found : slice_get c.args.self.now.entries.items c.in_ok-number.number.now ≡ Some entry =
    search rules in
    ap names (sym (c.is_of.ensures c.if-is_of.true))
    ∙ entry-known names c.args.self.now.entries.items c.in_ok-number.number.now entry
    c.args.self.now.known found
