use Rattle.std.proofs.Common.{◌≡◌, ap, ◌∙◌, string_bytes, rules, false, is_some, ◌++◌, ◌∷◌, []}
use Rattle.rule_core.specs.Named.{number_of_name}
use Rattle.rule_core.specs.TableFields.{entries_of}
use Rattle.rule_core.proofs.Tables.{AreDistinct-push, entries-added}
use Rattle.rule_core.proofs.table.Table.insert.Goals as goal

pub invariant_of-self-2 : goal.invariant_of-self-2
invariant_of-self-2 g c =
    let absent : is_some (number_of_name (entries_of c.self.inside) (string_bytes c.args.name))
    ≡ false =
    search rules in
    rw (entries-added c.self.inside.entries c.args.name c.args.value c.insert.new.self.entries
    absent
    c.in_ok-insert.ensures.entries) (AreDistinct-push _ _ _ c.self.invariant absent)

pub returns-clause-entries : goal.returns-clause-entries
returns-clause-entries g c =
    let absent : is_some (number_of_name (entries_of c.self.inside) (string_bytes c.args.name))
    ≡ false =
    search rules in
    entries-added c.self.inside.entries c.args.name c.args.value c.insert.new.self.entries absent
    c.in_ok-insert.ensures.entries
    ∙ ap (λ es. es ++ (string_bytes c.args.name, c.args.value) ∷ []) c.self.view_is
