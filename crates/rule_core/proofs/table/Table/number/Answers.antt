use Rattle.std.proofs.Common.{◌∙◌, ap}
use Rattle.rule_core.specs.Named.{number_of_name}
use Rattle.rule_core.proofs.Tables.{index-named}
use Rattle.rule_core.proofs.table.Table.number.Goals as goal

pub returns : goal.returns
returns g c =
    c.get_index_of.ensures.index ∙ index-named c.args.name.now c.self.inside.entries.entries
    ∙ ap (λ es. number_of_name es c.args.name.now) c.self.view_is
