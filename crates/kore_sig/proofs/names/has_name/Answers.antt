use Rattle.std.proofs.Common.{◌∙◌, ap, ℕ, List}
use Rattle.std.specs.Prelude.{is_some}
use Rattle.rule_core.specs.Named.{number_of_name}
use Rattle.kore_sig.proofs.SetLaws.{number_among}
use Rattle.kore_sig.proofs.names.has_name.Goals as goal

pub returns-clause-among : goal.returns-clause-among
returns-clause-among g c =
    c.is_some.ensures
    ∙ ap is_some
    (c.number.ensures ∙ ap (λ (n : List ℕ). number_of_name c.args.names.now n) c.as_str.ensures)
    ∙ number_among c.args.names.now c.args.name.now
