use Rattle.std.proofs.Common.{◌≡◌, ◌∙◌, ap, sym, List, ℕ, Option, Some}
use Rattle.std.specs.Prelude.{String, option_map, string_bytes}
use Rattle.std.specs.Global.{Global}
use Rattle.kore_rules.specs.ScalarSorts.{kind_by_hook, kind_of_function}
use Rattle.kore_rules.proofs.kinds.kind_of_function.Goals as goal

pub returns-in-Some : goal.returns-in-Some
returns-in-Some c =
    c.kind_by_hook.ensures
    ∙ ap (kind_by_hook c.args.sig.now c.args.with_terms.now c.args.symbol.now)
    c.as_str.ensures.value
    ∙ ap (λ (o : Option (String Global)). kind_of_function c.args.sig.now c.args.with_terms.now
    c.args.symbol.now c.args.unreadable (option_map string_bytes o)) (sym c.in-Some.is)
