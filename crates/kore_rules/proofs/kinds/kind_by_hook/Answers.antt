use Rattle.std.proofs.Common.{◌≡◌, ◌∙◌, ap, sym, List, ℕ, Option, Some, None}
use Rattle.std.specs.Prelude.{option_map}
use Rattle.term_core.specs.declared.ids.HookNo.{HookNo}
use Rattle.hook_table.specs.Names.{hook_number}
use Rattle.kore_rules.specs.ScalarSorts.{kind_of_number}
use Rattle.kore_rules.proofs.kinds.kind_by_hook.Goals as goal

pub returns-in-Some : goal.returns-in-Some
returns-in-Some c =
    let number : Some c.in-Some.number.0 ≡ hook_number c.args.name.now =
    ap (option_map (λ (h : HookNo). h.0)) (sym c.in-Some.is) ∙ c.find.ensures
    ∙ ap hook_number c.as_bytes.ensures.value in
    c.kind_of_number.ensures
    ∙ ap (kind_of_number c.args.sig.now c.args.with_terms.now c.args.symbol.now) number

pub returns-in-None : goal.returns-in-None
returns-in-None c =
    let number : None ≡ hook_number c.args.name.now =
    ap (option_map (λ (h : HookNo). h.0)) (sym c.in-None.is) ∙ c.find.ensures
    ∙ ap hook_number c.as_bytes.ensures.value in
    ap (kind_of_number c.args.sig.now c.args.with_terms.now c.args.symbol.now) number
