use Rattle.std.proofs.Common.{◌≡◌, Some, None, option_map, slice_get, ap, sym, ◌∙◌}
use Rattle.std.specs.Option.{option_copied}
use Rattle.term_core.specs.RulePatterns.{plain_pattern}
use Rattle.term_core.specs.declared.ids.SortId.{SortId}
use Rattle.term_core.proofs.PlainPatterns.{plain-Var}
use Rattle.rule_core.specs.ProgramView.{sorts_of}
use Rattle.rule_core.specs.declared.rules.VarInfo.{VarInfo}
use Rattle.ml_image.specs.Premises.{sort_of}
use Rattle.ml_image.proofs.ConditionLaws.{sorts_of-get}
use Rattle.ml_image.proofs.rules.sort_of.Goals as goal

pub returns-in_err-variable-in-Var : goal.returns-in_err-variable-in-Var
returns-in_err-variable-in-Var c =
    let none : None ≡ slice_get c.args.vars.now c.in-Var.x =
    sym (ap option_copied c.in_err-variable-in-Var.was) ∙ c.variable.ensures in
    let sort : sort_of c.args.sig.now (sorts_of c.args.vars.now) (plain_pattern c.args.pat.now) ≡
    None =
    ap (sort_of c.args.sig.now (sorts_of c.args.vars.now))
    (ap plain_pattern c.in-Var.is ∙ plain-Var c.in-Var.x)
    ∙ sorts_of-get c.args.vars.now c.in-Var.x
    ∙ ap (option_map (λ (v : VarInfo). v.sort.0)) (sym none) in
    ap (option_map (λ (s : SortId). s.0)) c.from_residual.ensures ∙ sym sort

pub returns-in_ok-variable-in-Var : goal.returns-in_ok-variable-in-Var
returns-in_ok-variable-in-Var c =
    let there : Some c.in_ok-variable-in-Var.field-0.now ≡ slice_get c.args.vars.now c.in-Var.x =
    sym (ap option_copied c.in_ok-variable-in-Var.was) ∙ c.variable.ensures in
    let sort : sort_of c.args.sig.now (sorts_of c.args.vars.now) (plain_pattern c.args.pat.now) ≡
    Some c.in_ok-variable-in-Var.field-0.now.sort.0 =
    ap (sort_of c.args.sig.now (sorts_of c.args.vars.now))
    (ap plain_pattern c.in-Var.is ∙ plain-Var c.in-Var.x)
    ∙ sorts_of-get c.args.vars.now c.in-Var.x
    ∙ ap (option_map (λ (v : VarInfo). v.sort.0)) (sym there) in
    sym sort
