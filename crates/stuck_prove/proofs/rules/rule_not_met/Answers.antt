use Rattle.std.proofs.Common.{◌≡◌, length, sym, ◌∙◌, ap, subst, arith}
use Rattle.ml_pat.specs.Patterns.{Pattern, bot, imp}
use Rattle.rule_core.specs.ProgramView.{rewrite_rule, sorts_of}
use Rattle.rule_core.specs.WellSorted.{IsRuleOf}
use Rattle.rule_core.specs.declared.rules.Program.{Program}
use Rattle.ml_image.proofs.ConditionLaws.{length-sorts_of}
use Rattle.prove_term.proofs.ContextLaws.{grown_twice}
use Rattle.prove_term.proofs.ResultLaws.{if_ok_two}
use Rattle.refute_body.proofs.Shapes.{imp_right}
use Rattle.stuck_prove.specs.Settings.{IsSettingOf}
use Rattle.stuck_prove.specs.Trials.{IsShowable}
use Rattle.stuck_prove.proofs.RuleLaws.{can_close, closed_is, says_not_met, setting_grown}
use Rattle.stuck_prove.proofs.rules.rule_not_met.Goals.{After-len, In_ok-none, In_ok-none-2}
use Rattle.stuck_prove.proofs.rules.rule_not_met.Goals as goal

pub setting_of-requires-clause-rule : goal.setting_of-requires-clause-rule
setting_of-requires-clause-rule c = (
  c.requires.sorted.0,
  subst (λ (program : Program). IsRuleOf program.sig c.requires.sorted.0
      (rewrite_rule c.args.rule.now)) (sym c.requires.program) c.requires.sorted.1,
)

pub body_denied-requires-clause-showable : goal.body_denied-requires-clause-showable
body_denied-requires-clause-showable c =
    subst IsShowable (sym c.in_ok-setting.ensures.grown.program) c.requires.showable

-- there are as many variables as quantifiers
many : (c : After-len) → c.len.result ≡ length (sorts_of c.args.rule.now.vars.items)
many c = omega (arith, c.len.ensures, length-sorts_of c.args.rule.now.vars.items)

-- the setting, in the context as it has grown
setting : (c : In_ok-none) → IsSettingOf c.body_denied.new.cx (rewrite_rule c.args.rule.now)
    c.in_ok-setting.setting
setting c =
    setting_grown c.setting_of.new.cx c.body_denied.new.cx (rewrite_rule c.args.rule.now)
    c.in_ok-setting.setting c.in_ok-none.ensures.grown c.in_ok-setting.ensures.setting

pub closed-requires : goal.closed-requires
closed-requires c =
    can_close c.body_denied.new.cx (rewrite_rule c.args.rule.now) c.args.config.now
    c.in_ok-setting.setting c.in_ok-none.none c.len.result (many c)
    (setting (goal.at.closed-requires c).In_ok-none) c.in_ok-none.ensures.denied

-- the quantified body does not hold
closed : (c : In_ok-none-2) → c.len.result ≡ length (sorts_of c.args.rule.now.vars.items)
    → IsSettingOf c.body_denied.new.cx (rewrite_rule c.args.rule.now) c.in_ok-setting.setting
    → (e : Pattern) × (c.in_ok-none-2.none.conclusion ≡ imp e bot)
closed c as_many is =
    closed_is c.body_denied.new.cx (rewrite_rule c.args.rule.now) c.args.config.now
    c.in_ok-setting.setting c.in_ok-none.none c.in_ok-none-2.none c.len.result as_many is
    c.in_ok-none.ensures.denied c.in_ok-none-2.ensures.conclusion

pub sides-requires : goal.sides-requires
sides-requires c =
    let w = closed (goal.at.sides-requires c).In_ok-none-2
    (many (goal.at.sides-requires c).After-len) (setting (goal.at.sides-requires c).In_ok-none) in
    (w.0, bot, c.conclusion.ensures ∙ w.1)

pub to_not-requires : goal.to_not-requires
to_not-requires c =
    let w = closed (goal.at.to_not-requires c).In_ok-none-2
    (many (goal.at.to_not-requires c).After-len) (setting (goal.at.to_not-requires c).In_ok-none) in
    let nothing : c.sides.result.1.now ≡ bot =
    imp_right c.sides.result.0.now c.sides.result.1.now w.0 bot
    (sym c.sides.ensures ∙ c.conclusion.ensures ∙ w.1) in
    sym c.conclusion.ensures ∙ c.sides.ensures ∙ ap (imp c.sides.result.0.now) nothing

pub returns-clause-says : goal.returns-clause-says
returns-clause-says c =
    if_ok_two c.to_not.result
    (λ t says stays. says_not_met c.body_denied.new.cx (rewrite_rule c.args.rule.now)
    c.args.config.now c.in_ok-setting.setting c.in_ok-none.none c.in_ok-none-2.none t c.len.result
    c.sides.result.0.now c.sides.result.1.now (many (goal.at.returns-clause-says c).After-len)
    (setting (goal.at.returns-clause-says c).In_ok-none) c.in_ok-none.ensures.denied
    c.in_ok-none-2.ensures.conclusion (sym c.conclusion.ensures ∙ c.sides.ensures) says
    c.in_ok-none-2.ensures.stays stays) c.to_not.ensures.conclusion c.to_not.ensures.stays

pub returns-in_err-none-2-clause-grown : goal.returns-in_err-none-2-clause-grown
returns-in_err-none-2-clause-grown c =
    grown_twice c.args.cx.now c.setting_of.new.cx c.body_denied.new.cx
    c.in_ok-setting.ensures.grown c.in_ok-none.ensures.grown

pub returns-clause-grown : goal.returns-clause-grown
returns-clause-grown c =
    grown_twice c.args.cx.now c.setting_of.new.cx c.body_denied.new.cx
    c.in_ok-setting.ensures.grown c.in_ok-none.ensures.grown
