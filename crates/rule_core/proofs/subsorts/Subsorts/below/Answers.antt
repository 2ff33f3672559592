use Rattle.std.proofs.Common.{◌≡◌, ◌∙◌, sym, rules}
use Rattle.rule_core.specs.Subsorts.{is_below}
use Rattle.rule_core.proofs.Belows.{is_below-true, true-is_below}
use Rattle.rule_core.proofs.subsorts.Subsorts.below.Goals as goal

pub returns : goal.returns
returns c =
    let same : c.is_in.result ≡ is_below c.args.self.now c.args.a.0 c.args.b.0 = search rules in
    (λ yes. is_below-true _ _ _ (sym same ∙ yes), λ below. same ∙ true-is_below _ _ _ below)
