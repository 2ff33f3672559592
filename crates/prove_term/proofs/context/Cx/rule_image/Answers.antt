use Rattle.std.proofs.Common.{subst, sym}
use Rattle.rule_core.specs.declared.rules.Rule.{Rule}
use Rattle.rule_core.specs.ProgramView.{rewrite_rule}
use Rattle.ml_image.specs.OwnAxioms.{SaysRule}
use Rattle.ml_image.specs.HasImages.{HasRuleImage}
use Rattle.ml_image.specs.Sentences.{IsImageOf}
use Rattle.prove_term.specs.Contexts.{Context}
use Rattle.prove_term.specs.RuleAxioms.{HasImageAt}
use Rattle.prove_term.proofs.ResultLaws.{if_ok}
use Rattle.prove_term.proofs.KeptInside.{kept_gains, grown_gains}
use Rattle.prove_term.proofs.KeptLaws.{rule_found}
use Rattle.prove_term.proofs.context.Cx.rule_image.Goals as goal

pub rule_image-requires : goal.rule_image-requires
rule_image-requires c =
    let has : HasImageAt c.self.inside.program.now c.args.rule =
    subst (λ (v : Context). HasImageAt v.program c.args.rule) (sym c.self.view_is) c.requires in
    subst (λ (r : Rule). HasRuleImage c.self.inside.program.now.sig (rewrite_rule r))
    (rule_found c.self.inside.program.now.rules.items c.args.rule has.0 c.index-stated.result.now
    has.1 (sym c.index-stated.ensures)) has.2

pub invariant_of-self : goal.invariant_of-self
invariant_of-self c =
    kept_gains c.self.inside c.rule_image.new.names c.self.invariant c.rule_image.ensures.names

pub returns-clause-image : goal.returns-clause-image
returns-clause-image c =
    if_ok c.rule_image.result
    (λ p h. λ r there.
    subst (λ (q : Rule). IsImageOf c.self.inside.program.now.sig c.rule_image.new.names
    (SaysRule c.self.inside.program.now.sig (rewrite_rule q)) p)
    (sym (rule_found c.self.inside.program.now.rules.items c.args.rule r c.index-stated.result.now
    there (sym c.index-stated.ensures))) h)
    c.rule_image.ensures.image

pub returns-clause-grown : goal.returns-clause-grown
returns-clause-grown c =
    grown_gains c.self.inside c.args.self.now c.rule_image.new.names c.self.view_is
    c.rule_image.ensures.names
