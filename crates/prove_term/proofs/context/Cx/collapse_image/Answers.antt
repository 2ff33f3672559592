use Rattle.std.proofs.Common.{◌∷◌, [], subst, sym}
use Rattle.ml_image.specs.HasImages.{CanInject}
use Rattle.rule_core.specs.Subsorts.{IsBelow}
use Rattle.prove_term.specs.Contexts.{Context}
use Rattle.prove_term.specs.ContextView.{context_of}
use Rattle.prove_term.proofs.ResultLaws.{if_ok}
use Rattle.prove_term.proofs.KeptInside.{kept_gains, grown_gains}
use Rattle.prove_term.proofs.InjectionShapes.{says_collapsing, collapse_assumed, can_collapse}
use Rattle.prove_term.proofs.context.Cx.collapse_image.Goals as goal

pub inj_collapse-requires-clause-sorts : goal.inj_collapse-requires-clause-sorts
inj_collapse-requires-clause-sorts c =
    subst (λ (v : Context).
    CanInject v.program.sig (c.args.from.0 ∷ c.args.through.0 ∷ c.args.to.0 ∷ []))
    (sym c.self.view_is)
    (can_collapse c.args.self.now.program.sig c.args.from.0 c.args.through.0 c.args.to.0
    c.requires.below c.requires.above)

pub inj_collapse-requires-clause-upper : goal.inj_collapse-requires-clause-upper
inj_collapse-requires-clause-upper c =
    subst (λ (v : Context). IsBelow v.program.sig.subsorts c.args.through.0 c.args.to.0)
    (sym c.self.view_is) c.requires.above.below

pub invariant_of-self : goal.invariant_of-self
invariant_of-self c =
    kept_gains c.self.inside c.inj_collapse.new.names c.self.invariant c.inj_collapse.ensures.names

pub returns-clause-says : goal.returns-clause-says
returns-clause-says c =
    if_ok c.inj_collapse.result (λ p h. says_collapsing
    (context_of (record c.self.inside { names = c.inj_collapse.new.names })) c.args.from.0
    c.args.through.0 c.args.to.0 p h) c.inj_collapse.ensures.image

pub returns-clause-assumed : goal.returns-clause-assumed
returns-clause-assumed c =
    if_ok c.inj_collapse.result (λ p h. collapse_assumed
    (context_of (record c.self.inside { names = c.inj_collapse.new.names })) c.args.from.0
    c.args.through.0 c.args.to.0 p h) c.inj_collapse.ensures.image

pub returns-clause-grown : goal.returns-clause-grown
returns-clause-grown c =
    grown_gains c.self.inside c.args.self.now c.inj_collapse.new.names c.self.view_is
    c.inj_collapse.ensures.names
