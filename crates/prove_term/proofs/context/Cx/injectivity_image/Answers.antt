use Rattle.std.proofs.Common.{◌∷◌, [], subst, sym}
use Rattle.prove_term.specs.Contexts.{Context}
use Rattle.prove_term.specs.ContextView.{context_of}
use Rattle.prove_term.proofs.ResultLaws.{if_ok}
use Rattle.prove_term.proofs.KeptInside.{kept_gains, grown_gains}
use Rattle.prove_term.proofs.ApartShapes.{says_injective}
use Rattle.prove_term.proofs.OpenAxiomLaws.{injective_assumed}
use Rattle.ml_image.specs.HasImages.{CanInject}
use Rattle.prove_term.proofs.InjectionShapes.{can_inject_below}
use Rattle.prove_term.proofs.context.Cx.injectivity_image.Goals as goal

pub inj_injective-requires-clause-sorts : goal.inj_injective-requires-clause-sorts
inj_injective-requires-clause-sorts c =
    subst (λ (v : Context). CanInject v.program.sig (c.args.from.0 ∷ c.args.to.0 ∷ []))
    (sym c.self.view_is)
    (can_inject_below c.args.self.now.program.sig c.args.from.0 c.args.to.0 c.requires)

pub invariant_of-self : goal.invariant_of-self
invariant_of-self c =
    kept_gains c.self.inside c.inj_injective.new.names c.self.invariant
    c.inj_injective.ensures.names

pub returns-clause-says : goal.returns-clause-says
returns-clause-says c =
    if_ok c.inj_injective.result (λ p h. says_injective
    (context_of (record c.self.inside { names = c.inj_injective.new.names })) c.args.from.0
    c.args.to.0 p h)
    c.inj_injective.ensures.image

pub returns-clause-assumed : goal.returns-clause-assumed
returns-clause-assumed c =
    if_ok c.inj_injective.result (λ p h. injective_assumed
    (context_of (record c.self.inside { names = c.inj_injective.new.names })) c.args.from.0
    c.args.to.0 p h)
    c.inj_injective.ensures.image

pub returns-clause-grown : goal.returns-clause-grown
returns-clause-grown c =
    grown_gains c.self.inside c.args.self.now c.inj_injective.new.names c.self.view_is
    c.inj_injective.ensures.names
