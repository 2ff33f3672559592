use Rattle.prove_term.specs.ContextView.{context_of}
use Rattle.prove_term.proofs.ResultLaws.{if_ok}
use Rattle.prove_term.proofs.KeptInside.{kept_gains, grown_gains}
use Rattle.prove_term.proofs.InjectionShapes.{says_injecting, subsort_assumed}
use Rattle.prove_term.proofs.context.Cx.subsort_image.Goals as goal

pub invariant_of-self : goal.invariant_of-self
invariant_of-self c =
    kept_gains c.self.inside c.inj_total.new.names c.self.invariant c.inj_total.ensures.names

pub returns-clause-says : goal.returns-clause-says
returns-clause-says c =
    if_ok c.inj_total.result (λ p h. says_injecting
    (context_of (record c.self.inside { names = c.inj_total.new.names })) c.args.from.0
    c.args.to.0 p h) c.inj_total.ensures.image

pub returns-clause-assumed : goal.returns-clause-assumed
returns-clause-assumed c =
    if_ok c.inj_total.result (λ p h. subsort_assumed
    (context_of (record c.self.inside { names = c.inj_total.new.names })) c.args.from.0
    c.args.to.0 p h) c.inj_total.ensures.image

pub returns-clause-grown : goal.returns-clause-grown
returns-clause-grown c =
    grown_gains c.self.inside c.args.self.now c.inj_total.new.names c.self.view_is
    c.inj_total.ensures.names
