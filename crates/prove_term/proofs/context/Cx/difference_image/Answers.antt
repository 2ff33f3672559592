use Rattle.std.proofs.Common.{subst, sym}
use Rattle.prove_term.specs.Contexts.{Context}
use Rattle.prove_term.specs.ContextView.{context_of}
use Rattle.prove_term.proofs.ResultLaws.{if_ok}
use Rattle.prove_term.proofs.KeptInside.{kept_gains, grown_gains}
use Rattle.prove_term.proofs.ApartShapes.{says_apart}
use Rattle.prove_term.proofs.OpenAxiomLaws.{apart_assumed}
use Rattle.ml_image.specs.HasImages.{HasDifference}
use Rattle.prove_term.proofs.ApartShapes.{has_difference}
use Rattle.prove_term.proofs.context.Cx.difference_image.Goals as goal

pub ctor_apart-requires : goal.ctor_apart-requires
ctor_apart-requires c =
    subst (λ (v : Context). HasDifference v.program.sig c.args.first.0 c.args.second.0)
    (sym c.self.view_is)
    (has_difference c.args.self.now.program.sig c.args.first.0 c.args.second.0 c.count.result
    c.count-else-count.result c.requires.signature c.requires.apart c.count.ensures
    c.count-else-count.ensures c.if-count.false c.if-count-2.false)

pub invariant_of-self : goal.invariant_of-self
invariant_of-self c =
    kept_gains c.self.inside c.ctor_apart.new.names c.self.invariant c.ctor_apart.ensures.names

pub returns-clause-says : goal.returns-clause-says
returns-clause-says c =
    if_ok c.ctor_apart.result (λ p h. says_apart
    (context_of (record c.self.inside { names = c.ctor_apart.new.names })) c.args.first.0
    c.args.second.0 p h)
    c.ctor_apart.ensures.image

pub returns-clause-assumed : goal.returns-clause-assumed
returns-clause-assumed c =
    if_ok c.ctor_apart.result (λ p h. apart_assumed
    (context_of (record c.self.inside { names = c.ctor_apart.new.names })) c.args.first.0
    c.args.second.0 p h)
    c.ctor_apart.ensures.image

pub returns-clause-grown : goal.returns-clause-grown
returns-clause-grown c =
    grown_gains c.self.inside c.args.self.now c.ctor_apart.new.names c.self.view_is
    c.ctor_apart.ensures.names
