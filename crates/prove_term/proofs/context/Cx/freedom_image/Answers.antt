use Rattle.std.proofs.Common.{subst, sym}
use Rattle.prove_term.specs.Contexts.{Context}
use Rattle.prove_term.specs.ContextView.{context_of}
use Rattle.prove_term.proofs.ResultLaws.{if_ok}
use Rattle.prove_term.proofs.ContextLaws.{grown_none}
use Rattle.prove_term.proofs.KeptInside.{kept_gains, grown_gains}
use Rattle.prove_term.proofs.ApartShapes.{says_free}
use Rattle.prove_term.proofs.OpenAxiomLaws.{free_assumed}
use Rattle.ml_image.specs.HasImages.{HasFreedom}
use Rattle.prove_term.proofs.ApartShapes.{has_freedom}
use Rattle.prove_term.proofs.context.Cx.freedom_image.Goals as goal

pub returns-then-count-clause-grown : goal.returns-then-count-clause-grown
returns-then-count-clause-grown c = grown_none c.args.self.now

pub ctor_free-requires : goal.ctor_free-requires
ctor_free-requires c =
    subst (λ (v : Context). HasFreedom v.program.sig c.args.symbol.0) (sym c.self.view_is)
    (has_freedom c.args.self.now.program.sig c.args.symbol.0 c.count.result c.requires.signature
    c.requires.free c.count.ensures c.if-count.false)

pub invariant_of-self : goal.invariant_of-self
invariant_of-self c =
    kept_gains c.self.inside c.ctor_free.new.names c.self.invariant c.ctor_free.ensures.names

pub returns-clause-says : goal.returns-clause-says
returns-clause-says c =
    if_ok c.ctor_free.result (λ p h. says_free
    (context_of (record c.self.inside { names = c.ctor_free.new.names })) c.args.symbol.0 p h)
    c.ctor_free.ensures.image

pub returns-clause-assumed : goal.returns-clause-assumed
returns-clause-assumed c =
    if_ok c.ctor_free.result (λ p h. free_assumed
    (context_of (record c.self.inside { names = c.ctor_free.new.names })) c.args.symbol.0 p h)
    c.ctor_free.ensures.image

pub returns-clause-grown : goal.returns-clause-grown
returns-clause-grown c =
    grown_gains c.self.inside c.args.self.now c.ctor_free.new.names c.self.view_is
    c.ctor_free.ensures.names
