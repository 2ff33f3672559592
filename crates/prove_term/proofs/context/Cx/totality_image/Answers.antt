use Rattle.std.proofs.Common.{subst, sym}
use Rattle.ml_image.specs.HasImages.{HasTotality}
use Rattle.prove_term.specs.Contexts.{Context}
use Rattle.prove_term.specs.Constructing.{HasArity}
use Rattle.prove_term.proofs.ResultLaws.{if_ok}
use Rattle.prove_term.proofs.ContextLaws.{grown_none}
use Rattle.prove_term.proofs.ConstructingLaws.{has_totality, totality_assumed, says_totality}
use Rattle.prove_term.proofs.KeptInside.{kept_gains, grown_gains}
use Rattle.prove_term.specs.ContextView.{context_of}
use Rattle.prove_term.proofs.context.Cx.totality_image.Goals as goal

pub returns-then-count-clause-grown : goal.returns-then-count-clause-grown
returns-then-count-clause-grown c = grown_none c.args.self.now

pub ctor_total-requires : goal.ctor_total-requires
ctor_total-requires c =
    subst (λ (v : Context). HasTotality v.program.sig c.args.symbol.0) (sym c.self.view_is)
    (has_totality c.args.self.now.program.sig c.args.symbol.0 c.count.result c.requires.signature
    c.requires.constructs c.count.ensures c.if-count.false)

pub invariant_of-self : goal.invariant_of-self
invariant_of-self c =
    kept_gains c.self.inside c.ctor_total.new.names c.self.invariant c.ctor_total.ensures.names

pub returns-clause-says : goal.returns-clause-says
returns-clause-says c =
    let takes : HasArity c.self.inside.program.now.sig c.args.symbol.0 c.count.result =
    subst (λ (v : Context). HasArity v.program.sig c.args.symbol.0 c.count.result)
    (sym c.self.view_is) c.count.ensures in
    if_ok c.ctor_total.result
    (λ p h. says_totality (context_of (record c.self.inside { names = c.ctor_total.new.names }))
    c.args.symbol.0 c.count.result p takes c.if-count.false h)
    c.ctor_total.ensures.image

pub returns-clause-assumed : goal.returns-clause-assumed
returns-clause-assumed c =
    if_ok c.ctor_total.result (λ p h. totality_assumed
    (context_of (record c.self.inside { names = c.ctor_total.new.names })) c.args.symbol.0 p
    h) c.ctor_total.ensures.image

pub returns-clause-grown : goal.returns-clause-grown
returns-clause-grown c =
    grown_gains c.self.inside c.args.self.now c.ctor_total.new.names c.self.view_is
    c.ctor_total.ensures.names
