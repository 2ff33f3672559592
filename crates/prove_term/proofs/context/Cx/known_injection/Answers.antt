use Rattle.std.proofs.Common.{ℕ, Option, sym, ◌∙◌, subst}
use Rattle.std.specs.Prelude.{IfSome}
use Rattle.prove_term.specs.Contexts.{Context}
use Rattle.prove_term.specs.ContextView.{context_of}
use Rattle.prove_term.specs.Injections.{IsInjectionAt}
use Rattle.prove_term.proofs.context.Cx.known_injection.Goals as goal

pub returns : goal.returns
returns c =
    subst (λ (v : Context). IfSome c.copied.result (IsInjectionAt v c.args.from.0 c.args.to.0))
    c.self.view_is
    (subst (λ (o : Option ℕ).
    IfSome o (IsInjectionAt (context_of c.self.inside) c.args.from.0 c.args.to.0))
    (sym (c.copied.ensures ∙ c.get.ensures.value))
    (c.self.invariant.injections (c.args.from.0, c.args.to.0)))
