use Rattle.std.proofs.Common.{ℕ, Option, sym, ◌∙◌, ap, subst}
use Rattle.std.specs.Prelude.{IfSome}
use Rattle.std.specs.BTreeMap as tree
use Rattle.std.specs.Ordering.{nat_cmp}
use Rattle.prove_term.specs.Contexts.{Context}
use Rattle.prove_term.specs.ContextView.{context_of}
use Rattle.prove_term.specs.EqualityLemmas.{IsEqualityAt}
use Rattle.prove_term.proofs.context.Cx.known_equality.Goals as goal

pub returns : goal.returns
returns c =
    subst (λ (v : Context). IfSome c.copied.result (IsEqualityAt v c.args.which)) c.self.view_is
    (subst (λ (o : Option ℕ). IfSome o (IsEqualityAt (context_of c.self.inside) c.args.which))
    (sym (c.copied.ensures ∙ c.get.ensures.value
    ∙ ap (tree.get nat_cmp c.self.inside.equalities) c.number.ensures))
    (c.self.invariant.equalities c.args.which))
