use Rattle.std.proofs.Common.{sym, subst}
use Rattle.prove_term.specs.Contexts.{Context}
use Rattle.prove_term.specs.ContextView.{context_of}
use Rattle.prove_term.specs.EqualityLemmas.{IsEqualityAt}
use Rattle.prove_term.proofs.KeptEqualities.{equalities_kept}
use Rattle.prove_term.proofs.context.Cx.keep_equality.Goals as goal

pub invariant_of-self-2 : goal.invariant_of-self-2
invariant_of-self-2 c = record {
  context = c.self.invariant.context;
  rules = c.self.invariant.rules;
  values = c.self.invariant.values;
  theorems = c.self.invariant.theorems;
  stated = c.self.invariant.stated;
  constructors = c.self.invariant.constructors;
  injections = c.self.invariant.injections;
  collapses = c.self.invariant.collapses;
  equalities =
      equalities_kept (context_of c.self.inside) c.self.inside.equalities c.insert.new.self
      c.args.which c.number.result c.args.place c.number.ensures
      (subst (λ (v : Context). IsEqualityAt v c.args.which c.args.place) (sym c.self.view_is)
      c.requires) c.in_ok-insert.ensures.updates c.self.invariant.equalities;
}
