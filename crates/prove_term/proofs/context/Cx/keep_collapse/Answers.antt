use Rattle.std.proofs.Common.{sym, subst}
use Rattle.prove_term.specs.Contexts.{Context}
use Rattle.prove_term.specs.ContextView.{context_of}
use Rattle.prove_term.specs.Injections.{IsCollapseAt}
use Rattle.prove_term.proofs.KeptSorts.{collapses_kept}
use Rattle.prove_term.proofs.context.Cx.keep_collapse.Goals as goal

pub invariant_of-self-2 : goal.invariant_of-self-2
invariant_of-self-2 c = record {
  context = c.self.invariant.context;
  rules = c.self.invariant.rules;
  values = c.self.invariant.values;
  theorems = c.self.invariant.theorems;
  stated = c.self.invariant.stated;
  constructors = c.self.invariant.constructors;
  injections = c.self.invariant.injections;
  collapses =
      collapses_kept (context_of c.self.inside) c.self.inside.collapses c.insert.new.self
      c.args.from.0 c.args.through.0 c.args.to.0 c.args.place
      (subst (λ (v : Context).
      IsCollapseAt v c.args.from.0 c.args.through.0 c.args.to.0 c.args.place)
      (sym c.self.view_is) c.requires) c.in_ok-insert.ensures.updates
      c.self.invariant.collapses;
  equalities = c.self.invariant.equalities;
}
