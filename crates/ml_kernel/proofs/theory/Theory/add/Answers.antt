use Rattle.std.proofs.Common.{List, subst, sym}
use Rattle.ml_pat.specs.Patterns.{Pattern}
use Rattle.ml_kernel.specs.TheoryView.{HaveNoMetas}
use Rattle.ml_kernel.proofs.InstanceLaws.{HaveNoMetas-push}
use Rattle.ml_kernel.proofs.theory.Theory.add.Goals as goal

pub invariant_of-self-2 : goal.invariant_of-self-2
invariant_of-self-2 c =
    subst (λ (ps : List Pattern). HaveNoMetas ps) (sym c.in_ok-push.ensures.items)
    (HaveNoMetas-push c.self.inside.axioms.items c.args.pattern c.self.invariant c.requires)
