use Rattle.std.proofs.Common.{rules, ◌≡◌}
use Rattle.ml_pat.specs.Patterns.{imp, equal}
use Rattle.prove_open.proofs.instances.carried_under.Goals as goal

pub under-requires-clause-b : goal.under-requires-clause-b
under-requires-clause-b c =
    let e : c.args.equality.now.conclusion ≡ imp c.args.h.now (equal c.in-Equal.left c.in-Equal.right) = search rules in
    c.in_ok-open.ensures.conclusion c.args.h.now (equal c.in-Equal.left c.in-Equal.right) (imp c.sides-2.result.1.now c.in_ok-moved.moved) e c.in_ok-rule.ensures.conclusion
