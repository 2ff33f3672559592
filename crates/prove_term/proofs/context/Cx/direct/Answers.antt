use Rattle.prove_term.proofs.InjectionSteps.{injected_by_pair}
use Rattle.prove_term.proofs.context.Cx.direct.Goals as goal

pub add_injection-requires-clause-is : goal.add_injection-requires-clause-is
add_injection-requires-clause-is c =
    injected_by_pair c.subsort.new.self c.args.from.0 c.args.to.0 c.in_ok-total.total
    c.in_ok-lemma.lemma c.in_ok-total.ensures.says c.in_ok-lemma.ensures.says
