use Rattle.prove_term.proofs.ResultLaws.{if_ok}
use Rattle.prove_term.proofs.InjectionLaws.{collapsing_opens, collapsed_from}
use Rattle.prove_term.proofs.joining.collapsed.Goals as goal

pub at_meta-requires-clause-opens : goal.at_meta-requires-clause-opens
at_meta-requires-clause-opens c =
    collapsing_opens c.args.collapse.now.conclusion c.requires.collapse.0 c.requires.collapse.1
    c.requires.collapse.2 c.requires.collapse.3 c.requires.collapse.4

pub returns-clause-says : goal.returns-clause-says
returns-clause-says c =
    if_ok c.at_meta.result
    (λ made opened. collapsed_from c.args.collapse.now made c.requires.no_hypotheses opened)
    c.at_meta.ensures.opened
