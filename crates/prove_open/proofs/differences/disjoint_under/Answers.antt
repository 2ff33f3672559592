use Rattle.ml_pat.specs.Patterns.{and}
use Rattle.term_core.specs.RulePatterns.{plain_pattern}
use Rattle.prove_term.proofs.ResultLaws.{if_ok_two}
use Rattle.prove_open.proofs.KeptApart.{kept_denied}
use Rattle.prove_open.proofs.differences.disjoint_under.Goals as goal

pub kept_apart-requires-clause-ready : goal.kept_apart-requires-clause-ready
kept_apart-requires-clause-ready c = c.requires.ready

pub kept_apart-requires-clause-clash : goal.kept_apart-requires-clause-clash
kept_apart-requires-clause-clash c = c.requires.clash

pub denied-requires : goal.denied-requires
denied-requires c = (
  and c.in_ok-apart.ensures.apart.left c.in_ok-apart.ensures.apart.right,
  c.in_ok-apart.ensures.apart.says,
)

pub returns-clause-is : goal.returns-clause-is
returns-clause-is c =
    if_ok_two c.denied.result
    (λ made denied stays. kept_denied c.kept_apart.new.cx c.args.given.now.hypothesis
    (plain_pattern c.args.left.now) (plain_pattern c.args.right.now) c.in_ok-apart.apart made
    c.in_ok-apart.ensures.apart denied stays)
    c.denied.ensures.conclusion c.denied.ensures.stays
