use Rattle.std.proofs.Common.{take}
use Rattle.std.specs.List.{AllZip}
use Rattle.prove_term.specs.EqualityLemmas.{ProvesEither}
use Rattle.prove_term.proofs.equalities.proofs.Given as goal

abbrev pub invariant-loop-hypothesis : goal.invariant-loop-hypothesis
invariant-loop-hypothesis l =
    AllZip (ProvesEither l.first l.second) (take l.hypothesis-index l.hypotheses) l.proofs.items
