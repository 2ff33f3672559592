use Rattle.prove_term.specs.Falling.{Falls}
use Rattle.prove_term.specs.Assuming.{PartlyFrom, StaysFrom}
use Rattle.prove_term.proofs.schemas.at_metas.Given as goal

abbrev pub invariant-loop-i : goal.invariant-loop-i
invariant-loop-i l = record {
  says : PartlyFrom l.count l.i l.initial.made l.made;
  falls : Falls l.i l.made.hypotheses;
  stays : StaysFrom l.initial.made l.made;
}
