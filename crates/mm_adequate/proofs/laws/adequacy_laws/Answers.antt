use Rattle.mm_adequate.proofs.Adequacy.{justified_derived, run_derived}
use Rattle.mm_adequate.proofs.OwnAxioms.{assumes_closed}
use Rattle.mm_adequate.proofs.laws.adequacy_laws.Goals as goal

pub returns : goal.returns
returns c = record {
  closed = assumes_closed;
  justified = justified_derived;
  run = run_derived;
}
