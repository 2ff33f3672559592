use Rattle.std.proofs.Common.{sym, ◌∙◌}
use Rattle.prove_open.proofs.ScopeLaws.{stays_no_hypotheses}
use Rattle.prove_open.proofs.differences.difference_under.Goals as goal

pub disjoint_under-requires-clause-ready : goal.disjoint_under-requires-clause-ready
disjoint_under-requires-clause-ready c = record {
  well_sorted = c.requires.well_sorted;
  given = c.requires.given;
}

pub disjoint_under-requires-clause-clash : goal.disjoint_under-requires-clause-clash
disjoint_under-requires-clause-clash c = record {
  covered = c.requires.covered;
  differ = c.requires.differ;
  both_is = sym c.are_constructors.ensures ∙ c.if-are_constructors.true;
  free = c.requires.no_ac;
}

pub unequal_under-requires-clause-ready : goal.unequal_under-requires-clause-ready
unequal_under-requires-clause-ready c = record {
  well_sorted = c.requires.well_sorted;
  given = c.requires.given;
}

pub unequal_under-requires-clause-clash : goal.unequal_under-requires-clause-clash
unequal_under-requires-clause-clash c = record {
  covered = c.requires.covered;
  differ = c.requires.differ;
  both_is = sym c.are_constructors.ensures ∙ c.if-are_constructors.false;
  free = c.requires.no_ac;
}

pub returns-then-are_constructors-clause-no_hypotheses :
    goal.returns-then-are_constructors-clause-no_hypotheses
returns-then-are_constructors-clause-no_hypotheses c =
    stays_no_hypotheses c.disjoint_under.new.cx c.in_ok-apart.apart
    c.in_ok-apart.ensures.is.stays

pub returns-clause-no_hypotheses : goal.returns-clause-no_hypotheses
returns-clause-no_hypotheses c =
    stays_no_hypotheses c.unequal_under.new.cx c.in_ok-unequal.unequal
    c.in_ok-unequal.ensures.is.stays
