use Rattle.prove_fun.proofs.evaluating.value_eq.Goals as goal

pub value_held-requires-clause-recorded : goal.value_held-requires-clause-recorded
value_held-requires-clause-recorded c = record {
  ready = record { well_sorted = c.requires.well_sorted; bound = c.requires.bound };
  variables = c.requires.sorted.0;
  sort = c.requires.sorted.1;
  sorted = c.requires.sorted.2;
  serves = c.requires.sorted.3;
  records = c.requires.recorded;
}
