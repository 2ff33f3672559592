use Rattle.kore_prove.proofs.Ending.{same_bytes, same_files}
use Rattle.kore_prove.proofs.Answering.{memory_answered}
use Rattle.kore_prove.proofs.in_out.exit_of_call.Goals as goal

pub returns-in-Ok-clause-answered : goal.returns-in-Ok-clause-answered
returns-in-Ok-clause-answered g c =
    let main = c.kore_main.ensures in
    rw (c.in-Ok.is, c.exit.ensures, ← c.deref.ensures.value) (record {
      printed_run = main.printed_run;
      proved_run = main.proved_run;
      shown_stuck = main.shown_stuck;
      proof_front = main.proof_front;
      hinted_run = main.hinted_run;
      hint_front = main.hint_front;
      verdict = main.verdict;
      checked = main.checked;
      proved_path = main.proved_path;
      path_front = main.path_front;
      drilled = main.drilled;
      drill_front = main.drill_front;
      ends = main.ends;
      stops_printing = main.stops_printing;
      fails_in_printing = main.fails_in_printing;
      complete = main.complete;
      complete_verdict = main.complete_verdict;
      complete_check = main.complete_check;
      complete_path = main.complete_path;
      complete_drill = main.complete_drill;
      bad_words = main.bad_words;
      others = main.others;
      files = main.files;
    })

pub returns-in-Err-Memory-clause-unknown : goal.returns-in-Err-Memory-clause-unknown
returns-in-Err-Memory-clause-unknown g c = λ is given.
    rw c.exit-in-Err-Memory.ensures
    (memory_answered _ _ (same_bytes _) (same_files _) c.report.ensures)
