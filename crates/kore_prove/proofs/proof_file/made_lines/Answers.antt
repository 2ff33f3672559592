use Rattle.std.proofs.Common.{◌≡◌, ℕ, List, Some}
use Rattle.std.specs.Prelude.{option_copied}
use Rattle.term_core.specs.RulePatterns.{plain_pattern}
use Rattle.rule_core.specs.ProgramView.{theory_of}
use Rattle.run_loop.specs.RunEnds.{plain_run}
use Rattle.kore_prove.specs.Requests.{request, IsWanted}
use Rattle.kore_prove.proofs.HintWriting.{hints_front, proof_untouched, shown_untouched}
use Rattle.kore_prove.proofs.Performing.{proof_is_front}
use Rattle.kore_prove.proofs.proof_file.made_lines.Goals as goal

-- the file of the hints is another one
pub returns-in-Ok-clause-shows : goal.returns-in-Ok-clause-shows
returns-in-Ok-clause-shows g c =
    let asked = request c.args.asked.now in
    shown_untouched (λ other. asked.hints ≡ Some other) asked.proof
    (g.D.Desk.state c.args.desk.now).told (g.D.Desk.state c.made_run.new.desk).told
    (g.D.Desk.state c.write_hints.new.desk).told (theory_of c.args.accepted.now.program)
    (plain_run c.in_ok-made.made.end) c.in_ok-made.made.shown
    (λ file proof hints. c.requires.good_files.two file proof hints) c.in-Ok.ensures.files
    c.in_ok-made.ensures.shows

-- the proof is whole when the file of the hints fails
pub returns-clause-front : goal.returns-clause-front
returns-clause-front g c =
    let asked = request c.args.asked.now in
    let old = (g.D.Desk.state c.args.desk.now).told in
    let mid = (g.D.Desk.state c.made_run.new.desk).told in
    let new = (g.D.Desk.state c.write_hints.new.desk).told in
    let theory = theory_of c.args.accepted.now.program in
    let start = plain_pattern c.args.accepted.now.start in
    let run = plain_run c.in_ok-made.made.end in
    proof_is_front asked.proof old new theory asked.limit asked.calls start run
    c.in_ok-made.ensures.run.is_run
    (proof_untouched (λ other. asked.hints ≡ Some other) asked.proof old mid new theory start run
    (λ file proof hints. c.requires.good_files.two file proof hints) c.in-Err.ensures.files
    c.in_ok-made.ensures.proof)

pub returns-clause-hint_front : goal.returns-clause-hint_front
returns-clause-hint_front g c =
    let asked = request c.args.asked.now in
    let old = (g.D.Desk.state c.args.desk.now).told in
    let mid = (g.D.Desk.state c.made_run.new.desk).told in
    let new = (g.D.Desk.state c.write_hints.new.desk).told in
    let theory = theory_of c.args.accepted.now.program in
    let start = plain_pattern c.args.accepted.now.start in
    let run = plain_run c.in_ok-made.made.end in
    hints_front (IsWanted asked) asked.hints old mid new theory asked.limit asked.calls start run
    c.hints_for-hints.result c.made_run.new.hints c.in_ok-made.ensures.run.is_run
    c.hints_for-hints.ensures c.in_ok-made.ensures.hints
    (λ file hints proof. c.requires.good_files.two file proof hints) c.in_ok-made.ensures.files
    c.in-Err.ensures.front
