use Rattle.std.proofs.Common.{refl, ◌∙◌, ap}
use Rattle.std.specs.Prelude.{Err}
use Rattle.command_words.specs.declared.commands.WordsEnd.{WordsEnd}
use Rattle.run_loop.specs.RunEnds.{plain_run}
use Rattle.kore_prove.specs.PlainEnds.{plain_end}
use Rattle.kore_prove.specs.Requests.{request, check_request, drill_request, prove_request}
use Rattle.kore_prove.proofs.Ending.{same_bytes, same_files}
use Rattle.kore_prove.proofs.Answering.{run_answered, run_ended, verify_answered, verify_ended}
use Rattle.kore_prove.proofs.Answering.{check_answered, check_ended, drill_answered, drill_ended}
use Rattle.kore_prove.proofs.Answering.{bad_answered, memory_answered, prove_answered}
use Rattle.kore_prove.proofs.Answering.{prove_ended}
use Rattle.kore_prove.proofs.call.answered.Goals as goal

pub returns-in-Ok-run_command-clause-answered : goal.returns-in-Ok-run_command-clause-answered
returns-in-Ok-run_command-clause-answered g c =
    run_answered _ _ (request c.in-Run.asked) (plain_run c.in-Ok-run_command.end)
    (rw c.in-Run.is at c.in-Ok.ensures.asked).0 c.in-Ok-run_command.ensures.done
    c.exit_code.ensures (same_bytes _)

pub returns-in-Err-run_command-clause-answered : goal.returns-in-Err-run_command-clause-answered
returns-in-Err-run_command-clause-answered g c =
    run_ended _ _ (request c.in-Run.asked) (plain_end c.in-Err-run_command.end)
    (rw c.in-Run.is at c.in-Ok.ensures.asked).0 c.in-Err-run_command.ensures.ended
    c.report.ensures

pub returns-in-Ok-verify_command-clause-answered : goal.returns-in-Ok-verify_command-clause-answered
returns-in-Ok-verify_command-clause-answered g c =
    verify_answered _ _ c.in-Verify.file.now c.in-Ok-verify_command.verdict
    (rw c.in-Verify.is at c.in-Ok.ensures.asked) c.in-Ok-verify_command.ensures.printed
    c.verify_command.ensures.files c.code.ensures (same_bytes _)

pub returns-in-Err-verify_command-clause-answered :
    goal.returns-in-Err-verify_command-clause-answered
returns-in-Err-verify_command-clause-answered g c =
    verify_ended _ _ c.in-Verify.file.now (plain_end c.in-Err-verify_command.end)
    (rw c.in-Verify.is at c.in-Ok.ensures.asked) c.in-Err-verify_command.ensures.cause
    c.verify_command.ensures.files
    c.report-in-Err-verify_command.ensures

pub returns-in-Ok-check_command-clause-answered : goal.returns-in-Ok-check_command-clause-answered
returns-in-Ok-check_command-clause-answered g c =
    check_answered _ _ (check_request c.in-Check.asked) c.in-Ok-check_command.decision
    (rw c.in-Check.is at c.in-Ok.ensures.asked) c.in-Ok-check_command.ensures.printed
    c.check_command.ensures.files c.code-in-Ok-check_command.ensures (same_bytes _)

pub returns-in-Err-check_command-clause-answered :
    goal.returns-in-Err-check_command-clause-answered
returns-in-Err-check_command-clause-answered g c =
    check_ended _ _ (check_request c.in-Check.asked) (plain_end c.in-Err-check_command.end)
    (rw c.in-Check.is at c.in-Ok.ensures.asked) c.in-Err-check_command.ensures.cause
    c.check_command.ensures.files c.report-in-Err-check_command.ensures

pub returns-in-Ok-prove_command-clause-answered : goal.returns-in-Ok-prove_command-clause-answered
returns-in-Ok-prove_command-clause-answered g c =
    prove_answered _ _ (prove_request c.in-Prove.asked)
    (rw c.in-Prove.is at c.in-Ok.ensures.asked) c.in-Ok-prove_command.ensures.done refl
    (same_bytes _)

pub returns-in-Err-prove_command-clause-answered : goal.returns-in-Err-prove_command-clause-answered
returns-in-Err-prove_command-clause-answered g c =
    prove_ended _ _ (prove_request c.in-Prove.asked) (plain_end c.in-Err-prove_command.end)
    (rw c.in-Prove.is at c.in-Ok.ensures.asked) c.in-Err-prove_command.ensures.ended
    c.report-in-Err-prove_command.ensures

pub returns-in-Ok-drill_command-clause-answered : goal.returns-in-Ok-drill_command-clause-answered
returns-in-Ok-drill_command-clause-answered g c =
    drill_answered _ _ (drill_request c.in-Drill.asked)
    (rw c.in-Drill.is at c.in-Ok.ensures.asked).0 c.in-Ok-drill_command.ensures.done refl
    (same_bytes _)

pub returns-in-Err-drill_command-clause-answered : goal.returns-in-Err-drill_command-clause-answered
returns-in-Err-drill_command-clause-answered g c =
    drill_ended _ _ (drill_request c.in-Drill.asked) (plain_end c.in-Err-drill_command.end)
    (rw c.in-Drill.is at c.in-Ok.ensures.asked).0 c.in-Err-drill_command.ensures.ended
    c.report-in-Err-drill_command.ensures

pub returns-in-Bad-clause-answered : goal.returns-in-Bad-clause-answered
returns-in-Bad-clause-answered g c =
    bad_answered _ _
    (c.named_command.ensures.bad (c.in-Err.is ∙ ap (λ (e : WordsEnd). Err e) c.in-Bad.is))
    (same_bytes _) (same_files _) c.report-in-Bad.ensures

pub returns-in-Memory-clause-answered : goal.returns-in-Memory-clause-answered
returns-in-Memory-clause-answered g c =
    memory_answered _ _ (same_bytes _) (same_files _) c.report-in-Memory.ensures
