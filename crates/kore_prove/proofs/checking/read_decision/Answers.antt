use Rattle.rule_core.specs.ProgramView.{theory_of}
use Rattle.kore_rules.specs.Refused.{IsRefused}
use Rattle.kore_rules.specs.RefusedTexts.{top_of}
use Rattle.kore_prove.specs.declared.files.FileEnd.TheVariants as file
use Rattle.kore_prove.specs.Requests.{check_request}
use Rattle.kore_prove.specs.Verdicts.{database_limit}
use Rattle.kore_prove.proofs.Deciding.{database_of_check, definition_of_check}
use Rattle.kore_prove.proofs.Ending.{FileCause-kept, kept_holds}
use Rattle.kore_prove.proofs.FewArguments.{can_be_assumed, few_arguments}
use Rattle.kore_prove.proofs.checking.read_decision.Goals as goal

pub returns-in-Err-clause-cause : goal.returns-in-Err-clause-cause
returns-in-Err-clause-cause g c =
    let before = g.D.Desk.state c.args.desk.now in
    let after = g.D.Desk.state c.read_program.new.desk in
    definition_of_check (check_request c.args.asked.now) before.told before.read_faults
    after.read_faults _
    (c.definition_end.ensures before.told before.read_faults after.read_faults
    c.in-Err.ensures.cause)

pub returns-in-Err-read_database-clause-cause : goal.returns-in-Err-read_database-clause-cause
returns-in-Err-read_database-clause-cause g c =
    let before = g.D.Desk.state c.args.desk.now in
    let between = g.D.Desk.state c.read_program.new.desk in
    let after = g.D.Desk.state c.read_database.new.desk in
    let theory = theory_of c.in-Ok.program in
    database_of_check (check_request c.args.asked.now) before.told before.read_faults
    after.read_faults _ (theory, top_of c.in-Ok.program, c.in-Ok.ensures.found)
    (c.unread_end.ensures before.told database_limit before.read_faults after.read_faults
    (FileCause-kept IsRefused before.told between.told c.args.asked.now.file.now database_limit
    before.read_faults between.read_faults after.read_faults
    (file.Unread c.in-Err-read_database.end) c.in-Ok.ensures.files c.in-Ok.ensures.counts
    c.in-Err-read_database.ensures.cause))

pub decision_on-requires : goal.decision_on-requires
decision_on-requires g c =
    can_be_assumed c.in-Ok.program c.in-Ok.ensures.program
    (few_arguments c.in-Ok.ensures.found.bytes (theory_of c.in-Ok.program) (top_of c.in-Ok.program)
    c.in-Ok.ensures.found.accepted)

pub returns-in-Ok-decision_on-clause-found : goal.returns-in-Ok-decision_on-clause-found
returns-in-Ok-decision_on-clause-found g c =
    let before = g.D.Desk.state c.args.desk.now in
    let between = g.D.Desk.state c.read_program.new.desk in
    let held = rw (← c.deref.ensures.value) at c.in-Ok-read_database.ensures.held in
    record {
      theory = theory_of c.in-Ok.program;
      bytes = c.deref.result.now;
      held = record {
        top = top_of c.in-Ok.program;
        definition = c.in-Ok.ensures.found;
        database = (
          kept_holds before.told between.told c.args.asked.now.file.now c.deref.result.now
              c.in-Ok.ensures.files held.0,
          held.1,
        );
      };
      is = c.in-Ok-decision_on.ensures;
    }
