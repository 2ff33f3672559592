use Rattle.std.proofs.Common.{rules, subst, sym}
use Rattle.rule_core.specs.AcSymbols.{IsAcFree}
use Rattle.rule_core.specs.declared.rules.Program.{Program}
use Rattle.run_loop.specs.RunEnds.{plain_run}
use Rattle.rule_core.specs.ProgramView.{theory_of}
use Rattle.run_proof.specs.StuckRuns.{CanShow}
use Rattle.run_proof.proofs.ShownLaws.{adds_nothing, adds_shown, all_rules, none_asked}
use Rattle.run_proof.proofs.shown.shown_end.Goals.{then-not-stuck-via-then-not-stuck}
use Rattle.run_proof.proofs.shown.shown_end.Goals.{then-not-stuck-via-else-not-stuck+then-not-can_show}
use Rattle.run_proof.proofs.shown.shown_end.Goals as goal

pub returns-then-not-stuck-clause-shown : goal.returns-then-not-stuck-clause-shown
returns-then-not-stuck-clause-shown g c = λ asked can.
    elim c.then-not-stuck.branch [
      | then-not-stuck-via-then-not-stuck w ↦ none_asked c.args.stuck w.if-not-stuck.true asked
      | then-not-stuck-via-else-not-stuck+then-not-can_show w ↦
          none_asked w.can_show.result w.if-not-can_show.true (w.can_show.ensures.1
          (subst (λ (p : Program). CanShow (theory_of p) (plain_run c.args.end))
          (sym w.program.ensures.program) can))
    ]

pub returns-then-not-stuck-clause-adds : goal.returns-then-not-stuck-clause-adds
returns-then-not-stuck-clause-adds g c =
    adds_nothing (g.D.Desk.state c.args.desk.now).told c.args.proof (theory_of c.args.engine.now)
    (plain_run c.args.end)
    (rw c.requires.file at (g.met.D.Desk.tells_created c.args.desk.now)) c.requires.at.sound

pub show_stuck-requires-clause-no_ac : goal.show_stuck-requires-clause-no_ac
show_stuck-requires-clause-no_ac g c =
    subst (λ (p : Program). IsAcFree p.sig) c.program.ensures.program
    (c.if-not-can_show.ensures.0 (search rules)).1

pub returns-in-Ok-clause-shown : goal.returns-in-Ok-clause-shown
returns-in-Ok-clause-shown g c = (
  search rules,
  subst (λ (p : Program). CanShow (theory_of p) (plain_run c.args.end)) c.program.ensures.program
      (c.if-not-can_show.ensures.0 (search rules)),
  all_rules c.program-2.result.now c.args.engine.now c.len-rules.result c.len-rules.ensures
      c.program-2.ensures.program,
)

pub returns-in-Ok-clause-adds : goal.returns-in-Ok-clause-adds
returns-in-Ok-clause-adds g c =
    adds_shown c.args.engine.now c.args.run.now (plain_run c.args.end) c.len-rules.result
    (g.D.Desk.state c.args.desk.now).told (g.D.Desk.state c.show_stuck.new.desk).told c.args.proof
    c.in-Ok.proof (c.if-not-can_show.ensures.0 (search rules)).0 c.requires.stuck c.in-Ok.ensures.adds

pub returns-clause-failed : goal.returns-clause-failed
returns-clause-failed g c = λ h. c.in-Err.ensures.failed (search rules)
