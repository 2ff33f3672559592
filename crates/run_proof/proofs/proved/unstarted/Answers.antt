use Rattle.std.proofs.Common.{◌∙◌, None, subst}
use Rattle.term_core.specs.RulePatterns.{plain_pattern}
use Rattle.rule_core.specs.ProgramView.{theory_of}
use Rattle.rule_core.specs.RunView.{cause_of}
use Rattle.rule_core.specs.Runs.{unstarted}
use Rattle.rule_core.specs.declared.rules.Program.{Program}
use Rattle.prove_run.specs.WrittenProofs.{WritesFrontOfProof}
use Rattle.run_proof.specs.OpenProofs.{WritesProof}
use Rattle.run_proof.proofs.StepLaws.{unstarted_proof}
use Rattle.run_proof.proofs.proved.unstarted.Goals as goal

pub returns-in-Ok-clause-proved : goal.returns-in-Ok-clause-proved
returns-in-Ok-clause-proved g c =
    let old = (g.D.Desk.state c.args.desk.now).told in
    let new = (g.D.Desk.state c.begin.new.desk).told in
    subst (λ (p : Program). WritesProof old new (theory_of p) (plain_pattern c.args.start.now)
    (unstarted (cause_of c.args.why)) None c.in-Ok.proof) c.program.ensures.program
    (unstarted_proof old new c.program.result.now c.args.start.now (cause_of c.args.why)
    c.in-Ok.proof c.in-Ok.ensures.begins
    (rw c.begin.ensures.created at (g.met.D.Desk.tells_created c.begin.new.desk)))

pub returns-in-Err-clause-front : goal.returns-in-Err-clause-front
returns-in-Err-clause-front g c =
    subst (λ (p : Program). WritesFrontOfProof (g.D.Desk.state c.args.desk.now).told
    (g.D.Desk.state c.begin.new.desk).told (theory_of p) (plain_pattern c.args.start.now)
    (plain_pattern c.args.start.now)) c.program.ensures.program c.in-Err.ensures.front

pub returns-in-Ok-clause-program : goal.returns-in-Ok-clause-program
returns-in-Ok-clause-program g c =
    c.in-Ok.ensures.begins.2.same_program ∙ c.program.ensures.program
