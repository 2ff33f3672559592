use Rattle.std.proofs.Common.{subst}
use Rattle.std.specs.Prelude.{option_copied}
use Rattle.desk_io.specs.Changes.{Writes, WritesFront}
use Rattle.prove_run.specs.Proving.{value_told}
use Rattle.prove_run.proofs.FileLaws.{front_begun, first_justified}
use Rattle.prove_run.proofs.proof.Proof.begin.Goals as goal

pub returns-in-Ok-clause-justifies : goal.returns-in-Ok-clause-justifies
returns-in-Ok-clause-justifies g c =
    let old = (g.D.Desk.state c.args.desk.now).told in
    let new = (g.D.Desk.state c.write_text.new.desk).told in
    first_justified old new c.args.program.now c.args.start.now
    (value_told (option_copied c.args.value)) c.in_ok-proof.proof (
      c.begun.new.to.items,
      subst (Writes old new) c.deref.ensures.value c.in-Ok.ensures.written,
      c.in_ok-proof.ensures,
    )

pub returns-clause-front : goal.returns-clause-front
returns-clause-front g c =
    let old = (g.D.Desk.state c.args.desk.now).told in
    let new = (g.D.Desk.state c.write_text.new.desk).told in
    front_begun old new c.args.program.now c.args.start.now
    (value_told (option_copied c.args.value)) c.in_ok-proof.proof c.begun.new.to.items
    (subst (WritesFront old new) c.deref.ensures.value c.in-Err.ensures.prefix)
    c.in_ok-proof.ensures
