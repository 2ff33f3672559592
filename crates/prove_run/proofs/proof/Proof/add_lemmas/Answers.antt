use Rattle.std.proofs.Common.{refl, subst}
use Rattle.desk_io.specs.Changes.{Writes, WritesFront}
use Rattle.prove_run.specs.AddedLemmas.{EndsHere}
use Rattle.prove_run.specs.WrittenProofs.{WritesFrontAfter}
use Rattle.prove_run.proofs.FileLaws.{on_err, none_added}
use Rattle.prove_run.proofs.LemmaLaws.{front_lemmas, lemmas_justified}
use Rattle.prove_run.proofs.proof.Proof.add_lemmas.Goals as goal

pub returns-in_err-state_lemmas-clause-front : goal.returns-in_err-state_lemmas-clause-front
returns-in_err-state_lemmas-clause-front g c =
    let told = (g.D.Desk.state c.args.desk.now).told in
    on_err c.from_residual.result
    (WritesFrontAfter told told c.args.self.now (EndsHere c.args.self.now))
    (none_added told c.args.self.now (EndsHere c.args.self.now) refl
    (rw c.requires.file at (g.met.D.Desk.tells_created c.args.desk.now)))

pub returns-in-Ok-clause-justifies : goal.returns-in-Ok-clause-justifies
returns-in-Ok-clause-justifies g c =
    let old = (g.D.Desk.state c.args.desk.now).told in
    let new = (g.D.Desk.state c.write_text.new.desk).told in
    lemmas_justified old new c.args.self.now c.state_lemmas.new.self c.args.thms.now (
      c.state_lemmas.new.to.items,
      subst (Writes old new) c.deref.ensures.value c.in-Ok.ensures.written,
      c.in_ok-state_lemmas.ensures.adds,
    )

pub returns-clause-front : goal.returns-clause-front
returns-clause-front g c =
    let old = (g.D.Desk.state c.args.desk.now).told in
    let new = (g.D.Desk.state c.write_text.new.desk).told in
    front_lemmas old new c.args.self.now c.state_lemmas.new.self c.args.thms.now
    c.state_lemmas.new.to.items
    (subst (WritesFront old new) c.deref.ensures.value c.in-Err.ensures.prefix)
    c.in_ok-state_lemmas.ensures.adds
