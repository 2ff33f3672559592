use Rattle.std.proofs.Common.{◌≡◌, ℕ, List, All, refl, sym, ◌∙◌, ap, subst, rules}
use Rattle.mm_text.specs.Bytes.{Token}
use Rattle.mm_justify.specs.Stating.{IsName}
use Rattle.ml_kernel.specs.Theorems.{Theorem}
use Rattle.ml_pat.specs.Named.{AreDistinct}
use Rattle.rule_core.specs.AcSymbols.{IsAcFree}
use Rattle.rule_core.specs.ProgramView.{theory_of}
use Rattle.rule_core.specs.declared.rules.Program.{Program}
use Rattle.prove_term.specs.Contexts.{Context, HasGrown, IsContext, StaysIn}
use Rattle.proof_writer.specs.PlainNames.{HasPlainNames}
use Rattle.prove_run.specs.AddedLemmas.{EndsHere, WritesLemmas}
use Rattle.prove_run.specs.RunProof.{RunProof, proof_context, with_context}
use Rattle.prove_run.specs.Proving.{FitsProof}
use Rattle.prove_run.specs.WrittenProofs.{WritesFrontAfter}
use Rattle.prove_run.proofs.FileLaws.{none_added, on_err}
use Rattle.run_proof.proofs.ShownLaws.{all_stay, front_joined, joined_fits, joined_is}
use Rattle.run_proof.proofs.ShownLaws.{names_are, stuck_shown}
use Rattle.run_proof.proofs.shown.show_stuck.Goals as goal

pub not_met-requires-clause-no_ac : goal.not_met-requires-clause-no_ac
not_met-requires-clause-no_ac g c =
    subst (λ (p : Program). IsAcFree p.sig)
    (sym (ap (λ (x : Context). x.program) c.part-prover.ensures.prover
    ∙ c.requires.at.same_program)) c.requires.no_ac

pub returns-in_err-shown-clause-front : goal.returns-in_err-shown-clause-front
returns-in_err-shown-clause-front g c =
    let told = (g.D.Desk.state c.args.desk.now).told in
    on_err c.from_residual.result
    (WritesFrontAfter told told c.args.proof (EndsHere c.args.proof))
    (none_added told c.args.proof (EndsHere c.args.proof) refl
    (rw c.requires.file at (g.met.D.Desk.tells_created c.args.desk.now)))

pub add_lemmas-requires-clause-stays : goal.add_lemmas-requires-clause-stays
add_lemmas-requires-clause-stays g c =
    let cx : Context = c.not_met.new.self in
    subst (λ (x : Context). All (StaysIn x) c.deref.result.now)
    (sym (ap proof_context c.join-proof.ensures.same))
    (subst (λ (ts : List Theorem). All (StaysIn cx) ts) (sym c.deref.ensures.value)
    (all_stay cx c.args.run.now.config (theory_of cx.program).rules c.in_ok-shown.shown.items
    c.in_ok-shown.ensures.shown))

pub returns-in-Ok-clause-adds : goal.returns-in-Ok-clause-adds
returns-in-Ok-clause-adds g c =
    let old = (g.D.Desk.state c.args.desk.now).told in
    let new = (g.D.Desk.state c.add_lemmas.new.desk).told in
    let cx : Context = c.not_met.new.self in
    let after : RunProof = c.add_lemmas.new.self in
    let joined : c.join-proof.result ≡ with_context c.args.proof cx =
    joined_is c.args.proof c.part-prover.result.1 c.join-proof.result cx c.part-prover.ensures.rest
    c.join-proof.ensures.same in
    let grown : HasGrown (proof_context c.args.proof) cx =
    subst (λ (x : Context). HasGrown x cx) c.part-prover.ensures.prover
    c.in_ok-shown.ensures.grown in
    let plain : HasPlainNames cx.program.sig =
    subst (λ (p : Program). HasPlainNames p.sig)
    (sym (grown.program ∙ c.requires.at.same_program)) c.requires.names in
    let own : IsContext cx = subst IsContext c.cx-cx.ensures c.law.ensures in
    stuck_shown old new c.args.engine.now c.args.proof after cx c.args.run.now.config
    c.in_ok-shown.shown.items c.requires.at.same_program grown
    (joined_fits c.args.proof c.part-prover.result.1 c.join-proof.result cx
    c.part-prover.ensures.rest c.join-proof.ensures.same c.requires.at.sound
    c.join-proof.ensures.fits)
    c.stating_laws.ensures.claims c.image_laws.ensures.metas
    (names_are cx c.stating_laws.ensures.names plain own)
    (subst AreDistinct (c.names.ensures ∙ ap (λ (x : Context). x.names) c.cx-cx.ensures)
    c.tokens_differ.ensures)
    c.in_ok-shown.ensures.shown
    (subst (λ (p : RunProof). WritesLemmas old new p after c.in_ok-shown.shown.items) joined
    (subst (λ (ts : List Theorem). WritesLemmas old new c.join-proof.result after ts)
    c.deref.ensures.value c.in-Ok.ensures.adds))

pub returns-clause-front : goal.returns-clause-front
returns-clause-front g c =
    let old = (g.D.Desk.state c.args.desk.now).told in
    let new = (g.D.Desk.state c.add_lemmas.new.desk).told in
    let cx : Context = c.not_met.new.self in
    front_joined old new c.args.proof cx
    (subst (λ (x : Context). HasGrown x cx) c.part-prover.ensures.prover
    c.in_ok-shown.ensures.grown)
    (joined_fits c.args.proof c.part-prover.result.1 c.join-proof.result cx
    c.part-prover.ensures.rest c.join-proof.ensures.same c.requires.at.sound
    c.join-proof.ensures.fits)
    (subst (λ (p : RunProof). WritesFrontAfter old new p (EndsHere p))
    (joined_is c.args.proof c.part-prover.result.1 c.join-proof.result cx
    c.part-prover.ensures.rest c.join-proof.ensures.same) c.in-Err.ensures.front)

pub returns-clause-failed : goal.returns-clause-failed
returns-clause-failed g c = λ h. c.in-Err.ensures.failed (search rules)
