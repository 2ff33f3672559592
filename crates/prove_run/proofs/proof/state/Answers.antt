use Rattle.std.proofs.Common.{◌≡◌, ap, ◌∙◌, sym, subst}
use Rattle.prove_term.specs.Contexts.{Context, IsContext}
use Rattle.proof_writer.specs.Writing.{context_of, Adds, Concludes, MayFollow}
use Rattle.proof_writer.specs.StatedTheorems.{StatesNewLemmas}
use Rattle.proof_writer.specs.declared.writer.ProofParts.{ProofParts}
use Rattle.proof_writer.proofs.TheoremLaws.{lemmas_kept}
use Rattle.proof_writer.proofs.WritingLaws.{theorem_assumes_nothing, adds_then}
use Rattle.prove_run.proofs.WritingOn.{on_any, same_context, follows_later, concludes_after}
use Rattle.prove_run.proofs.proof.state.Goals as goal

pub write-requires-clause-context : goal.write-requires-clause-context
write-requires-clause-context c =
    let made : ProofParts =
    record {
      program = c.program.result;
      names = c.names.result;
      theory = c.theory.result;
      lemmas = c.theorems.result;
    } in
    let same : context_of made ≡ c.args.prover.now =
    same_context c.args.prover.now made
    (c.program.ensures ∙ ap (λ (x : Context). x.program) c.cx-cx.ensures)
    (c.names.ensures ∙ ap (λ (x : Context). x.names) c.cx-cx.ensures)
    (c.theory.ensures ∙ ap (λ (x : Context). x.axioms) c.cx-cx.ensures)
    (c.theorems.ensures ∙ ap (λ (x : Context). x.lemmas) c.cx-cx.ensures) in
    subst IsContext (c.cx-cx.ensures ∙ sym same) c.law.ensures

pub theorem-requires-clause-context : goal.theorem-requires-clause-context
theorem-requires-clause-context c =
    let made : ProofParts =
    record {
      program = c.program.result;
      names = c.names.result;
      theory = c.theory.result;
      lemmas = c.theorems.result;
    } in
    let same : context_of made ≡ c.args.prover.now =
    same_context c.args.prover.now made
    (c.program.ensures ∙ ap (λ (x : Context). x.program) c.cx-cx.ensures)
    (c.names.ensures ∙ ap (λ (x : Context). x.names) c.cx-cx.ensures)
    (c.theory.ensures ∙ ap (λ (x : Context). x.axioms) c.cx-cx.ensures)
    (c.theorems.ensures ∙ ap (λ (x : Context). x.lemmas) c.cx-cx.ensures) in
    subst IsContext (c.cx-cx.ensures ∙ sym same) c.law.ensures

pub theorem-requires-clause-follows : goal.theorem-requires-clause-follows
theorem-requires-clause-follows c =
    let made : ProofParts =
    record {
      program = c.program.result;
      names = c.names.result;
      theory = c.theory.result;
      lemmas = c.theorems.result;
    } in
    let same : context_of made ≡ c.args.prover.now =
    same_context c.args.prover.now made
    (c.program.ensures ∙ ap (λ (x : Context). x.program) c.cx-cx.ensures)
    (c.names.ensures ∙ ap (λ (x : Context). x.names) c.cx-cx.ensures)
    (c.theory.ensures ∙ ap (λ (x : Context). x.axioms) c.cx-cx.ensures)
    (c.theorems.ensures ∙ ap (λ (x : Context). x.lemmas) c.cx-cx.ensures) in
    subst (λ (x : Context). MayFollow x c.write.new.self.renderer c.args.thm) (sym same)
    (follows_later c.args.prover.now c.args.writer.now.renderer c.write.new.self.renderer c.args.thm
    c.in_ok-write.ensures.keeps c.requires.follows)

pub returns-clause-no_hypotheses : goal.returns-clause-no_hypotheses
returns-clause-no_hypotheses c =
    let made : ProofParts =
    record {
      program = c.program.result;
      names = c.names.result;
      theory = c.theory.result;
      lemmas = c.theorems.result;
    } in
    let same : context_of made ≡ c.args.prover.now =
    same_context c.args.prover.now made
    (c.program.ensures ∙ ap (λ (x : Context). x.program) c.cx-cx.ensures)
    (c.names.ensures ∙ ap (λ (x : Context). x.names) c.cx-cx.ensures)
    (c.theory.ensures ∙ ap (λ (x : Context). x.axioms) c.cx-cx.ensures)
    (c.theorems.ensures ∙ ap (λ (x : Context). x.lemmas) c.cx-cx.ensures) in
    on_any c.close.result
    (theorem_assumes_nothing (context_of made) c.write.new.self c.args.thm c.image_laws.ensures.over
    c.in_ok-write.ensures.all
    (subst (λ (x : Context). MayFollow x c.write.new.self.renderer c.args.thm) (sym same)
    (follows_later c.args.prover.now c.args.writer.now.renderer c.write.new.self.renderer c.args.thm
    c.in_ok-write.ensures.keeps c.requires.follows)))

pub returns-clause-concludes : goal.returns-clause-concludes
returns-clause-concludes c =
    let made : ProofParts =
    record {
      program = c.program.result;
      names = c.names.result;
      theory = c.theory.result;
      lemmas = c.theorems.result;
    } in
    let same : context_of made ≡ c.args.prover.now =
    same_context c.args.prover.now made
    (c.program.ensures ∙ ap (λ (x : Context). x.program) c.cx-cx.ensures)
    (c.names.ensures ∙ ap (λ (x : Context). x.names) c.cx-cx.ensures)
    (c.theory.ensures ∙ ap (λ (x : Context). x.axioms) c.cx-cx.ensures)
    (c.theorems.ensures ∙ ap (λ (x : Context). x.lemmas) c.cx-cx.ensures) in
    on_any c.close.result
    (subst (λ (x : Context).
    Concludes x c.args.writer.now c.args.thm c.args.to.now.items c.theorem.new.to.items)
    same
    (concludes_after (context_of made) c.args.writer.now c.write.new.self c.theorem.new.self
    c.args.thm c.args.to.now.items c.write.new.to.items c.theorem.new.to.items
    c.in_ok-write.ensures.text c.in_ok-theorem.ensures.text c.in_ok-theorem.ensures.concludes))

pub returns-clause-text : goal.returns-clause-text
returns-clause-text c =
    let made : ProofParts =
    record {
      program = c.program.result;
      names = c.names.result;
      theory = c.theory.result;
      lemmas = c.theorems.result;
    } in
    let same : context_of made ≡ c.args.prover.now =
    same_context c.args.prover.now made
    (c.program.ensures ∙ ap (λ (x : Context). x.program) c.cx-cx.ensures)
    (c.names.ensures ∙ ap (λ (x : Context). x.names) c.cx-cx.ensures)
    (c.theory.ensures ∙ ap (λ (x : Context). x.axioms) c.cx-cx.ensures)
    (c.theorems.ensures ∙ ap (λ (x : Context). x.lemmas) c.cx-cx.ensures) in
    on_any c.close.result
    (subst (λ (x : Context).
    Adds x c.args.writer.now c.theorem.new.self c.args.to.now.items c.theorem.new.to.items)
    same
    (adds_then (context_of made) c.args.writer.now c.write.new.self c.theorem.new.self
    c.args.to.now.items c.write.new.to.items c.theorem.new.to.items
    c.in_ok-write.ensures.text c.in_ok-theorem.ensures.text))

pub returns-clause-theorems : goal.returns-clause-theorems
returns-clause-theorems c =
    let made : ProofParts =
    record {
      program = c.program.result;
      names = c.names.result;
      theory = c.theory.result;
      lemmas = c.theorems.result;
    } in
    let same : context_of made ≡ c.args.prover.now =
    same_context c.args.prover.now made
    (c.program.ensures ∙ ap (λ (x : Context). x.program) c.cx-cx.ensures)
    (c.names.ensures ∙ ap (λ (x : Context). x.names) c.cx-cx.ensures)
    (c.theory.ensures ∙ ap (λ (x : Context). x.axioms) c.cx-cx.ensures)
    (c.theorems.ensures ∙ ap (λ (x : Context). x.lemmas) c.cx-cx.ensures) in
    on_any c.close.result
    (subst (λ (x : Context).
    StatesNewLemmas x c.args.writer.now c.args.to.now.items c.theorem.new.to.items)
    same
    (lemmas_kept (context_of made) c.args.writer.now c.write.new.self c.theorem.new.self
    c.args.to.now.items c.write.new.to.items c.theorem.new.to.items
    c.in_ok-write.ensures.text c.in_ok-theorem.ensures.text c.in_ok-write.ensures.theorems
    c.in_ok-theorem.ensures.assertions))
