use Rattle.std.proofs.Common.{◌≡◌, ◌∙◌, ap, sym, subst}
use Rattle.rule_core.specs.declared.rules.Program.{Program}
use Rattle.prove_term.specs.Contexts.{Context, HasGrown}
use Rattle.prove_term.proofs.ContextLaws.{grown_lemma}
use Rattle.proof_writer.specs.PlainNames.{HasPlainNames}
use Rattle.proof_writer.specs.Writing.{HasWritten, context_of}
use Rattle.proof_writer.specs.declared.writer.ProofParts.{ProofParts}
use Rattle.prove_run.proofs.ContextLaws.{written_grown}
use Rattle.prove_run.proofs.WritingOn.{same_context}
use Rattle.refute_tests.proofs.PlainNames.{plain_names}
use Rattle.refute_tests.proofs.proof_files.add_lemma.Goals as goal

pub write-requires-clause-names : goal.write-requires-clause-names
write-requires-clause-names c =
    let same : c.program.result.now ≡ c.args.cx.now.program =
    c.program.ensures ∙ ap (λ (x : Context). x.program) c.in_ok-add_lemma.ensures.ok in
    subst (λ (p : Program). HasPlainNames p.sig) (sym same)
    (plain_names c.args.cx.now.program.sig c.requires.names)

pub write-requires-clause-written : goal.write-requires-clause-written
write-requires-clause-written c =
    let made : ProofParts =
    record {
      program = c.program.result;
      names = c.names.result;
      theory = c.theory.result;
      lemmas = c.theorems.result;
    } in
    let same : context_of made ≡ c.add_lemma.new.self =
    same_context c.add_lemma.new.self made c.program.ensures c.names.ensures c.theory.ensures
    c.theorems.ensures in
    subst (HasWritten c.args.writer.now) (sym same)
    (written_grown c.args.cx.now c.add_lemma.new.self c.args.writer.now c.requires.written
    (subst (HasGrown c.args.cx.now) (sym c.in_ok-add_lemma.ensures.ok)
    (grown_lemma c.args.cx.now c.args.thm)))
