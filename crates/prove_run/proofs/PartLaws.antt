-- A proof that is put together again, with a context that has grown.
use Rattle.std.proofs.Common.{◌≡◌, List, ℕ, Bool, true, false, refl, ◌∙◌, sym, subst}
use Rattle.term_core.specs.Patterns.{Pattern as RulePattern}
use Rattle.term_core.specs.RulePatterns.{plain_pattern}
use Rattle.rule_core.specs.BoundVariables.{HasBoundVariables}
use Rattle.rule_core.specs.ProgramView.{theory_of}
use Rattle.rule_core.specs.WellSorted.{IsWellSorted}
use Rattle.rule_core.specs.declared.rules.Program.{Program}
use Rattle.ml_kernel.specs.Theorems.{Theorem}
use Rattle.mm_justify.specs.Justifying.{IsProofOfRun}
use Rattle.prove_term.specs.Contexts.{Context, HasGrown}
use Rattle.prove_schema.proofs.ElementLaws.{pattern_grown}
use Rattle.proof_writer.specs.PlainNames.{HasPlainNames}
use Rattle.proof_writer.specs.Writing.{IsTextOf}
use Rattle.prove_run.specs.RunProof.{RunProof, configuration, proof_context}
use Rattle.prove_run.specs.Proving.{FitsProof}
use Rattle.prove_run.specs.Starting.{SaysReached}
use Rattle.prove_run.specs.ProofView.{run_proof, IsProof, IsProofOrFailed, IsProofUnless}
use Rattle.prove_run.specs.declared.proof.Proof.TheInside.{Inside}
use Rattle.prove_run.proofs.ContextLaws.{written_grown, text_grown, lemma_grown}

-- the context of the proof, as contracts see it, is the one of its prover
pub own_context : (p : Inside) (v : RunProof) (new : Context) → run_proof p ≡ v
    → HasGrown (proof_context v) new → HasGrown p.prover new
own_context p v new is g = subst (λ (x : RunProof). HasGrown (proof_context x) new) (sym is) g

-- a theorem says in the new context what the last theorem says in the old one
pub says_later : (old new : Context) (start reached : RulePattern) (last t : Theorem)
    → HasGrown old new → SaysReached old start reached last → t.conclusion ≡ last.conclusion
    → SaysReached new start reached t
says_later old new start reached last t g h same = record {
  from = h.from;
  to = h.to;
  from_image = pattern_grown old new start h.from g h.from_image;
  to_image = pattern_grown old new reached h.to g h.to_image;
  closed = h.closed;
  says = same ∙ h.says;
}

proof_later : (p : Inside) (new : Context) → HasGrown p.prover new → IsProof p
    → IsProof (record p { prover = new })
proof_later p new g proof = record {
  well_sorted =
      subst (λ (q : Program). IsWellSorted (theory_of q)) (sym g.program) proof.well_sorted;
  bound = subst HasBoundVariables (sym g.program) proof.bound;
  names = subst (λ (q : Program). HasPlainNames q.sig) (sym g.program) proof.names;
  written = written_grown p.prover new p.writer proof.written g;
  has_reached = record {
    says = says_later p.prover new (plain_pattern p.start.now)
        (configuration (plain_pattern p.start.now) p.reached) p.last p.last g
        proof.has_reached.says refl;
    ground = proof.has_reached.ground;
    no_hypotheses = proof.has_reached.no_hypotheses;
    stated = proof.has_reached.stated;
  };
  reach = proof.reach;
  listed = lemma_grown p.prover new p.reach g proof.listed;
}

pub joined : (p : Inside) (new : Context) → HasGrown p.prover new → IsProofOrFailed p
    → IsProofOrFailed (record p { prover = new })
joined p new g h = by_case p.failed h
  where
    by_case : (b : Bool) → IsProofUnless b p → IsProofUnless b (record p { prover = new })
    by_case true k = tt
    by_case false k = proof_later p new g k

-- a text that fits a proof fits it in the new context
pub fits_later_on : (p : Inside) (v : RunProof) (new : Context) (text : List ℕ) → run_proof p ≡ v
    → IsProof p → HasGrown p.prover new → FitsProof v text
    → FitsProof (run_proof (record p { prover = new })) text
fits_later_on p v new text is proof g h =
    let k : FitsProof (run_proof p) text =
    subst (λ (x : RunProof). FitsProof x text) (sym is) h in
    let later : IsTextOf new p.writer text =
    text_grown p.prover new p.writer text proof.written.named g
    (record { fits = k.fits; only = k.only; counts = k.counts }) in
    record {
      fits = later.fits;
      only = later.only;
      proves =
          subst (λ (q : Program). IsProofOfRun text (theory_of q) (plain_pattern p.start.now)
          (configuration (plain_pattern p.start.now) p.reached)) (sym g.program) k.proves;
      counts = k.counts;
      bytes_are = k.bytes_are;
    }
