-- What is true of a proof at its beginning and after a step, and which texts fit it.
use Rattle.std.proofs.Common.{◌≡◌, ◌≤◌, ℕ, List, [], ◌++◌, Option, Some, length, refl, ap, ◌∙◌, sym}
use Rattle.std.proofs.Common.{◌+◌, ◌-◌, ◌^◌, min, Bool, true, false, subst, arith, length-append}
use Rattle.std.specs.Prelude.{Contains}
use Rattle.std.proofs.lemmas.List.{append_assoc}
use Rattle.term_core.specs.Terms.{Tree}
use Rattle.term_core.specs.Patterns.{Pattern as RulePattern, ground_pattern}
use Rattle.term_core.specs.RulePatterns.{plain_pattern}
use Rattle.rule_core.specs.BoundVariables.{HasBoundVariables}
use Rattle.rule_core.specs.ProgramView.{theory_of}
use Rattle.rule_core.specs.Records.{StepRecord}
use Rattle.rule_core.specs.WellSorted.{IsWellSorted}
use Rattle.rule_core.specs.declared.rules.Program.{Program}
use Rattle.ml_kernel.specs.Theorems.{Theorem}
use Rattle.mm_claims.specs.Rendered.{Rendered, all_stated}
use Rattle.mm_claims.specs.Places.{IsStated}
use Rattle.mm_justify.specs.Justifying.{IsProofOfRun}
use Rattle.mm_justify.specs.Counting.{capped}
use Rattle.prove_term.specs.Contexts.{Context, HasGrown, new_context}
use Rattle.prove_term.proofs.ContextLaws.{grown_twice}
use Rattle.prove_step.specs.Steps.{IsStepFrom}
use Rattle.proof_writer.specs.PlainNames.{HasPlainNames}
use Rattle.proof_writer.specs.Writing.{HasNoVariables, HasWritten, HasWrittenAll, IsTextOf}
use Rattle.proof_writer.specs.Writing.{Begins as BeginsText, Adds, Concludes, MayFollow}
use Rattle.proof_writer.specs.declared.writer.Writer.{Writer}
use Rattle.prove_run.specs.RunProof.{RunProof, configuration, reached}
use Rattle.prove_run.specs.Proving.{FitsProof, Begins, CanStep, StepsTo}
use Rattle.prove_run.specs.Starting.{SaysReached}
use Rattle.prove_run.specs.ReachLemma.{IsReachLemma}
use Rattle.prove_run.specs.Going.{MayGoOn, ExtendsRun}
use Rattle.prove_run.specs.ProofView.{run_proof, IsProof, IsProofOrFailed, IsProofUnless}
use Rattle.prove_run.specs.declared.proof.Proof.TheInside.{Inside}
use Rattle.prove_run.proofs.ContextLaws.{written_grown, text_grown, lemma_grown}
use Rattle.prove_run.proofs.StartingLaws.{begun_has_none}

-- ---- what a proof is

-- the invariant, from what is known of the last stated theorem and of the kept value
pub is_proof : (program : Program) (told : Option Tree) (thm : Theorem) (p : Inside)
    → p.prover.program ≡ program → IsWellSorted (theory_of program) → HasBoundVariables program
    → HasPlainNames program.sig → HasNoVariables (plain_pattern p.start.now)
    → SaysReached p.prover (plain_pattern p.start.now)
    (configuration (plain_pattern p.start.now) told) thm → p.reached ≡ told → p.last ≡ thm
    → IsReachLemma p.reach → Contains p.prover.lemmas p.reach → HasWritten p.writer p.prover
    → thm.hypotheses ≡ []
    → IsStated (all_stated p.writer.renderer) thm.hypotheses thm.conclusion → IsProof p
is_proof program told thm p same well_sorted bound names ground says made last reach listed written
    none stated = record {
      well_sorted = subst (λ (q : Program). IsWellSorted (theory_of q)) (sym same) well_sorted;
      bound = subst HasBoundVariables (sym same) bound;
      names = subst (λ (q : Program). HasPlainNames q.sig) (sym same) names;
      written = written;
      has_reached = record {
        says =
            subst (λ (o : Option Tree). SaysReached p.prover (plain_pattern p.start.now)
            (configuration (plain_pattern p.start.now) o) p.last) (sym made)
            (subst (SaysReached p.prover (plain_pattern p.start.now)
            (configuration (plain_pattern p.start.now) told)) (sym last) says);
        ground = ground;
        no_hypotheses = subst (λ (t : Theorem). t.hypotheses ≡ []) (sym last) none;
        stated =
            subst
            (λ (t : Theorem). IsStated (all_stated p.writer.renderer) t.hypotheses t.conclusion)
            (sym last) stated;
      };
      reach = reach;
      listed = listed;
    }

-- the invariant of a proof that has not failed
pub not_failed : (p : Inside) (v : RunProof) → run_proof p ≡ v → v.failed ≡ false
    → IsProofOrFailed p → IsProof p
not_failed p v is sound h =
    let e : p.failed ≡ false = ap (λ (x : RunProof). x.failed) is ∙ sound in
    subst (λ (b : Bool). IsProofUnless b p) e h

min-add : (n more most : ℕ) → min (min n most + more) most ≡ min (n + more) most
min-add n more most = omega arith

-- a sum that stays at its limit
capped-add : (n more : ℕ) → capped (capped n + more) ≡ capped (n + more)
capped-add n more = min-add n more (2 ^ 64 - 1)

-- more bytes were appended and counted
pub counted_more : (text added : List ℕ) (count : ℕ) → count ≡ capped (length text)
    → capped (count + length added) ≡ capped (length (text ++ added))
counted_more text added count counted =
    ap (λ (n : ℕ). capped (n + length added)) counted ∙ capped-add (length text) (length added)
    ∙ ap capped (sym (length-append text added))

-- a text of what was written before, followed by the appended bytes, fits the proof
pub fits_now : (p : Inside) (old : Writer) (told : Option Tree) (thm : Theorem)
    (before after added text : List ℕ) → HasNoVariables (plain_pattern p.start.now)
    → SaysReached p.prover (plain_pattern p.start.now)
    (configuration (plain_pattern p.start.now) told) thm → p.reached ≡ told
    → Concludes p.prover old thm before after → after ≡ before ++ added → IsTextOf p.prover old text
    → IsTextOf p.prover p.writer (text ++ added) → p.bytes ≡ capped (length (text ++ added))
    → FitsProof (run_proof p) (text ++ added)
fits_now p old told thm before after added text ground says made concludes whole was is bytes =
    record {
      fits = is.fits;
      only = is.only;
      proves =
          subst (λ (o : Option Tree). IsProofOfRun (text ++ added) (theory_of p.prover.program)
          (plain_pattern p.start.now) (configuration (plain_pattern p.start.now) o)) (sym made)
          (concludes (plain_pattern p.start.now) (configuration (plain_pattern p.start.now) told)
          says.from says.to added text ground
          (begun_has_none (plain_pattern p.start.now) told ground)
          says.from_image says.to_image says.says whole was);
      counts = is.counts;
      bytes_are = bytes;
    }

-- ---- the beginning

pub begun_grown : (program : Program) (first middle new : Context) → first ≡ new_context program
    → HasGrown first middle → HasGrown middle new → HasGrown (new_context program) new
begun_grown program first middle new is g h =
    subst (λ (cx : Context). HasGrown cx new) is (grown_twice first middle new g h)

pub begun_written : (program : Program) (first middle new : Context) (w : Writer)
    → first ≡ new_context program → HasGrown first middle → HasGrown middle new
    → HasWrittenAll w (new_context program) → HasWritten w new
begun_written program first middle new w is g h all =
    written_grown (new_context program) new w all.written
    (begun_grown program first middle new is g h)

pub begins : (program : Program) (told : Option Tree) (w : Writer) (thm : Theorem) (p : Inside)
    (before middle after : List ℕ) → HasGrown (new_context program) p.prover
    → HasNoVariables (plain_pattern p.start.now)
    → SaysReached p.prover (plain_pattern p.start.now)
    (configuration (plain_pattern p.start.now) told) thm → p.reached ≡ told
    → HasWrittenAll w (new_context program) → BeginsText (new_context program) w before middle
    → Concludes p.prover w thm middle after → Adds p.prover w p.writer middle after → before ≡ []
    → p.steps ≡ 0 → p.failed ≡ false → p.bytes ≡ capped (length after)
    → Begins program p.start.now told (run_proof p) after
begins program told w thm p before middle after grown ground says made written (text, is, fits)
    concludes (added, is', adds) none steps sound bytes =
    let was : IsTextOf p.prover w text =
    text_grown (new_context program) p.prover w text written.written.named grown fits in
    let whole : after ≡ text ++ added =
    is' ∙ ap (λ (l : List ℕ). l ++ added) (is ∙ ap (λ (l : List ℕ). l ++ text) none) in
    record {
      same_program = grown.program;
      starts = refl;
      made = made;
      none_made = steps;
      sound = sound;
      fits =
          subst (FitsProof (run_proof p)) (sym whole)
          (fits_now p w told thm middle after added text ground says made concludes is' was
          (adds text was) (bytes ∙ ap (λ (l : List ℕ). capped (length l)) whole));
    }

-- ---- a step

-- the proof may go on by a recorded step
pub may_go_on : (p : Inside) (v : RunProof) (step : StepRecord) → run_proof p ≡ v → IsProof p
    → CanStep v step → MayGoOn p.prover p.last p.reach step
may_go_on p v step is proof can =
    let at : configuration (plain_pattern p.start.now) p.reached ≡ ground_pattern can.term =
    ap reached is ∙ can.at in
    let program : v.program ≡ p.prover.program = ap (λ (x : RunProof). x.program) (sym is) in
    record {
      well_sorted = proof.well_sorted;
      bound = proof.bound;
      start = plain_pattern p.start.now;
      term = can.term;
      says =
          subst (λ (q : RulePattern). SaysReached p.prover (plain_pattern p.start.now) q p.last) at
          proof.has_reached.says;
      no_hypotheses = proof.has_reached.no_hypotheses;
      follows = subst (λ (q : Program). IsStepFrom (theory_of q) can.term step) program can.follows;
      is_reach = proof.reach;
      listed = proof.listed;
    }

pub names_kept : (p : Inside) (new : Context) (u : Tree) (further : Theorem) → IsProof p
    → ExtendsRun p.prover new p.last u further → HasPlainNames new.program.sig
names_kept p new u further proof goes =
    subst (λ (q : Program). HasPlainNames q.sig) (sym goes.grown.program) proof.names

pub written_before : (p : Inside) (new : Context) (u : Tree) (further : Theorem) → IsProof p
    → ExtendsRun p.prover new p.last u further → HasWritten p.writer new
written_before p new u further proof goes =
    written_grown p.prover new p.writer proof.written goes.grown

pub further_follows : (p : Inside) (new : Context) (u : Tree) (further : Theorem) → IsProof p
    → ExtendsRun p.prover new p.last u further → MayFollow new p.writer.renderer further
further_follows p new u further proof goes s has told =
    goes.stays s has (told p.last.hypotheses p.last.conclusion proof.has_reached.stated)

-- what the new theorem says of the start
says_now : (p : Inside) (new : Context) (u : Tree) (further : Theorem) → IsProof p
    → ExtendsRun p.prover new p.last u further
    → SaysReached new (plain_pattern p.start.now) (ground_pattern u) further
says_now p new u further proof goes =
    goes.says (plain_pattern p.start.now) (configuration (plain_pattern p.start.now) p.reached)
    proof.has_reached.says

-- the proof with the results of the step
abbrev pub after_step : Inside → Context → Writer → Theorem → Tree → ℕ → ℕ → Inside
after_step p new w last made steps bytes =
    record p {
      prover = new;
      writer = w;
      reached = Some made;
      last = last;
      steps = steps;
      bytes = bytes;
      failed = false;
    }

pub goes_proof : (p : Inside) (new : Context) (w : Writer) (further last : Theorem) (u made : Tree)
    (steps bytes : ℕ)
    → IsProof p → ExtendsRun p.prover new p.last u further → made ≡ u → last ≡ further
    → HasWritten w new → further.hypotheses ≡ []
    → IsStated (all_stated w.renderer) further.hypotheses further.conclusion
    → IsProof (after_step p new w last made steps bytes)
goes_proof p new w further last u made steps bytes proof goes same same_last written none stated =
    is_proof p.prover.program (Some u) further (after_step p new w last made steps bytes)
    goes.grown.program
    proof.well_sorted proof.bound proof.names proof.has_reached.ground
    (says_now p new u further proof goes) (ap (λ (t : Tree). Some t) same) same_last proof.reach
    (lemma_grown p.prover new p.reach goes.grown proof.listed) written none stated

-- a text that fits the proof is a text of what was written
pub fitted_text : (p : Inside) (v : RunProof) (new : Context) (text : List ℕ) → run_proof p ≡ v
    → IsProof p → HasGrown p.prover new → FitsProof v text → IsTextOf new p.writer text
fitted_text p v new text is proof grown h =
    let fits : FitsProof (run_proof p) text =
    subst (λ (x : RunProof). FitsProof x text) (sym is) h in
    text_grown p.prover new p.writer text proof.written.named grown
    (record { fits = fits.fits; only = fits.only; counts = fits.counts })

pub steps_to : (p : Inside) (v : RunProof) (new : Context) (w : Writer) (further last : Theorem)
    (u made : Tree) (before after : List ℕ) (steps bytes : ℕ) → run_proof p ≡ v → IsProof p
    → ExtendsRun p.prover new p.last u further → made ≡ u
    → Concludes new p.writer further before after → Adds new p.writer w before after
    → before ≡ [] → steps ≡ capped (p.steps + 1) → bytes ≡ capped (p.bytes + length after)
    → StepsTo v (run_proof (after_step p new w last made steps bytes)) u after
steps_to p v new w further last u made before after steps bytes is proof goes same concludes
    (added, whole, adds) none one_made counted = record {
      same_program = goes.grown.program ∙ ap (λ (x : RunProof). x.program) is;
      same_start = ap (λ (x : RunProof). x.start) is;
      made = ap (λ (t : Tree). Some t) same;
      one_made = one_made ∙ ap (λ (x : RunProof). capped (x.steps + 1)) is;
      sound = refl;
      fits = λ text h.
          subst (λ (l : List ℕ).
          FitsProof (run_proof (after_step p new w last made steps bytes)) (text ++ l)) (sym all)
          (fits text (fitted_text p v new text is proof goes.grown h) h.bytes_are);
    }
  where
    all : after ≡ added
    all = whole ∙ ap (λ (l : List ℕ). l ++ added) none

    fits : (text : List ℕ) → IsTextOf new p.writer text → v.bytes ≡ capped (length text)
        → FitsProof (run_proof (after_step p new w last made steps bytes)) (text ++ added)
    fits text was before_bytes =
        fits_now (after_step p new w last made steps bytes) p.writer (Some u) further before after
        added text proof.has_reached.ground (says_now p new u further proof goes)
        (ap (λ (t : Tree). Some t) same) concludes whole was (adds text was)
        (counted ∙ ap (λ (l : List ℕ). capped (p.bytes + length l)) all
        ∙ counted_more text added p.bytes (ap (λ (x : RunProof). x.bytes) is ∙ before_bytes))
