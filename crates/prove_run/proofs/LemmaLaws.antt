-- A proof that gains lemmas, and the text of the lemmas.
use Rattle.std.proofs.Common.{◌≡◌, ◌+◌, ◌<◌, ℕ, List, [], ◌∷◌, ◌++◌, Option, Some, None, length}
use Rattle.std.proofs.Common.{take, get_or, refl, ap, ◌∙◌, sym, subst, arith, length-append, false}
use Rattle.std.proofs.lemmas.List.{append_assoc, append-nil, get_or-append-add, take_more}
use Rattle.std.proofs.lemmas.List.Elements.{All-get_or}
use Rattle.std.proofs.lemmas.Option.{slice_get-get_or}
use Rattle.std.specs.Prelude.{All, slice_get}
use Rattle.desk_io.specs.Told.{Told}
use Rattle.desk_io.specs.Changes.{WritesFront}
use Rattle.desk_io.proofs.Told.{Writes-becomes}
use Rattle.term_core.specs.Terms.{Tree}
use Rattle.term_core.specs.RulePatterns.{plain_pattern}
use Rattle.term_core.specs.declared.rule_patterns.RulePat.{RulePat}
use Rattle.rule_core.specs.ProgramView.{theory_of}
use Rattle.rule_core.specs.declared.rules.Program.{Program}
use Rattle.ml_kernel.specs.Lemmas.{HasNoMeta, instance}
use Rattle.ml_kernel.specs.Theorems.{Theorem, IsByLemma}
use Rattle.ml_derived.specs.Scopes.{IsOver}
use Rattle.ml_derived.proofs.RuleLaws.{lemma_within}
use Rattle.ml_image.proofs.ImageLaws.{gained-nothing}
use Rattle.mm_claims.specs.Rendered.{all_stated}
use Rattle.mm_claims.specs.Places.{IsStated}
use Rattle.mm_justify.specs.Justifying.{IsProofOfRun, IsFrontOfProof}
use Rattle.mm_justify.specs.Counting.{capped}
use Rattle.prove_term.specs.Contexts.{Context, HasGrown, IsLemmaIn, StaysIn}
use Rattle.prove_term.proofs.ContextLaws.{stays_grown}
use Rattle.proof_writer.specs.PlainNames.{HasPlainNames}
use Rattle.proof_writer.specs.StatedTheorems.{IsTheoremOf, StatesNewLemmas}
use Rattle.proof_writer.specs.Writing.{HasWritten, IsTextOf, Adds, Concludes, MayFollow}
use Rattle.proof_writer.specs.declared.writer.Writer.{Writer}
use Rattle.prove_run.specs.RunProof.{RunProof, configuration, proof_context, reached}
use Rattle.prove_run.specs.Proving.{FitsProof}
use Rattle.prove_run.specs.AddedLemmas.{AddsLemmas, EndsHere, WritesLemmas, with_lemmas}
use Rattle.prove_run.specs.WrittenProofs.{JustifiesFurther, WritesFrontAfter}
use Rattle.prove_run.specs.Again.{CitesLast}
use Rattle.prove_run.specs.Starting.{SaysReached}
use Rattle.prove_run.specs.ProofView.{run_proof, IsProof}
use Rattle.prove_run.specs.declared.proof.Proof.TheInside.{Inside}
use Rattle.prove_run.proofs.ContextLaws.{written_grown, lemma_grown}
use Rattle.prove_run.proofs.GoingLaws.{cited_says, last_no_meta, last_over}
use Rattle.prove_run.proofs.PartLaws.{says_later}
use Rattle.prove_run.proofs.ProofLaws.{is_proof, fits_now, fitted_text, counted_more}

-- ---- the context with the lemmas

pub no_lemmas : (cx : Context) → cx ≡ with_lemmas cx []
no_lemmas cx =
    ap (λ (ts : List Theorem). record cx { lemmas = ts }) (sym (append-nil cx.lemmas))

grown_lemmas : (cx : Context) (ts : List Theorem) → HasGrown cx (with_lemmas cx ts)
grown_lemmas cx ts = record {
  program = refl;
  names = gained-nothing cx.program.sig cx.names;
  axioms = [];
  more_axioms = sym (append-nil cx.axioms);
  lemmas = ts;
  more_lemmas = refl;
}

-- the next theorem may be kept after the first ones
pub may_be_lemma : (old now : Context) (ts : List Theorem) (i : ℕ) (t lemma : Theorem)
    → i < length ts → t ≡ get_or ts i t → lemma ≡ t → now ≡ with_lemmas old (take i ts)
    → All (StaysIn old) ts → IsLemmaIn now lemma
may_be_lemma old now ts i t lemma few at same is stay =
    let here : StaysIn old lemma =
    subst (StaysIn old) (sym (same ∙ at)) (All-get_or (StaysIn old) ts i t few stay) in
    let later : StaysIn now lemma =
    stays_grown old now lemma (subst (HasGrown old) (sym is) (grown_lemmas old (take i ts))) here in
    λ s has assumed. later s has

pub one_more_lemma : (old now new : Context) (ts : List Theorem) (i : ℕ) (t lemma : Theorem)
    → i < length ts → t ≡ get_or ts i t → lemma ≡ t → now ≡ with_lemmas old (take i ts)
    → new ≡ with_lemmas now (lemma ∷ []) → new ≡ with_lemmas old (take (i + 1) ts)
one_more_lemma old now new ts i t lemma few at same is added =
    added ∙ ap (λ (cx : Context). with_lemmas cx (lemma ∷ [])) is
    ∙ ap (λ (us : List Theorem). record old { lemmas = us })
    (append_assoc old.lemmas (take i ts) (lemma ∷ [])
    ∙ ap (λ (us : List Theorem). old.lemmas ++ us) first)
  where
    first : take i ts ++ lemma ∷ [] ≡ take (i + 1) ts
    first = ap (λ (u : Theorem). take i ts ++ u ∷ []) (same ∙ at) ∙ sym (take_more ts i t few)

-- the context of the proof, as contracts see it, is the one of its prover
pub stay_here : (p : Inside) (v : RunProof) (ts : List Theorem) → run_proof p ≡ v
    → All (StaysIn (proof_context v)) ts → All (StaysIn p.prover) ts
stay_here p v ts is stay =
    subst (λ (x : RunProof). All (StaysIn (proof_context x)) ts) (sym is) stay

pub grown_by : (p : Inside) (new : Context) (ts : List Theorem) → new ≡ with_lemmas p.prover ts
    → HasGrown p.prover new
grown_by p new ts is = subst (HasGrown p.prover) (sym is) (grown_lemmas p.prover ts)

context_now : (p : Inside) (v : RunProof) (new : Context) (ts : List Theorem) → run_proof p ≡ v
    → new ≡ with_lemmas p.prover ts → new ≡ with_lemmas (proof_context v) ts
context_now p v new ts is added =
    added ∙ ap (λ (x : RunProof). with_lemmas (proof_context x) ts) is

-- ---- the last theorem, once more

pub cites_last : (last t : Theorem) → HasNoMeta last.conclusion
    → t.conclusion ≡ instance [] last.conclusion → IsByLemma last [] [] t → CitesLast last t
cites_last last t no_meta is by s stated over =
    lemma_within s last [] [] t by stated tt
    (subst (IsOver s) (sym (cited_says last.conclusion t.conclusion no_meta is)) over) tt

pub last_metas : (p : Inside) → IsProof p → HasNoMeta p.last.conclusion
last_metas p proof =
    last_no_meta p.prover (plain_pattern p.start.now)
    (configuration (plain_pattern p.start.now) p.reached) p.last proof.has_reached.says

pub plain_names : (p : Inside) (new : Context) → HasGrown p.prover new → IsProof p
    → HasPlainNames new.program.sig
plain_names p new g proof =
    subst (λ (q : Program). HasPlainNames q.sig) (sym g.program) proof.names

pub written_so_far : (p : Inside) (new : Context) → HasGrown p.prover new → IsProof p
    → HasWritten p.writer new
written_so_far p new g proof = written_grown p.prover new p.writer proof.written g

pub again_follows : (p : Inside) (new : Context) (t : Theorem) → HasGrown p.prover new → IsProof p
    → CitesLast p.last t → MayFollow new p.writer.renderer t
again_follows p new t g proof cites s has told =
    let says = proof.has_reached.says in
    cites s (told p.last.hypotheses p.last.conclusion proof.has_reached.stated)
    (subst (IsOver s) (sym says.says)
    (last_over p.prover new p.last (plain_pattern p.start.now)
    (configuration (plain_pattern p.start.now) p.reached) s g has says))

again_says_so : (p : Inside) (new : Context) (t : Theorem) → HasGrown p.prover new → IsProof p
    → t.conclusion ≡ p.last.conclusion
    → SaysReached new (plain_pattern p.start.now)
    (configuration (plain_pattern p.start.now) p.reached) t
again_says_so p new t g proof same =
    says_later p.prover new (plain_pattern p.start.now)
    (configuration (plain_pattern p.start.now) p.reached) p.last t g proof.has_reached.says same

-- ---- the proof with the lemmas

abbrev pub after_lemmas : Inside → Context → Writer → Theorem → ℕ → Inside
after_lemmas p new w last bytes =
    record p {
      prover = new;
      writer = w;
      last = last;
      bytes = bytes;
      failed = false;
    }

pub lemmas_proof : (p : Inside) (new : Context) (w : Writer) (again last : Theorem) (bytes : ℕ)
    → IsProof p → HasGrown p.prover new → again.conclusion ≡ p.last.conclusion → last ≡ again
    → HasWritten w new → again.hypotheses ≡ []
    → IsStated (all_stated w.renderer) again.hypotheses again.conclusion
    → IsProof (after_lemmas p new w last bytes)
lemmas_proof p new w again last bytes proof g same same_last written none stated =
    is_proof p.prover.program p.reached again (after_lemmas p new w last bytes) g.program
    proof.well_sorted proof.bound proof.names proof.has_reached.ground
    (again_says_so p new again g proof same) refl same_last proof.reach
    (lemma_grown p.prover new p.reach g proof.listed) written none stated

-- a lemma behind others
there_behind : (ts us : List Theorem) (i : ℕ) (d : Theorem) → i < length us
    → slice_get (ts ++ us) (length ts + i) ≡ Some (get_or us i d)
there_behind ts us i d few =
    slice_get-get_or (ts ++ us) (length ts + i) d (omega (arith, few, length-append ts us))
    ∙ ap (λ (t : Theorem). Some t) (get_or-append-add ts us i d)

-- what was not written of the lemmas are these theorems, or more
has_theorems : (p : Inside) (new : Context) (ts : List Theorem) (before after text : List ℕ)
    → IsProof p → new ≡ with_lemmas p.prover ts → StatesNewLemmas new p.writer before after
    → before ≡ [] → IsTextOf new p.writer text → All (IsTheoremOf new.names (text ++ after)) ts
has_theorems p new ts before after text proof added states none was i d few =
    states after text (sym (ap (λ (l : List ℕ). l ++ after) none)) was (length p.prover.lemmas + i)
    (get_or ts i d) (omega (arith, proof.written.few_lemmas))
    (ap (λ (cx : Context). slice_get cx.lemmas (length p.prover.lemmas + i)) added
    ∙ there_behind p.prover.lemmas ts i d few)

pub adds_lemmas : (p : Inside) (v : RunProof) (new : Context) (w : Writer) (ts : List Theorem)
    (again last : Theorem) (before after : List ℕ) (bytes : ℕ) → run_proof p ≡ v → IsProof p
    → new ≡ with_lemmas p.prover ts → again.conclusion ≡ p.last.conclusion
    → Concludes new p.writer again before after → Adds new p.writer w before after
    → StatesNewLemmas new p.writer before after → before ≡ []
    → bytes ≡ capped (p.bytes + length after)
    → AddsLemmas v (run_proof (after_lemmas p new w last bytes)) ts after
adds_lemmas p v new w ts again last before after bytes is proof added says concludes
    (more, whole, adds) states none counted = record {
      context = context_now p v new ts is added;
      same_start = ap (λ (x : RunProof). x.start) is;
      same_made = ap (λ (x : RunProof). x.made) is;
      same_steps = ap (λ (x : RunProof). x.steps) is;
      sound = refl;
      fits = λ text h.
          subst (λ (l : List ℕ).
          FitsProof (run_proof (after_lemmas p new w last bytes)) (text ++ l)) (sym every)
          (fits text (fitted_text p v new text is proof g h) h.bytes_are);
      proves = λ text h.
          has_theorems p new ts before after text proof added states none
          (fitted_text p v new text is proof g h);
    }
  where
    g : HasGrown p.prover new
    g = grown_by p new ts added

    every : after ≡ more
    every = whole ∙ ap (λ (l : List ℕ). l ++ more) none

    fits : (text : List ℕ) → IsTextOf new p.writer text → v.bytes ≡ capped (length text)
        → FitsProof (run_proof (after_lemmas p new w last bytes)) (text ++ more)
    fits text was before_bytes =
        fits_now (after_lemmas p new w last bytes) p.writer p.reached again before after more text
        proof.has_reached.ground (again_says_so p new again g proof says) refl concludes whole was
        (adds text was)
        (counted ∙ ap (λ (l : List ℕ). capped (p.bytes + length l)) every
        ∙ counted_more text more p.bytes (ap (λ (x : RunProof). x.bytes) is ∙ before_bytes))

-- ---- what is written to the created file

pub lemmas_justified : (old new : Option Told) (before after : RunProof) (ts : List Theorem)
    → WritesLemmas old new before after ts → JustifiesFurther old new before after
lemmas_justified old new before after ts (added, writes, adds) =
    Writes-becomes (FitsProof before) (FitsProof after) old new added writes adds.fits

-- the text with the lemmas proves the same
still_proves : (before after : RunProof) (ts : List Theorem) (added text : List ℕ)
    → AddsLemmas before after ts added → FitsProof before text
    → IsProofOfRun (text ++ added) (theory_of before.program) (plain_pattern before.start)
    (reached before)
still_proves before after ts added text adds h =
    subst (λ (p : Program). Proves p before.start before.made)
    (ap (λ (cx : Context). cx.program) adds.context)
    (subst (λ (s : RulePat). Proves after.program s before.made) adds.same_start
    (subst (λ (u : Option Tree). Proves after.program after.start u) adds.same_made
    (adds.fits text h).proves))
  where
    Proves : Program → RulePat → Option Tree → Type 0
    Proves program start made =
        IsProofOfRun (text ++ added) (theory_of program) (plain_pattern start)
        (configuration (plain_pattern start) made)

front_of_text : (before after : RunProof) (ts : List Theorem) (added front rest text : List ℕ)
    → added ≡ front ++ rest → AddsLemmas before after ts added → FitsProof before text
    → IsFrontOfProof (theory_of before.program) (plain_pattern before.start) (reached before)
    (text ++ front)
front_of_text before after ts added front rest text is adds h = (
  rest,
  subst (λ (l : List ℕ). IsProofOfRun l (theory_of before.program) (plain_pattern before.start)
      (reached before))
      (ap (λ (l : List ℕ). text ++ l) is ∙ sym (append_assoc text front rest))
      (still_proves before after ts added text adds h),
)

pub front_lemmas : (old new : Option Told) (before after : RunProof) (ts : List Theorem)
    (added : List ℕ) → WritesFront old new added → AddsLemmas before after ts added
    → WritesFrontAfter old new before (EndsHere before)
front_lemmas None new before after ts added front adds = (
  added,
  tt,
  λ text h. (
    reached before,
    refl,
    front_of_text before after ts added added [] text (sym (append-nil added)) adds h,
  ),
)
front_lemmas (Some old) new before after ts added (front, rest, is, writes) adds = (
  front,
  writes,
  λ text h. (
    reached before,
    refl,
    front_of_text before after ts added front rest text is adds h,
  ),
)
