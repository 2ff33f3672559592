-- What is left of the created file when it is closed.
use Rattle.std.proofs.Common.{◌≡◌, ◌≢◌, ℕ, inl, inr, List, [], ◌++◌, Option, Some, None, true, refl}
use Rattle.std.proofs.Common.{sym, ◌∙◌, ap, subst}
use Rattle.std.specs.Prelude.{Result, Ok, Err, OnErr}
use Rattle.std.proofs.lemmas.List.{append-nil}
use Rattle.desk_io.specs.Told.{Told, file_of}
use Rattle.desk_io.specs.Changes.{TellsCreated, Writes, Closes, PutsFile}
use Rattle.term_core.specs.Patterns.{Pattern}
use Rattle.rule_core.specs.Theories.{RewriteTheory}
use Rattle.rule_core.specs.Runs.{Run, IsRunOf, kept_by}
use Rattle.rule_core.proofs.RunEnds.{run_may_end}
use Rattle.mm_justify.specs.Justifying.{IsProofOfRun, IsFrontOfRun}
use Rattle.prove_run.specs.RunProof.{RunProof}
use Rattle.prove_run.specs.Summaries.{IsSummaryOf, summary_of}
use Rattle.prove_run.specs.declared.summaries.Summary.{Summary}
use Rattle.run_proof.specs.ClosedProofs.{KeepsOthersNow, PutsCreated, PutsFront, PutsProof}
use Rattle.run_proof.specs.OpenProofs.{WritesFrontOfRun, WritesProof}

some_same : {A : Type 0} (a b : A) → Some a ≡ Some b → a ≡ b
some_same a b h = cc

pub closed_others : (made new : Option Told) → Closes made new → KeepsOthersNow made new
closed_others None new h = tt
closed_others (Some made) new h = (record made { created = None }, h, λ name other is differs. refl)

-- the bytes that were written before the file was closed
pub written_closed : (made mid new : Option Told) (bytes : List ℕ) → Writes made mid bytes
    → Closes mid new → PutsCreated made new bytes
written_closed None mid new bytes h k = tt
written_closed (Some made) mid new bytes h k =
    let P : Option Told → Type 0 = λ o. Closes o new in
    let closed : Closes (Some (record made { files = h.2 })) new = subst P h.6 k in (
      record made { files = h.2; created = None },
      closed,
      λ name content is held. (
          let same : h.0 ≡ name = some_same h.0 name (sym h.3 ∙ is) in
          let one : h.1 ≡ content =
          some_same h.1 content (sym h.4 ∙ ap (file_of made.files) same ∙ held) in
          subst (λ (c : List ℕ). PutsFile made.files h.2 name (c ++ bytes)) one
          (subst (λ (n : List ℕ). PutsFile made.files h.2 n (h.1 ++ bytes)) same h.5)),
    )

pub puts_others : (made new : Option Told) (name bytes : List ℕ) (told : TellsCreated true made)
    → PutsCreated made new bytes → KeepsOthersNow made new
puts_others None new name bytes told h = tt
puts_others (Some made) new name bytes told h = (
  h.0,
  h.1,
  λ created other is differs. (
      let same : told.0 ≡ created = some_same told.0 created (sym told.2 ∙ is) in
      let held : file_of made.files created ≡ Some told.1 =
      ap (file_of made.files) (sym same) ∙ told.3 in
      (h.2 created told.1 is held).1 other differs),
)

-- the front of a proof was written, and the file was closed
pub front_closed : (made mid new : Option Told) (theory : RewriteTheory) (limit calls : ℕ)
    (start : Pattern) → WritesFrontOfRun made mid theory limit calls start → Closes mid new
    → PutsFront made new theory limit calls start
front_closed made mid new theory limit calls start h k =
    (h.0, written_closed made mid new h.0 h.1 k, h.2)

pub front_others : (made mid new : Option Told) (theory : RewriteTheory) (limit calls : ℕ)
    (start : Pattern) → WritesFrontOfRun made mid theory limit calls start → Closes mid new
    → TellsCreated true made → KeepsOthersNow made new
front_others None mid new theory limit calls start h k told = tt
front_others (Some made) mid new theory limit calls start h k told =
    puts_others (Some made) new told.0 h.0 told (written_closed (Some made) mid new h.0 h.1 k)

-- a whole proof of the run is a front of one
pub proof_front : (theory : RewriteTheory) (limit calls : ℕ) (start : Pattern) (run : Run)
    (bytes : List ℕ) → IsRunOf theory limit calls start run
    → IsProofOfRun bytes theory start (kept_by start run)
    → IsFrontOfRun theory limit calls start bytes
proof_front theory limit calls start run bytes is h = (
  kept_by start run,
  run_may_end theory limit calls start run is,
  (
    [],
    subst (λ (text : List ℕ). IsProofOfRun text theory start (kept_by start run))
        (sym (append-nil bytes)) h,
  ),
)

-- the front of a proof that was written whole
pub proof_written : (old new : Option Told) (theory : RewriteTheory) (limit calls : ℕ)
    (start : Pattern) (run : Run) (shown : Option ℕ) (proof : RunProof)
    → IsRunOf theory limit calls start run → WritesProof old new theory start run shown proof
    → WritesFrontOfRun old new theory limit calls start
proof_written old new theory limit calls start run shown proof is h =
    (h.0, h.1, inr (proof_front theory limit calls start run h.0 is h.2.proves))

-- a proof was written, and the file was closed
pub proof_closed : (made mid new : Option Told) (theory : RewriteTheory) (start : Pattern)
    (run : Run) (shown : Option ℕ) (proof : RunProof) (s : Summary)
    → WritesProof made mid theory start run shown proof → Closes mid new → s ≡ summary_of proof
    → PutsProof made new theory start run s shown
proof_closed made mid new theory start run shown proof s h k is = (
  h.0,
  written_closed made mid new h.0 h.1 k,
  h.2.proves,
  subst (IsSummaryOf h.0) (sym is)
      (record { counts = h.2.counts; bytes_are = h.2.bytes_are }),
  ap (λ (x : Summary). x.steps) is ∙ h.2.steps_are,
  h.2.shows,
)

-- a proof of the run that was put is a front of one
pub put_front : (made new : Option Told) (theory : RewriteTheory) (limit calls : ℕ)
    (start : Pattern) (run : Run) (s : Summary) (shown : Option ℕ)
    → IsRunOf theory limit calls start run → PutsProof made new theory start run s shown
    → PutsFront made new theory limit calls start
put_front made new theory limit calls start run s shown is h =
    (h.0, h.1, inr (proof_front theory limit calls start run h.0 is h.2))
