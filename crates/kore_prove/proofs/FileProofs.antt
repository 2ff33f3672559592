-- The file of a proof, and how the other files change.
use Rattle.std.proofs.Common.{◌≡◌, ◌≢◌, ℕ, inl, inr, List, [], ◌++◌, Option, Some, None, Result, Ok}
use Rattle.std.proofs.Common.{Err, true, refl, sym, ◌∙◌, ap, subst}
use Rattle.std.specs.Prelude.{OnErr}
use Rattle.std.proofs.lemmas.List.{append-nil}
use Rattle.desk_io.specs.Told.{Told, file_of}
use Rattle.desk_io.specs.KeptFiles.{KeepsFiles, KeepsFile, KeepsOthers}
use Rattle.desk_io.specs.HeldFiles.{Tells, TellsNow}
use Rattle.desk_io.specs.Changes.{Same, TellsCreated, Creates, Writes, Closes, PutsFile}
use Rattle.term_core.specs.Patterns.{Pattern}
use Rattle.rule_core.specs.Theories.{RewriteTheory}
use Rattle.rule_core.specs.Runs.{Run, IsRunOf}
use Rattle.prove_run.specs.declared.summaries.Summary.{Summary}
use Rattle.run_proof.specs.ClosedProofs.{KeepsOthersNow, PutsCreated, PutsFront, PutsProof}
use Rattle.run_proof.proofs.ClosedLaws.{proof_front}
use Rattle.kore_prove.specs.ProofFiles.{HoldsCounted, MayHoldFront}

-- what holds after an error
pub on_err_more : {T E : Type 0} (r : Result T E) (P Q : Type 0) → (P → Q) → OnErr r P → OnErr r Q
on_err_more (Ok t) P Q f h = tt
on_err_more (Err e) P Q f h = f h

pub some_same : {A : Type 0} (a b : A) → Some a ≡ Some b → a ≡ b
some_same a b h = cc

-- if all files are kept, the others are kept; if fewer files are written, more files are kept
pub kept_others : (W : List ℕ → Type 0) (old new : Option Told) → KeepsFiles old new
    → KeepsOthers W old new
kept_others W None new h = tt
kept_others W (Some old) new h = (record old { unread = h.0 }, h.1, λ name other. refl)

pub fewer_others : (V W : List ℕ → Type 0) (old new : Option Told)
    → ((name : List ℕ) → V name → W name) → KeepsOthers V old new → KeepsOthers W old new
fewer_others V W None new f h = tt
fewer_others V W (Some old) new f h = (h.0, h.1, λ name other. h.2 name (λ v. other (f name v)))

pub then_others : (W : List ℕ → Type 0) (old between new : Option Told) → KeepsFiles old between
    → KeepsOthers W between new → KeepsOthers W old new
then_others W None between new kept h = tt
then_others W (Some old) between new kept h =
    let P : Option Told → Type 0 = λ o. KeepsOthers W o new in
    let q : KeepsOthers W (Some (record old { unread = kept.0 })) new = subst P kept.1 h in
    (q.0, q.1, q.2)

-- if all files are kept, each file is kept
pub kept_file : (old new : Option Told) (file : List ℕ) → KeepsFiles old new
    → KeepsFile old new file
kept_file None new file h = tt
kept_file (Some old) new file h = (record old { unread = h.0 }, h.1, refl)

pub then_file : (old between new : Option Told) (file : List ℕ) → KeepsFiles old between
    → KeepsFile between new file → KeepsFile old new file
then_file None between new file kept h = tt
then_file (Some old) between new file kept h =
    let P : Option Told → Type 0 = λ o. KeepsFile o new file in
    let q : KeepsFile (Some (record old { unread = kept.0 })) new file = subst P kept.1 h in
    (q.0, q.1, q.2)

pub same_itself : (told : Option Told) → Same told told
same_itself None = tt
same_itself (Some told) = refl

pub same_file : (old new : Option Told) (file : List ℕ) → Same old new → KeepsFile old new file
same_file None new file h = tt
same_file (Some old) new file h = (old, h, refl)

-- The created file of a desk, from its creation to its end.

-- a file that was created, written and closed holds what was written
pub created_tells : (old made new : Option Told) (name bytes : List ℕ) → Creates old made name
    → PutsCreated made new bytes → TellsNow old new name bytes
created_tells None made new name bytes h k = tt
created_tells (Some old) made new name bytes h k =
    let P : Option Told → Type 0 = λ o. PutsCreated o new bytes in
    let puts : PutsCreated (Some (record { files = h.0; unread = []; created = Some name })) new
    bytes =
    subst P h.2 k in
    let Q : Option Told → Type 0 = λ o. Tells o name bytes in
    subst Q (sym puts.1) (puts.2 name [] refl h.1.0).0

-- and each other file is as before
pub created_others : (old made new : Option Told) (name : List ℕ) → Creates old made name
    → KeepsOthersNow made new → KeepsOthers (λ file. Some name ≡ Some file) old new
created_others None made new name h k = tt
created_others (Some old) made new name h k =
    let P : Option Told → Type 0 = λ o. KeepsOthersNow o new in
    let kept : KeepsOthersNow (Some (record { files = h.0; unread = []; created = Some name }))
    new =
    subst P h.2 k in (
      kept.0,
      kept.1,
      λ other unwanted. (
          let differs : other ≢ name = λ e. unwanted (ap (λ (n : List ℕ). Some n) (sym e)) in
          kept.2 name other refl differs ∙ h.1.1 other differs),
    )

pub same_others : (W : List ℕ → Type 0) (old new : Option Told) → Same old new
    → KeepsOthers W old new
same_others W None new h = tt
same_others W (Some old) new h = (old, h, λ name other. refl)

-- the created file holds the proof
pub created_proof : (old made new : Option Told) (file : List ℕ) (theory : RewriteTheory)
    (start : Pattern) (run : Run) (shown : Option ℕ) (s : Summary) → Creates old made file
    → PutsProof made new theory start run s shown
    → HoldsCounted old new file theory start run shown s
created_proof old made new file theory start run shown s h k = record {
  proof = record { bytes = k.0; held = created_tells old made new file k.0 h k.1; proves = k.2 };
  counted = k.3;
  shows = k.5;
}

-- a file that holds a proof of the run holds the front of one
pub counted_front : (told told' : Option Told) (file : List ℕ) (theory : RewriteTheory)
    (limit calls : ℕ) (start : Pattern) (run : Run) (shown : Option ℕ) (s : Summary)
    → IsRunOf theory limit calls start run → HoldsCounted told told' file theory start run shown s
    → MayHoldFront told told' file theory limit calls start
counted_front told told' file theory limit calls start run shown s is h =
    inr (record {
      bytes = h.proof.bytes;
      held = h.proof.held;
      front =
          inr (proof_front theory limit calls start run h.proof.bytes is h.proof.proves);
    })

-- the created file holds the front of a proof
pub created_front : (old made new : Option Told) (file : List ℕ) (theory : RewriteTheory)
    (limit calls : ℕ) (start : Pattern) → Creates old made file
    → PutsFront made new theory limit calls start
    → MayHoldFront old new file theory limit calls start
created_front old made new file theory limit calls start h k =
    inr (record { bytes = k.0; held = created_tells old made new file k.0 h k.1; front = k.2 })

-- if no file was created, the file is as before
pub not_created : (old new : Option Told) (file : List ℕ) (theory : RewriteTheory) (limit calls : ℕ)
    (start : Pattern) → Same old new → MayHoldFront old new file theory limit calls start
not_created old new file theory limit calls start h = inl (same_file old new file h)
