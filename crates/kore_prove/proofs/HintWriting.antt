-- The file of the hints, which is created, written and closed.
use Rattle.std.proofs.Common.{◌≡◌, ◌∙◌, ℕ, inl, inr, List, [], Option, Some, None, Result, Ok, Err}
use Rattle.std.proofs.Common.{refl, sym, subst}
use Rattle.std.specs.Prelude.{OnOk, OnErr, option_map}
use Rattle.std.proofs.lemmas.List.{append-nil}
use Rattle.desk_io.specs.Told.{Told}
use Rattle.desk_io.specs.KeptFiles.{KeepsFile, KeepsOthers}
use Rattle.desk_io.specs.HeldFiles.{Tells, TellsNow}
use Rattle.desk_io.specs.Changes.{Creates, Writes, WritesFront, Closes}
use Rattle.run_proof.specs.ClosedProofs.{KeepsOthersNow, PutsCreated}
use Rattle.run_proof.proofs.ClosedLaws.{written_closed, puts_others}
use Rattle.term_core.specs.Patterns.{Pattern}
use Rattle.rule_core.specs.Runs.{Run, IsRunOf}
use Rattle.rule_core.specs.Theories.{RewriteTheory}
use Rattle.hint_file.specs.RunTexts.{AddsHintTextOf, Grows, IsHintTextOf, text_so_far}
use Rattle.hint_file.specs.declared.hints.Hints.{Hints}
use Rattle.kore_prove.specs.WrittenHints.{MayHoldText}
use Rattle.kore_prove.specs.HintFronts.{HoldsFrontOf}
use Rattle.kore_prove.specs.ProofFiles.{HasWantedHintFront}
use Rattle.kore_prove.specs.ProvedRun.{HasWantedProof}
use Rattle.kore_prove.specs.ShownRun.{HasWantedShown}
use Rattle.kore_prove.proofs.FileProofs.{created_tells, created_others}

-- what holds whatever the result is
pub on_ok_given : {T E : Type 0} (r : Result T E) (P : Type 0) → P → OnOk r P
on_ok_given (Ok t) P h = h
on_ok_given (Err e) P h = tt

pub on_err_given : {T E : Type 0} (r : Result T E) (P : Type 0) → P → OnErr r P
on_err_given (Ok t) P h = tt
on_err_given (Err e) P h = h

-- the file that was created holds all bytes, if they were written
pub text_told : (old made mid new : Option Told) (name bytes : List ℕ) → Creates old made name
    → Writes made mid bytes → Closes mid new → TellsNow old new name bytes
text_told old made mid new name bytes h w k =
    created_tells old made new name bytes h (written_closed made mid new bytes w k)

-- a text is a front of itself
pub whole_front : (old new : Option Told) (name bytes : List ℕ) → TellsNow old new name bytes
    → HoldsFrontOf old new name bytes
whole_front old new name bytes h = (bytes, [], sym (append-nil bytes), h)

-- it holds a part from their front, if such a part was written
pub front_told : (old made mid new : Option Told) (name bytes : List ℕ) → Creates old made name
    → WritesFront made mid bytes → Closes mid new → HoldsFrontOf old new name bytes
front_told None made mid new name bytes h w k = ([], bytes, refl, tt)
front_told (Some old) made mid new name bytes h w k =
    let is : Told = record { files = h.0; unread = []; created = Some name } in
    let part : WritesFront (Some is) mid bytes =
    subst (λ (o : Option Told). WritesFront o mid bytes) h.2 w in
    let back : Writes made mid part.0 =
    subst (λ (o : Option Told). Writes o mid part.0) (sym h.2) part.3 in
    (part.0, part.1, part.2, text_told (Some old) made mid new name part.0 h back k)

-- and each other file is as before
pub text_others : (old made mid new : Option Told) (name bytes : List ℕ) → Creates old made name
    → Writes made mid bytes → Closes mid new → KeepsOthers (λ file. Some name ≡ Some file) old new
text_others None made mid new name bytes h w k = tt
text_others (Some old) made mid new name bytes h w k =
    let is : Told = record { files = h.0; unread = []; created = Some name } in
    let wrote : Writes (Some is) mid bytes =
    subst (λ (o : Option Told). Writes o mid bytes) h.2 w in
    let kept : KeepsOthersNow (Some is) new =
    puts_others (Some is) new name bytes (name, [], refl, h.1.0)
    (written_closed (Some is) mid new bytes wrote k) in
    created_others (Some old) made new name h
    (subst (λ (o : Option Told). KeepsOthersNow o new) (sym h.2) kept)

pub front_others : (old made mid new : Option Told) (name bytes : List ℕ) → Creates old made name
    → WritesFront made mid bytes → Closes mid new
    → KeepsOthers (λ file. Some name ≡ Some file) old new
front_others None made mid new name bytes h w k = tt
front_others (Some old) made mid new name bytes h w k =
    let is : Told = record { files = h.0; unread = []; created = Some name } in
    let part : WritesFront (Some is) mid bytes =
    subst (λ (o : Option Told). WritesFront o mid bytes) h.2 w in
    let back : Writes made mid part.0 =
    subst (λ (o : Option Told). Writes o mid part.0) (sym h.2) part.3 in
    text_others (Some old) made mid new name part.0 h back k

-- ---- the proof and the hints of a run

-- what is told of a file stays so if others are written
tells_kept : (W : List ℕ → Type 0) (told mid new : Option Told) (file bytes : List ℕ)
    → TellsNow told mid file bytes → (W file → ⊥) → KeepsOthers W mid new
    → TellsNow told new file bytes
tells_kept W None mid new file bytes h apart kept = tt
tells_kept W (Some told) None new file bytes h apart kept = absurd h
tells_kept W (Some told) (Some mid) new file bytes h apart kept =
    subst (λ (o : Option Told). Tells o file bytes) (sym kept.1) (kept.2 file apart ∙ h)

-- the proof stays as it is if only the file of the hints is written
pub proof_untouched : (W : List ℕ → Type 0) (proof : Option (List ℕ)) (told mid new : Option Told)
    (theory : RewriteTheory) (start : Pattern) (run : Run)
    → ((file : List ℕ) → proof ≡ Some file → W file → ⊥) → KeepsOthers W mid new
    → HasWantedProof proof told mid theory start run
    → HasWantedProof proof told new theory start run
proof_untouched W None told mid new theory start run apart kept h = tt
proof_untouched W (Some file) told mid new theory start run apart kept h = record {
  bytes = h.bytes;
  held = tells_kept W told mid new file h.bytes h.held (apart file refl) kept;
  proves = h.proves;
}

-- and it shows what it showed
pub shown_untouched : (W : List ℕ → Type 0) (proof : Option (List ℕ)) (told mid new : Option Told)
    (theory : RewriteTheory) (run : Run) (shown : Option ℕ)
    → ((file : List ℕ) → proof ≡ Some file → W file → ⊥) → KeepsOthers W mid new
    → HasWantedShown proof told mid theory run shown
    → HasWantedShown proof told new theory run shown
shown_untouched W None told mid new theory run shown apart kept h = tt
shown_untouched W (Some file) told mid new theory run shown apart kept h = record {
  bytes = h.bytes;
  held = tells_kept W told mid new file h.bytes h.held (apart file refl) kept;
  shows = h.shows;
}

-- a file that was not written before is the same since then
told_through : (W : List ℕ → Type 0) (told mid new : Option Told) (file bytes : List ℕ)
    → KeepsOthers W told mid → TellsNow mid new file bytes → TellsNow told new file bytes
told_through W None mid new file bytes kept h = tt
told_through W (Some told) mid new file bytes kept h =
    subst (λ (o : Option Told). TellsNow o new file bytes) kept.1 h

file_since : (W : List ℕ → Type 0) (told mid new : Option Told) (file : List ℕ)
    → KeepsOthers W told mid → (W file → ⊥) → KeepsFile mid new file → KeepsFile told new file
file_since W None mid new file kept apart h = tt
file_since W (Some told) mid new file kept apart h =
    let q : KeepsFile (Some kept.0) new file =
    subst (λ (o : Option Told). KeepsFile o new file) kept.1 h in
    (q.0, q.1, q.2 ∙ kept.2 file apart)

-- what was written of the hints is a front of the run's hint text
pub hints_front : (W : List ℕ → Type 0) (hints : Option (List ℕ)) (told mid new : Option Told)
    (theory : RewriteTheory) (limit calls : ℕ) (start : Pattern) (run : Run) (old now : Hints)
    → IsRunOf theory limit calls start run → text_so_far old ≡ option_map (λ _. []) hints
    → AddsHintTextOf theory calls start run old now
    → ((file : List ℕ) → hints ≡ Some file → W file → ⊥) → KeepsOthers W told mid
    → MayHoldText mid new hints (text_so_far now)
    → HasWantedHintFront hints told new theory limit calls start
hints_front W None told mid new theory limit calls start run old now is first added apart kept h =
    tt
hints_front W (Some file) told mid new theory limit calls start run old now is first added apart
    kept h =
    let grown : Grows (IsHintTextOf theory calls start run) (Some []) (text_so_far now) =
    subst
    (λ (o : Option (List ℕ)). Grows (IsHintTextOf theory calls start run) o (text_so_far now)) first
    added in
    let part : MayHoldText mid new (Some file) (Some grown.0) =
    subst (λ (o : Option (List ℕ)). MayHoldText mid new (Some file) o) grown.2 h in
    elim part [
      | inl same ↦ inl (file_since W told mid new file kept (apart file refl) same)
      | inr front ↦ inr (record {
        run = run;
        is_run = is;
        text = grown.0;
        is_text = grown.1;
        holds = (
          front.0,
          front.1,
          front.2,
          told_through W told mid new file front.0 kept front.3,
        );
      })
    ]
