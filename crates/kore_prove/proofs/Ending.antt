-- Ends of a call that prints no run, and their causes.
use Rattle.std.proofs.Common.{◌≡◌, ℕ, ◌≤◌, ◌⊎◌, inl, inr, List, length, Option, None, Some}
use Rattle.std.proofs.Common.{Result, Ok, Err, refl, sym, ◌∙◌, ap, subst, arith}
use Rattle.std.specs.Prelude.{OnOk, OnErr, IsErrOf}
use Rattle.desk_io.specs.Told.{Told, Holds, file_of}
use Rattle.desk_io.specs.KeptFiles.{KeepsFiles}
use Rattle.desk_io.specs.MissingFiles.{Lacks, HoldsMore}
use Rattle.desk_io.specs.Sent.{Appends}
use Rattle.desk_io.specs.SinkChanges.{SameBytes, AppendsFront}
use Rattle.desk_io.specs.Counts.{CountRose}
use Rattle.desk_io.specs.declared.desk.DeskFault.{DeskFault}
use Rattle.desk_io.specs.declared.desk.DeskFault.TheVariants as fault
use Rattle.desk_io.specs.declared.read.ReadEnd.TheVariants as read
use Rattle.desk_io.proofs.Counts.{CountRose-later}
use Rattle.kore_axioms.specs.declared.refusals.Refusal.TheVariants as refusal
use Rattle.kore_axioms.specs.declared.refusals.Refusal.{Refusal}
use Rattle.kore_sig.specs.FirstFault.{Fault}
use Rattle.kore_rules.specs.RefusedTexts.{RefusesFor}
use Rattle.kore_prove.specs.declared.files.FileEnd.{FileEnd}
use Rattle.kore_prove.specs.declared.files.FileEnd.TheVariants as file
use Rattle.kore_prove.specs.Limits.{HoldsWithin}
use Rattle.kore_prove.specs.PrintedRun.{IsCodeOfRun}
use Rattle.kore_prove.specs.Reports.{Ending, out_of_memory, bad_words, read_fault, write_fault}
use Rattle.kore_prove.specs.Reports.{no_such_file, definition_refused, term_refused, too_large}
use Rattle.kore_prove.specs.Reports.{hints_refused, end_code, report_line, Gets, code_after}
use Rattle.kore_prove.specs.Reports.{Reports}
use Rattle.kore_prove.specs.PlainEnds.{fault_end}
use Rattle.kore_prove.specs.DrillWords.{DrillRequest}
use Rattle.kore_prove.specs.RunWords.{RunRequest}
use Rattle.kore_prove.specs.ProveWords.{ProveRequest}
use Rattle.kore_prove.specs.Courses.{Course}
use Rattle.kore_prove.specs.CountedFaults.{CountsWriteFault, CountsOutputFault}
use Rattle.kore_prove.specs.Causes.{StopsWriting, RunCause, run_unread, run_unproved, run_unprinted}
use Rattle.kore_prove.specs.Causes.{PathCause, path_unread, path_unproved, path_unprinted}
use Rattle.kore_prove.specs.Causes.{DrillCause, drill_unmade, drill_unproved, drill_unprinted}
use Rattle.kore_prove.specs.Unwritten.{IsUnwritten}
use Rattle.kore_prove.specs.FileCauses.{FileCause}

pub same_bytes : (told : Option (List ℕ)) → SameBytes told told
same_bytes None = tt
same_bytes (Some bytes) = refl

pub same_files : (told : Option Told) → KeepsFiles told told
same_files None = tt
same_files (Some told) = (told.unread, refl)

-- the exit codes of calls that print their lines
abbrev pub IsDoneCode : ℕ → Type 0
IsDoneCode code = (code ≡ 0) ⊎ (code ≡ 10) ⊎ (code ≡ 11) ⊎ (code ≡ 12) ⊎ (code ≡ 13)

after_answer : (e : Ending) (answer : Result (Unit {0}) DeskFault) (code : ℕ)
    → code ≡ code_after e answer → (code ≡ end_code e) ⊎ (code ≡ 1)
after_answer e (Ok done) code is = inl is
after_answer e (Err fault.Failed) code is = inl is
after_answer e (Err fault.Memory) code is = inr is

-- what sending a line says, by its answer
pub gets : (e : Ending) (answer : Result (Unit {0}) DeskFault) (before after : Option (List ℕ))
    (old new : ℕ) → OnOk answer (Appends before after (report_line e))
    → OnErr answer (AppendsFront before after (report_line e))
    → (IsErrOf answer fault.Failed → CountRose old new) → Gets e answer before after old new
gets e (Ok done) before after old new sent cut rose = sent
gets e (Err fault.Failed) before after old new sent cut rose = (cut, rose refl)
gets e (Err fault.Memory) before after old new sent cut rose = cut

-- no end has such a code
no_done_code : (e : Ending) (code : ℕ) → code ≡ end_code e → IsDoneCode code → ⊥
no_done_code out_of_memory code is h = grind arith
no_done_code bad_words code is h = grind arith
no_done_code read_fault code is h = grind arith
no_done_code write_fault code is h = grind arith
no_done_code (no_such_file name) code is h = grind arith
no_done_code (definition_refused number byte) code is h = grind arith
no_done_code (term_refused number byte) code is h = grind arith
no_done_code (too_large name) code is h = grind arith
no_done_code (hints_refused number line) code is h = grind arith

-- the code after a report is the one of the end, or of out of memory
pub code_reported : (e : Ending) (before after : Option (List ℕ)) (old new code : ℕ)
    → Reports e before after old new code → (code ≡ end_code e) ⊎ (code ≡ 1)
code_reported e before after old new code r = after_answer e r.answer code r.code_is

pub code_of_no_end : (e : Ending) (before after : Option (List ℕ)) (old new code : ℕ)
    → Reports e before after old new code → IsDoneCode code → ⊥
code_of_no_end e before after old new code r h =
    elim (code_reported e before after old new code r) [
      | inl own ↦ no_done_code e code own h
      | inr one ↦ no_done_code out_of_memory code one h
    ]

pub code_of_run : (words : List (List ℕ)) (code : ℕ) → IsCodeOfRun words code → IsDoneCode code
code_of_run words code (inl ten) = inr (inl ten)
code_of_run words code (inr (inl eleven)) = inr (inr (inl eleven))
code_of_run words code (inr (inr zero)) = inl zero.0

-- a call that reports an end has the end's code, or the code of out of memory
pub code_of_one : (e : Ending) (before after : Option (List ℕ)) (old new code : ℕ)
    → Reports e before after old new code → end_code e ≡ 1 → code ≡ 1
code_of_one e before after old new code r one =
    elim (code_reported e before after old new code r) [ inl own ↦ own ∙ one | inr other ↦ other ]

-- if a desk kept its files, what it tells of a file held before too
pub kept_holds : (told told' : Option Told) (name bytes : List ℕ) → KeepsFiles told told'
    → Holds told' name bytes → Holds told name bytes
kept_holds None told' name bytes kept h = tt
kept_holds (Some told) told' name bytes kept h =
    let P : Option Told → Type 0 = λ o. Holds o name bytes in subst P kept.1 h

kept_lacks : (told told' : Option Told) (name : List ℕ) → KeepsFiles told told' → Lacks told' name
    → Lacks told name
kept_lacks None told' name kept h = tt
kept_lacks (Some told) told' name kept h =
    let P : Option Told → Type 0 = λ o. Lacks o name in subst P kept.1 h

kept_more : (told told' : Option Told) (name : List ℕ) (limit : ℕ) → KeepsFiles told told'
    → HoldsMore told' name limit → HoldsMore told name limit
kept_more None told' name limit kept h = tt
kept_more (Some told) told' name limit kept h =
    let P : Option Told → Type 0 = λ o. HoldsMore o name limit in
    let q : HoldsMore (Some (record told { unread = kept.0 })) name limit = subst P kept.1 h in
    (q.0, q.1, q.2)

-- the cause of an end at the second file, for the desk before the first file was read
pub FileCause-kept : (IsWhy : List ℕ → Fault → Type 0) (told told' : Option Told) (name : List ℕ)
    (limit a b c : ℕ) (end : FileEnd) → KeepsFiles told told' → a ≤ b
    → FileCause IsWhy told' name limit b c end → FileCause IsWhy told name limit a c end
FileCause-kept IsWhy told told' name limit a b c (file.Unread read.NoFile) kept le h =
    kept_lacks told told' name kept h
FileCause-kept IsWhy told told' name limit a b c (file.Unread read.Failed) kept le h =
    CountRose-later a b c le h
FileCause-kept IsWhy told told' name limit a b c (file.Unread read.TooLarge) kept le h =
    kept_more told told' name limit kept h
FileCause-kept IsWhy told told' name limit a b c (file.Unread read.Memory) kept le h = tt
FileCause-kept IsWhy told told' name limit a b c (file.Refused (refusal.Refused number byte)) kept
    le h =
    (h.0, (kept_holds told told' name h.0 kept h.1.0, h.1.1), h.2)
FileCause-kept IsWhy told told' name limit a b c (file.Refused refusal.Memory) kept le h = tt

pub kept_then : (old between new : Option Told) → KeepsFiles old between → KeepsFiles between new
    → KeepsFiles old new
kept_then None between new h k = tt
kept_then (Some old) between new h k =
    let P : Option Told → Type 0 = λ o. KeepsFiles o new in
    let q : KeepsFiles (Some (record old { unread = h.0 })) new = subst P h.1 k in
    (q.0, q.1)

-- if writing was stopped, the end is the one of out of memory or of a fault in writing
pub stops : (f : DeskFault) (e : Ending) (Counted : Type 0) → e ≡ fault_end f
    → (f ≡ fault.Failed → Counted) → StopsWriting Counted e
stops fault.Failed e Counted is counted = inr (is, counted refl)
stops fault.Memory e Counted is counted = inl is

pub stopped_unfaulted : (Counted : Type 0) (e : Ending) → (Counted → ⊥) → StopsWriting Counted e
    → end_code e ≡ 1
stopped_unfaulted Counted e free (inl memory) = ap end_code memory
stopped_unfaulted Counted e free (inr failed) = absurd (free failed.1)

-- a call that stopped in writing may have written a file
stopped_written : (Counted P : Type 0) (e : Ending) (code : ℕ) → StopsWriting Counted e
    → code ≡ end_code e → IsUnwritten code → P
stopped_written Counted P e code (inl memory) is un = absurd (un.1 (is ∙ ap end_code memory))
stopped_written Counted P e code (inr failed) is un = absurd (un.2 (is ∙ ap end_code failed.0))

-- an end that writes no file keeps all files
run_unwritten : (asked : RunRequest) (c : Course) (e : Ending) (code : ℕ) → RunCause asked c e
    → code ≡ end_code e → IsUnwritten code → KeepsFiles c.desk.told c.desk'.told
run_unwritten asked c e code (run_unread cause kept) is un = kept.1
run_unwritten asked c e code (run_unproved has stopped same) is un =
    stopped_written (CountsWriteFault c) _ e code stopped is un
run_unwritten asked c e code (run_unprinted begun stopped) is un =
    stopped_written (CountsOutputFault c) _ e code stopped is un

path_unwritten : (asked : ProveRequest) (c : Course) (e : Ending) (code : ℕ) → PathCause asked c e
    → code ≡ end_code e → IsUnwritten code → KeepsFiles c.desk.told c.desk'.told
path_unwritten asked c e code (path_unread cause kept) is un = kept.1
path_unwritten asked c e code (path_unproved has stopped same) is un =
    stopped_written (CountsWriteFault c) _ e code stopped is un
path_unwritten asked c e code (path_unprinted begun stopped) is un =
    stopped_written (CountsOutputFault c) _ e code stopped is un

drill_unwritten : (asked : DrillRequest) (c : Course) (e : Ending) (code : ℕ)
    → DrillCause asked c e → code ≡ end_code e → IsUnwritten code
    → KeepsFiles c.desk.told c.desk'.told
drill_unwritten asked c e code (drill_unmade memory kept) is un = kept.1
drill_unwritten asked c e code (drill_unproved has stopped same) is un =
    stopped_written (CountsWriteFault c) _ e code stopped is un
drill_unwritten asked c e code (drill_unprinted begun stopped) is un =
    stopped_written (CountsOutputFault c) _ e code stopped is un

pub run_files : (asked : RunRequest) (c : Course) (e : Ending) (before after : Option (List ℕ))
    (old new code : ℕ) → Reports e before after old new code → RunCause asked c e
    → IsUnwritten code → KeepsFiles c.desk.told c.desk'.told
run_files asked c e before after old new code r cause un =
    elim (code_reported e before after old new code r) [
      | inl own ↦ run_unwritten asked c e code cause own un
      | inr one ↦ absurd (un.1 one)
    ]

pub path_files : (asked : ProveRequest) (c : Course) (e : Ending) (before after : Option (List ℕ))
    (old new code : ℕ) → Reports e before after old new code → PathCause asked c e
    → IsUnwritten code → KeepsFiles c.desk.told c.desk'.told
path_files asked c e before after old new code r cause un =
    elim (code_reported e before after old new code r) [
      | inl own ↦ path_unwritten asked c e code cause own un
      | inr one ↦ absurd (un.1 one)
    ]

pub drill_files : (asked : DrillRequest) (c : Course) (e : Ending) (before after : Option (List ℕ))
    (old new code : ℕ) → Reports e before after old new code → DrillCause asked c e
    → IsUnwritten code → KeepsFiles c.desk.told c.desk'.told
drill_files asked c e before after old new code r cause un =
    elim (code_reported e before after old new code r) [
      | inl own ↦ drill_unwritten asked c e code cause own un
      | inr one ↦ absurd (un.1 one)
    ]

-- a file has one content
pub one_content : (told : Told) (name bytes bytes' : List ℕ) → Holds (Some told) name bytes
    → Holds (Some told) name bytes' → bytes ≡ bytes'
one_content told name bytes bytes' a b =
    let found : Some bytes ≡ Some bytes' = sym a ∙ b in cc

pub not_lacking : (told : Told) (name name' bytes : List ℕ) → name' ≡ name
    → Holds (Some told) name bytes → Lacks (Some told) name' → ⊥
not_lacking told name name' bytes same a b =
    let found : Some bytes ≡ None = sym a ∙ ap (file_of told.files) (sym same) ∙ b in
    let never : ⊥ = cc in never

pub not_more : (told : Told) (name name' bytes : List ℕ) (limit : ℕ) → name' ≡ name
    → Holds (Some told) name bytes → length bytes ≤ limit → HoldsMore (Some told) name' limit → ⊥
not_more told name name' bytes limit same a few b =
    let P : List ℕ → Type 0 = λ n. Holds (Some told) n b.0 in
    let one = one_content told name bytes b.0 a (subst P same b.1) in
    let lengths = ap (λ (xs : List ℕ). length xs) one in
    let more = b.2 in
    let never : ⊥ = omega (arith, lengths, few, more) in never

-- bytes that are refused are the cause of an end
pub refused_cause : (IsWhy : List ℕ → Fault → Type 0) (told : Option Told) (name : List ℕ)
    (limit a b : ℕ) (r : Refusal) (bytes : List ℕ) → HoldsWithin told name limit bytes
    → RefusesFor (IsWhy bytes) r → FileCause IsWhy told name limit a b (file.Refused r)
refused_cause IsWhy told name limit a b (refusal.Refused number byte) bytes held at =
    (bytes, held, at)
refused_cause IsWhy told name limit a b refusal.Memory bytes held at = tt
