-- A call that can run, verify or check, and that nothing hinders, ends as out of memory, if it does not
-- come to that. A call that can read a path may also find a bad line. A call that is to drill always
-- can.
use Rattle.std.proofs.Common.{◌≡◌, ℕ, ◌⊎◌, inl, inr, List, Option, None, Some, refl, sym, ap, subst}
use Rattle.desk_io.specs.Told.{Told, Holds}
use Rattle.desk_io.specs.MissingFiles.{Lacks, HoldsMore}
use Rattle.desk_io.specs.Counts.{CountRose}
use Rattle.rule_core.specs.Theories.{RewriteTheory}
use Rattle.kore_rules.specs.Acceptance.{IsAccepted}
use Rattle.kore_rules.specs.Refused.{IsRefused, IsRefusedTerm}
use Rattle.kore_prove.specs.DrillWords.{DrillRequest}
use Rattle.kore_prove.specs.RunWords.{RunRequest, IsRun}
use Rattle.kore_prove.specs.VerifyWords.{IsVerify}
use Rattle.kore_prove.specs.CheckWords.{CheckRequest, IsCheck}
use Rattle.kore_prove.specs.ProveWords.{ProveRequest, IsProve}
use Rattle.kore_prove.specs.Limits.{HoldsWithin, definition_limit, term_limit}
use Rattle.kore_prove.specs.Verdicts.{database_limit}
use Rattle.kore_prove.specs.PathFiles.{hints_limit}
use Rattle.kore_prove.specs.Files.{HoldsProgram}
use Rattle.kore_prove.specs.Reports.{Ending, out_of_memory, bad_words, read_fault, write_fault}
use Rattle.kore_prove.specs.Reports.{no_such_file, definition_refused, term_refused, too_large}
use Rattle.kore_prove.specs.Reports.{hints_refused, end_code, Reports}
use Rattle.kore_prove.specs.Causes.{ReadCause, RunCause, run_unread, run_unproved, run_unprinted}
use Rattle.kore_prove.specs.Causes.{DatabaseCause, VerifyCause, file_unverified, verdict_unprinted}
use Rattle.kore_prove.specs.Causes.{CheckReadCause, CheckCause, check_undecided}
use Rattle.kore_prove.specs.Causes.{check_unprinted}
use Rattle.kore_prove.specs.Causes.{PathReadCause, PathCause, path_unread, path_unproved}
use Rattle.kore_prove.specs.Causes.{path_unprinted}
use Rattle.kore_prove.specs.Causes.{DrillCause, drill_unmade, drill_unproved, drill_unprinted}
use Rattle.kore_prove.specs.Courses.{Course}
use Rattle.kore_prove.specs.CountedFaults.{CountsReadFault, CountsWriteFault, CountsOutputFault}
use Rattle.kore_prove.specs.CompleteRuns.{CanRun, IsReadyToRun, IsFaultless, IsFaultlessTerm}
use Rattle.kore_prove.specs.CompleteRuns.{IsUnhindered}
use Rattle.kore_prove.specs.CompleteVerdicts.{CanVerify, IsReadyToVerify}
use Rattle.kore_prove.specs.CompleteChecks.{CanCheck, IsReadyToCheck}
use Rattle.kore_prove.specs.CompletePaths.{CanReadPath, IsReadyToProve}
use Rattle.kore_prove.proofs.CommandWords.{one_request, one_file, one_check, one_prove}
use Rattle.kore_prove.proofs.Ending.{one_content, not_lacking, not_more, code_reported}
use Rattle.kore_prove.proofs.Ending.{stopped_unfaulted}

-- the files of the request can be run
record StandsFor (told : Told) (asked : RunRequest) : Type 0 where
  definition : List ℕ
  definition_held : HoldsWithin (Some told) asked.definition definition_limit definition
  faultless : IsFaultless definition
  term : List ℕ
  term_held : HoldsWithin (Some told) asked.term term_limit term
  faultless_term : (theory : RewriteTheory) (top : Option ℕ) → IsAccepted definition theory top
      → IsFaultlessTerm theory top term

stands : (words : List (List ℕ)) (told : Told) (r : CanRun words told) (asked : RunRequest)
    → IsRun words asked → StandsFor told asked
stands words told r asked command =
    let own : StandsFor told r.asked = record {
      definition = r.definition;
      definition_held = r.definition_held;
      faultless = r.faultless;
      term = r.term;
      term_held = r.term_held;
      faultless_term = r.faultless_term;
    } in
    subst (StandsFor told) (one_request words r.asked asked r.command command) own

-- a definition that was read from the file is this one
held_accepted : (told : Told) (asked : RunRequest) (s : StandsFor told asked)
    (theory : RewriteTheory) (top : Option ℕ)
    → HoldsProgram (Some told) asked.definition theory top → IsAccepted s.definition theory top
held_accepted told asked s theory top h =
    subst (λ (bytes : List ℕ). IsAccepted bytes theory top)
    (one_content told asked.definition h.bytes s.definition h.held.0 s.definition_held.0)
    h.accepted

no_read_cause : (told : Told) (asked : RunRequest) (s : StandsFor told asked) (reads reads' : ℕ)
    (e : Ending) → (CountRose reads reads' → ⊥) → ReadCause asked (Some told) reads reads' e
    → end_code e ≡ 1
no_read_cause told asked s reads reads' out_of_memory free h = refl
no_read_cause told asked s reads reads' bad_words free h = absurd h
no_read_cause told asked s reads reads' read_fault free h = absurd (free h)
no_read_cause told asked s reads reads' write_fault free h = absurd h
no_read_cause told asked s reads reads' (no_such_file name) free (inl h) =
    absurd (not_lacking told asked.definition name s.definition h.0 s.definition_held.0 h.1)
no_read_cause told asked s reads reads' (no_such_file name) free (inr h) =
    absurd (not_lacking told asked.term name s.term h.0 s.term_held.0 h.2)
no_read_cause told asked s reads reads' (definition_refused number byte) free h =
    absurd (s.faultless _ (subst (λ (bytes : List ℕ). IsRefused bytes _)
    (one_content told asked.definition h.bytes s.definition h.held.0 s.definition_held.0)
    h.refused))
no_read_cause told asked s reads reads' (term_refused number byte) free h =
    absurd (s.faultless_term h.theory h.top (held_accepted told asked s h.theory h.top h.definition)
    _ (subst (λ (bytes : List ℕ). IsRefusedTerm h.theory.sig h.top bytes _)
    (one_content told asked.term h.bytes s.term h.held.0 s.term_held.0) h.refused))
no_read_cause told asked s reads reads' (too_large name) free (inl h) =
    absurd (not_more told asked.definition name s.definition definition_limit h.0
    s.definition_held.0 s.definition_held.1 h.1)
no_read_cause told asked s reads reads' (too_large name) free (inr h) =
    absurd (not_more told asked.term name s.term term_limit h.0 s.term_held.0 s.term_held.1 h.2)
no_read_cause told asked s reads reads' (hints_refused number line) free h = absurd h

-- such a call can end only because memory ran out
no_cause : (words : List (List ℕ)) (told : Told) (r : CanRun words told) (asked : RunRequest)
    (c : Course) (e : Ending) → c.desk.told ≡ Some told → IsRun words asked → IsUnhindered c
    → RunCause asked c e → end_code e ≡ 1
no_cause words told r asked c e is command free (run_unread h kept) =
    no_read_cause told asked (stands words told r asked command) c.desk.read_faults
    c.desk'.read_faults e free.reads
    (subst (λ (o : Option Told). ReadCause asked o c.desk.read_faults c.desk'.read_faults e) is h)
no_cause words told r asked c e is command free (run_unproved has stopped same) =
    stopped_unfaulted (CountsWriteFault c) e free.files stopped
no_cause words told r asked c e is command free (run_unprinted begun stopped) =
    stopped_unfaulted (CountsOutputFault c) e free.writes stopped

pub run_ends_without_memory : (words : List (List ℕ)) (told : Option Told) (asked : RunRequest)
    (c : Course) (e : Ending) → c.desk.told ≡ told → IsReadyToRun words told → IsRun words asked
    → IsUnhindered c → RunCause asked c e → end_code e ≡ 1
run_ends_without_memory words None asked c e is ready command free cause = absurd ready
run_ends_without_memory words (Some told) asked c e is ready command free cause =
    no_cause words told ready asked c e is command free cause

no_database_cause : (words : List (List ℕ)) (told : Told) (r : CanVerify words told) (file : List ℕ)
    (c : Course) (e : Ending) → c.desk.told ≡ Some told → IsVerify words file
    → (CountsReadFault c → ⊥) → DatabaseCause file c e → end_code e ≡ 1
no_database_cause words told r file c out_of_memory is command reads h = refl
no_database_cause words told r file c bad_words is command reads h = absurd h
no_database_cause words told r file c read_fault is command reads h = absurd (reads h)
no_database_cause words told r file c write_fault is command reads h = absurd h
no_database_cause words told r file c (no_such_file name) is command reads h =
    absurd (not_lacking told file name r.bytes h.0 (subst
    (λ (n : List ℕ). Holds (Some told) n r.bytes)
    (one_file words r.file file r.command command) r.held.0)
    (subst (λ (o : Option Told). Lacks o name) is h.1))
no_database_cause words told r file c (definition_refused number byte) is command reads h =
    absurd h
no_database_cause words told r file c (term_refused number byte) is command reads h = absurd h
no_database_cause words told r file c (too_large name) is command reads h =
    absurd (not_more told file name r.bytes database_limit h.0 (subst
    (λ (n : List ℕ). Holds (Some told) n r.bytes)
    (one_file words r.file file r.command command) r.held.0) r.held.1
    (subst (λ (o : Option Told). HoldsMore o name database_limit) is h.1))
no_database_cause words told r file c (hints_refused number line) is command reads h = absurd h

no_verify_cause : (words : List (List ℕ)) (told : Told) (r : CanVerify words told) (file : List ℕ)
    (c : Course) (e : Ending) → c.desk.told ≡ Some told → IsVerify words file
    → (CountsReadFault c → ⊥) → (CountsOutputFault c → ⊥) → VerifyCause file c e
    → end_code e ≡ 1
no_verify_cause words told r file c e is command reads writes (file_unverified h kept) =
    no_database_cause words told r file c e is command reads h
no_verify_cause words told r file c e is command reads writes (verdict_unprinted begun stopped) =
    stopped_unfaulted (CountsOutputFault c) e writes stopped

pub verify_ends_without_memory : (words : List (List ℕ)) (told : Option Told) (file : List ℕ)
    (c : Course) (e : Ending) → c.desk.told ≡ told → IsReadyToVerify words told
    → IsVerify words file → (CountsReadFault c → ⊥) → (CountsOutputFault c → ⊥)
    → VerifyCause file c e → end_code e ≡ 1
verify_ends_without_memory words None file c e is ready command reads writes cause = absurd ready
verify_ends_without_memory words (Some told) file c e is ready command reads writes cause =
    no_verify_cause words told ready file c e is command reads writes cause

-- the files of the request can be checked
record CanDecide (told : Told) (asked : CheckRequest) : Type 0 where
  definition : List ℕ
  definition_held : HoldsWithin (Some told) asked.definition definition_limit definition
  faultless : IsFaultless definition
  bytes : List ℕ
  held : HoldsWithin (Some told) asked.file database_limit bytes

decidable : (words : List (List ℕ)) (told : Told) (r : CanCheck words told) (asked : CheckRequest)
    → IsCheck words asked → CanDecide told asked
decidable words told r asked command =
    let own : CanDecide told r.asked = record {
      definition = r.definition;
      definition_held = r.definition_held;
      faultless = r.faultless;
      bytes = r.bytes;
      held = r.held;
    } in
    subst (CanDecide told) (one_check words r.asked asked r.command command) own

no_check_read_cause : (told : Told) (asked : CheckRequest) (s : CanDecide told asked)
    (reads reads' : ℕ) (e : Ending) → (CountRose reads reads' → ⊥)
    → CheckReadCause asked (Some told) reads reads' e → end_code e ≡ 1
no_check_read_cause told asked s reads reads' out_of_memory free h = refl
no_check_read_cause told asked s reads reads' bad_words free h = absurd h
no_check_read_cause told asked s reads reads' read_fault free h = absurd (free h)
no_check_read_cause told asked s reads reads' write_fault free h = absurd h
no_check_read_cause told asked s reads reads' (no_such_file name) free (inl h) =
    absurd (not_lacking told asked.definition name s.definition h.0 s.definition_held.0 h.1)
no_check_read_cause told asked s reads reads' (no_such_file name) free (inr h) =
    absurd (not_lacking told asked.file name s.bytes h.0 s.held.0 h.2)
no_check_read_cause told asked s reads reads' (definition_refused number byte) free h =
    absurd (s.faultless _ (subst (λ (bytes : List ℕ). IsRefused bytes _)
    (one_content told asked.definition h.bytes s.definition h.held.0 s.definition_held.0)
    h.refused))
no_check_read_cause told asked s reads reads' (term_refused number byte) free h = absurd h
no_check_read_cause told asked s reads reads' (too_large name) free (inl h) =
    absurd (not_more told asked.definition name s.definition definition_limit h.0
    s.definition_held.0 s.definition_held.1 h.1)
no_check_read_cause told asked s reads reads' (too_large name) free (inr h) =
    absurd (not_more told asked.file name s.bytes database_limit h.0 s.held.0 s.held.1 h.2)
no_check_read_cause told asked s reads reads' (hints_refused number line) free h = absurd h

no_check_cause : (words : List (List ℕ)) (told : Told) (r : CanCheck words told)
    (asked : CheckRequest) (c : Course) (e : Ending) → c.desk.told ≡ Some told
    → IsCheck words asked → (CountsReadFault c → ⊥) → (CountsOutputFault c → ⊥)
    → CheckCause asked c e → end_code e ≡ 1
no_check_cause words told r asked c e is command reads writes (check_undecided h kept) =
    no_check_read_cause told asked (decidable words told r asked command) c.desk.read_faults
    c.desk'.read_faults e reads
    (subst (λ (o : Option Told). CheckReadCause asked o c.desk.read_faults c.desk'.read_faults e)
    is h)
no_check_cause words told r asked c e is command reads writes (check_unprinted begun stopped) =
    stopped_unfaulted (CountsOutputFault c) e writes stopped

pub check_ends_without_memory : (words : List (List ℕ)) (told : Option Told) (asked : CheckRequest)
    (c : Course) (e : Ending) → c.desk.told ≡ told → IsReadyToCheck words told
    → IsCheck words asked → (CountsReadFault c → ⊥) → (CountsOutputFault c → ⊥)
    → CheckCause asked c e → end_code e ≡ 1
check_ends_without_memory words None asked c e is ready command reads writes cause = absurd ready
check_ends_without_memory words (Some told) asked c e is ready command reads writes cause =
    no_check_cause words told ready asked c e is command reads writes cause

-- the files of the request can be read as a path
record CanList (told : Told) (asked : ProveRequest) : Type 0 where
  definition : List ℕ
  definition_held : HoldsWithin (Some told) asked.definition definition_limit definition
  faultless : IsFaultless definition
  bytes : List ℕ
  held : HoldsWithin (Some told) asked.hints hints_limit bytes

listed : (words : List (List ℕ)) (told : Told) (r : CanReadPath words told) (asked : ProveRequest)
    → IsProve words asked → CanList told asked
listed words told r asked command =
    let own : CanList told r.asked = record {
      definition = r.definition;
      definition_held = r.definition_held;
      faultless = r.faultless;
      bytes = r.bytes;
      held = r.held;
    } in
    subst (CanList told) (one_prove words r.asked asked r.command command) own

-- a path that is not proved: a line of the hints is bad, or memory ran out
abbrev pub StopsPath : ℕ → Type 0
StopsPath code = (code ≡ 14) ⊎ (code ≡ 1)

no_path_read_cause : (told : Told) (asked : ProveRequest) (s : CanList told asked)
    (reads reads' : ℕ) (e : Ending) → (CountRose reads reads' → ⊥)
    → PathReadCause asked (Some told) reads reads' e → StopsPath (end_code e)
no_path_read_cause told asked s reads reads' out_of_memory free h = inr refl
no_path_read_cause told asked s reads reads' bad_words free h = absurd h
no_path_read_cause told asked s reads reads' read_fault free h = absurd (free h)
no_path_read_cause told asked s reads reads' write_fault free h = absurd h
no_path_read_cause told asked s reads reads' (no_such_file name) free (inl h) =
    absurd (not_lacking told asked.definition name s.definition h.0 s.definition_held.0 h.1)
no_path_read_cause told asked s reads reads' (no_such_file name) free (inr h) =
    absurd (not_lacking told asked.hints name s.bytes h.0 s.held.0 h.2)
no_path_read_cause told asked s reads reads' (definition_refused number byte) free h =
    absurd (s.faultless _ (subst (λ (bytes : List ℕ). IsRefused bytes _)
    (one_content told asked.definition h.bytes s.definition h.held.0 s.definition_held.0)
    h.refused))
no_path_read_cause told asked s reads reads' (term_refused number byte) free h = absurd h
no_path_read_cause told asked s reads reads' (too_large name) free (inl h) =
    absurd (not_more told asked.definition name s.definition definition_limit h.0
    s.definition_held.0 s.definition_held.1 h.1)
no_path_read_cause told asked s reads reads' (too_large name) free (inr h) =
    absurd (not_more told asked.hints name s.bytes hints_limit h.0 s.held.0 s.held.1 h.2)
no_path_read_cause told asked s reads reads' (hints_refused number line) free h = inl refl

no_path_cause : (words : List (List ℕ)) (told : Told) (r : CanReadPath words told)
    (asked : ProveRequest) (c : Course) (e : Ending) → c.desk.told ≡ Some told
    → IsProve words asked → IsUnhindered c → PathCause asked c e → StopsPath (end_code e)
no_path_cause words told r asked c e is command free (path_unread h kept) =
    no_path_read_cause told asked (listed words told r asked command) c.desk.read_faults
    c.desk'.read_faults e free.reads
    (subst (λ (o : Option Told). PathReadCause asked o c.desk.read_faults c.desk'.read_faults e)
    is h)
no_path_cause words told r asked c e is command free (path_unproved has stopped same) =
    inr (stopped_unfaulted (CountsWriteFault c) e free.files stopped)
no_path_cause words told r asked c e is command free (path_unprinted begun stopped) =
    inr (stopped_unfaulted (CountsOutputFault c) e free.writes stopped)

pub path_stops : (words : List (List ℕ)) (told : Option Told) (asked : ProveRequest)
    (c : Course) (e : Ending) → c.desk.told ≡ told → IsReadyToProve words told
    → IsProve words asked → IsUnhindered c → PathCause asked c e → StopsPath (end_code e)
path_stops words None asked c e is ready command free cause = absurd ready
path_stops words (Some told) asked c e is ready command free cause =
    no_path_cause words told ready asked c e is command free cause

pub code_of_path : (e : Ending) (before after : Option (List ℕ)) (old new code : ℕ)
    → Reports e before after old new code → StopsPath (end_code e) → StopsPath code
code_of_path e before after old new code r stops =
    elim (code_reported e before after old new code r) [
      | inl own ↦ subst StopsPath (sym own) stops
      | inr one ↦ inr one
    ]

-- a drill that does not come to its lines: memory ran out, or a fault was counted
abbrev pub StopsDrill : Course → ℕ → Type 0
StopsDrill c code =
    (code ≡ 1) ⊎ ((code ≡ 4) × (CountsOutputFault c ⊎ CountsWriteFault c))

drill_stops : (asked : DrillRequest) (c : Course) (e : Ending) → DrillCause asked c e
    → StopsDrill c (end_code e)
drill_stops asked c e (drill_unmade memory kept) = inl (ap end_code memory)
drill_stops asked c e (drill_unproved has (inl memory) same) = inl (ap end_code memory)
drill_stops asked c e (drill_unproved has (inr failed) same) =
    inr (ap end_code failed.0, inr failed.1)
drill_stops asked c e (drill_unprinted begun (inl memory)) = inl (ap end_code memory)
drill_stops asked c e (drill_unprinted begun (inr failed)) =
    inr (ap end_code failed.0, inl failed.1)

pub code_of_drill : (asked : DrillRequest) (c : Course) (e : Ending)
    (before after : Option (List ℕ)) (old new code : ℕ) → Reports e before after old new code → DrillCause asked c e
    → StopsDrill c code
code_of_drill asked c e before after old new code r cause =
    elim (code_reported e before after old new code r) [
      | inl own ↦ subst (StopsDrill c) (sym own) (drill_stops asked c e cause)
      | inr one ↦ inl one
    ]

-- words that can run or verify ask for that
pub ready_run : (words : List (List ℕ)) (told : Option Told) → IsReadyToRun words told
    → (asked : RunRequest) × IsRun words asked
ready_run words None ready = absurd ready
ready_run words (Some told) ready = (ready.asked, ready.command)

pub ready_verify : (words : List (List ℕ)) (told : Option Told) → IsReadyToVerify words told
    → (file : List ℕ) × IsVerify words file
ready_verify words None ready = absurd ready
ready_verify words (Some told) ready = (ready.file, ready.command)

pub ready_check : (words : List (List ℕ)) (told : Option Told) → IsReadyToCheck words told
    → (asked : CheckRequest) × IsCheck words asked
ready_check words None ready = absurd ready
ready_check words (Some told) ready = (ready.asked, ready.command)

pub ready_prove : (words : List (List ℕ)) (told : Option Told) → IsReadyToProve words told
    → (asked : ProveRequest) × IsProve words asked
ready_prove words None ready = absurd ready
ready_prove words (Some told) ready = (ready.asked, ready.command)
