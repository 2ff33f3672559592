-- From a path that was read to the file of its proof and its lines.
use Rattle.std.proofs.Common.{◌≡◌, ◌≤◌, ◌-◌, ℕ, suc, inl, inr, List, [], ◌∷◌, length, map}
use Rattle.std.proofs.Common.{Option, Some, None, IsSome, refl, sym, ap, subst, arith}
use Rattle.std.proofs.Common.{slice_get}
use Rattle.std.specs.Prelude.{option_map}
use Rattle.std.proofs.lemmas.List.{append-nil}
use Rattle.desk_io.specs.Told.{Told}
use Rattle.desk_io.specs.KeptFiles.{KeepsFiles, KeepsOthers}
use Rattle.desk_io.specs.MissingFiles.{Lacks, HoldsMore}
use Rattle.desk_io.specs.Changes.{Creates}
use Rattle.desk_io.specs.Counts.{CountRose}
use Rattle.desk_io.specs.Sent.{Appends}
use Rattle.desk_io.specs.SinkChanges.{SameBytes, AppendsFront}
use Rattle.desk_io.specs.declared.desk.DeskFault.{DeskFault}
use Rattle.desk_io.specs.declared.desk.DeskFault.TheVariants as fault
use Rattle.desk_io.specs.declared.read.ReadEnd.{ReadEnd}
use Rattle.desk_io.specs.declared.read.ReadEnd.TheVariants as read
use Rattle.desk_io.proofs.Counts.{CountRose-later}
use Rattle.term_core.specs.Terms.{Tree}
use Rattle.term_core.specs.Patterns.{Pattern, ground_pattern}
use Rattle.term_core.specs.RulePatterns.{plain_pattern}
use Rattle.rule_core.specs.Evaluation.{value, Evaluates}
use Rattle.rule_core.specs.FirstRule.{most_nesting}
use Rattle.rule_core.specs.ProgramView.{theory_of}
use Rattle.rule_core.specs.Records.{StepRecord, result_of}
use Rattle.rule_core.specs.RecordView.{plain_record, plain_step}
use Rattle.rule_core.specs.Theories.{RewriteTheory}
use Rattle.rule_core.specs.WellSorted.{IsWellSorted, IsStart}
use Rattle.rule_core.specs.declared.records.StepRecord as code
use Rattle.rule_core.specs.declared.rules.Program.{Program}
use Rattle.rule_core.specs.declared.signature.Signature.{Signature}
use Rattle.kore_rules.specs.Refused.{IsRefused}
use Rattle.kore_rules.specs.RefusedTexts.{top_of}
use Rattle.kore_rules.proofs.AcceptedTerms.{accepted_is_start}
use Rattle.kore_show.specs.KorePatterns.{kore_pattern}
use Rattle.kore_show.proofs.SortedShown.{sorted-shown}
use Rattle.rewriter.proofs.Started.{run_started, start_sorted}
use Rattle.hint_file.specs.HintFiles.{RecordsLines}
use Rattle.hint_file.specs.HintTexts.{shown_text}
use Rattle.hint_file.specs.ReadPaths.{IsPathOf}
use Rattle.hint_file.specs.declared.reading.HintPath.{HintPath}
use Rattle.mm_justify.specs.Justifying.{IsProofOfRun}
use Rattle.path_proof.specs.PathProofs.{PutsPathFront, PutsPathProof}
use Rattle.path_proof.specs.RecordedPaths.{CanProvePath, first_of, IsOnPath, last_of, RecordsSteps}
use Rattle.path_proof.specs.RecordedPaths.{steps_of}
use Rattle.kore_prove.specs.declared.files.FileEnd.TheVariants as file
use Rattle.kore_prove.specs.Causes.{PathReadCause, path_unread, path_unproved, path_unprinted}
use Rattle.kore_prove.specs.CountedFaults.{CountsWriteFault, CountsOutputFault}
use Rattle.kore_prove.specs.Courses.{Course}
use Rattle.kore_prove.specs.FileCauses.{UnreadCause, UnreadEnding, DefinitionEnding}
use Rattle.kore_prove.specs.Files.{HoldsProgram}
use Rattle.kore_prove.specs.PathFiles.{hints_limit, HoldsPath}
use Rattle.kore_prove.specs.PathsRead.{HintsEnding, ListsPath, HoldsProofOf, MayHoldFrontOf}
use Rattle.kore_prove.specs.PlainEnds.{fault_end}
use Rattle.kore_prove.specs.ProvedPath.{LeavesPath, path_lines, SendsPath}
use Rattle.kore_prove.specs.ProveWords.{ProveRequest}
use Rattle.kore_prove.specs.Reports.{Ending, out_of_memory, bad_words, read_fault, write_fault}
use Rattle.kore_prove.specs.Reports.{no_such_file, definition_refused, term_refused, too_large}
use Rattle.kore_prove.specs.Reports.{hints_refused}
use Rattle.kore_prove.specs.Requests.{IsPathFile}
use Rattle.kore_prove.specs.Runnable.{IsProgram}
use Rattle.kore_prove.specs.RunsDone.{IsPathDone, IsPathEnded}
use Rattle.kore_prove.proofs.Ending.{FileCause-kept, kept_holds, stops}
use Rattle.kore_prove.proofs.FileProofs.{created_tells, kept_file, kept_others, then_file}
use Rattle.kore_prove.proofs.FileProofs.{then_others}
use Rattle.kore_prove.proofs.Performing.{told_now}
use Rattle.kore_prove.proofs.PlainNames.{plain_names}

-- ---- a path that was read

-- each step is by the rule that its line names
steps_recorded : (theory : RewriteTheory) (t : Tree) (c : ℕ) (bytes : List ℕ)
    (steps : List StepRecord) → RecordsLines theory t c bytes steps → RecordsSteps theory t steps
steps_recorded theory t c bytes [] h = tt
steps_recorded theory t c bytes (step ∷ steps) h = (
  (h.4.rule, h.4.names.there, h.4.follows),
  steps_recorded theory (result_of step.right) h.2 h.1 steps h.5,
)

some_before : {A B : Type 0} (f : A → B) (o : Option A) (b : B) → option_map f o ≡ Some b
    → IsSome o
some_before f (Some a) b h = refl
some_before f None b h = absurd (let never : ⊥ = cc in never)

text_shown : (sig : Signature) (p : Pattern) (text : List ℕ) → shown_text sig p ≡ Some text
    → IsSome (kore_pattern sig p)
text_shown sig p text h = some_before _ (kore_pattern sig p) text h

-- the last configuration has a Kore pattern if the first one does
last_shown : (theory : RewriteTheory) (t : Tree) (c : ℕ) (bytes : List ℕ) (steps : List StepRecord)
    → IsSome (kore_pattern theory.sig (ground_pattern t)) → RecordsLines theory t c bytes steps
    → IsSome (kore_pattern theory.sig (ground_pattern (last_of t steps)))
last_shown theory t c bytes [] own h = own
last_shown theory t c bytes (step ∷ steps) own h =
    last_shown theory (result_of step.right) h.2 h.1 steps
    (text_shown theory.sig (ground_pattern (result_of step.right)) h.4.text h.4.shown) h.5

-- the value of an initial term has a Kore pattern
value_shown : (theory : RewriteTheory) (start : Pattern) (calls left : ℕ) (t : Tree)
    → IsWellSorted theory → IsStart theory start
    → Evaluates theory most_nesting [] start calls (value t left)
    → IsSome (kore_pattern theory.sig (ground_pattern t))
value_shown theory start calls left t good is e =
    let sorted = start_sorted theory start calls left t good is
    (run_started theory start [] calls left t refl e) in
    sorted-shown theory.sig (ground_pattern t) sorted.0 good.signature sorted.2

read_is_start : (program : Program) (path : HintPath) (calls : ℕ) (bytes : List ℕ)
    → IsProgram program → IsPathOf (theory_of program) (top_of program) calls bytes path
    → IsStart (theory_of program) (plain_pattern path.start)
read_is_start program path calls bytes p h =
    accepted_is_start (theory_of program) (top_of program) h.line (plain_pattern path.start)
    p.well_sorted.signature p.top h.accepted

-- a path that was read can be proved
pub can_prove : (program : Program) (path : HintPath) (calls : ℕ) (bytes : List ℕ)
    → IsProgram program → IsPathOf (theory_of program) (top_of program) calls bytes path
    → CanProvePath program path
can_prove program path calls bytes p h = record {
  well_sorted = p.well_sorted;
  bound = p.bound;
  plain = plain_names program.sig p.names;
  is_start = read_is_start program path calls bytes p h;
  first = h.recorded;
  steps =
      steps_recorded (theory_of program) (first_of path) h.left h.more (steps_of path) h.stepped;
}

-- and its last configuration has a Kore pattern
pub path_shown : (program : Program) (path : HintPath) (calls : ℕ) (bytes : List ℕ)
    → IsProgram program → IsPathOf (theory_of program) (top_of program) calls bytes path
    → IsSome (kore_pattern program.sig
    (ground_pattern (last_of (first_of path) (steps_of path))))
path_shown program path calls bytes p h =
    last_shown (theory_of program) (first_of path) h.left h.more (steps_of path)
    (value_shown (theory_of program) (plain_pattern path.start) calls h.left (first_of path)
    p.well_sorted (read_is_start program path calls bytes p h) h.evaluated) h.stepped

-- the last configuration is that of the last step
pub last_there : (t : Tree) (items : List code.StepRecord) (step : code.StepRecord)
    → slice_get items (length items - 1) ≡ Some step
    → last_of t (map plain_step items) ≡ result_of (plain_record step.right)
last_there t [] step h = absurd (let never : ⊥ = cc in never)
last_there t (x ∷ []) step h =
    let same : x ≡ step = cc in
    ap (λ (s : code.StepRecord). result_of (plain_record s.right)) same
last_there t (x ∷ y ∷ ys) step h =
    let less : length (x ∷ y ∷ ys) - 1 ≡ suc (length (y ∷ ys) - 1) = omega arith in
    last_there (result_of (plain_record x.right)) (y ∷ ys) step (rw less at h)

-- ---- why there is no path

-- the cause of an end at the hints
pub hints_unread : (told : Option Told) (name : List ℕ) (limit reads reads' : ℕ) (end : ReadEnd)
    → (end ≡ read.NoFile → Lacks told name) → (end ≡ read.TooLarge → HoldsMore told name limit)
    → (end ≡ read.Failed → CountRose reads reads') → UnreadCause told name limit reads reads' end
hints_unread told name limit reads reads' read.NoFile lacks more failed = lacks refl
hints_unread told name limit reads reads' read.Failed lacks more failed = failed refl
hints_unread told name limit reads reads' read.TooLarge lacks more failed = more refl
hints_unread told name limit reads reads' read.Memory lacks more failed = tt

-- hints that were not read as a whole list no path
pub unread_hints : (told : Option Told) (asked : ProveRequest) (program : Program)
    (reads reads' : ℕ) (e : Ending) → UnreadEnding told asked.hints hints_limit reads reads' e
    → HintsEnding told asked program reads reads' e
unread_hints told asked program reads reads' out_of_memory h = h
unread_hints told asked program reads reads' bad_words h = h
unread_hints told asked program reads reads' read_fault h = h
unread_hints told asked program reads reads' write_fault h = h
unread_hints told asked program reads reads' (no_such_file name) h = h
unread_hints told asked program reads reads' (definition_refused number byte) h = h
unread_hints told asked program reads reads' (term_refused number byte) h = h
unread_hints told asked program reads reads' (too_large name) h = h
unread_hints told asked program reads reads' (hints_refused number line) h = absurd h

-- the cause of an end at the definition is a cause of the end of a call for a proof of a path
pub definition_of_path : (asked : ProveRequest) (told : Option Told) (reads reads' : ℕ)
    (e : Ending) → DefinitionEnding told asked.definition reads reads' e
    → PathReadCause asked told reads reads' e
definition_of_path asked told reads reads' out_of_memory h = tt
definition_of_path asked told reads reads' bad_words h = h
definition_of_path asked told reads reads' read_fault h = h
definition_of_path asked told reads reads' write_fault h = h
definition_of_path asked told reads reads' (no_such_file name) h = inl h
definition_of_path asked told reads reads' (definition_refused number byte) h = h
definition_of_path asked told reads reads' (term_refused number byte) h = h
definition_of_path asked told reads reads' (too_large name) h = inl h
definition_of_path asked told reads reads' (hints_refused number line) h = absurd h

-- so is the cause of an end at the hints, for the desk before the definition was read
pub hints_of_path : (asked : ProveRequest) (told between : Option Told) (program : Program)
    (a b c : ℕ) (e : Ending)
    → HoldsProgram told asked.definition (theory_of program) (top_of program)
    → KeepsFiles told between → a ≤ b → HintsEnding between asked program b c e
    → PathReadCause asked told a c e
hints_of_path asked told between program a b c out_of_memory held kept le h = tt
hints_of_path asked told between program a b c bad_words held kept le h = h
hints_of_path asked told between program a b c read_fault held kept le h =
    CountRose-later a b c le h
hints_of_path asked told between program a b c write_fault held kept le h = h
hints_of_path asked told between program a b c (no_such_file name) held kept le h = inr (
  h.0,
  (theory_of program, top_of program, held),
  FileCause-kept IsRefused told between name hints_limit a b c (file.Unread read.NoFile) kept le
      h.1,
)
hints_of_path asked told between program a b c (definition_refused number byte) held kept le h =
    absurd h
hints_of_path asked told between program a b c (term_refused number byte) held kept le h = h
hints_of_path asked told between program a b c (too_large name) held kept le h = inr (
  h.0,
  (theory_of program, top_of program, held),
  FileCause-kept IsRefused told between name hints_limit a b c (file.Unread read.TooLarge) kept le
      h.1,
)
hints_of_path asked told between program a b c (hints_refused number line) held kept le h =
    record {
      theory = theory_of program;
      top = top_of program;
      bytes = h.bytes;
      files = record {
        definition = held;
        hints = (kept_holds told between asked.hints h.bytes kept h.held.0, h.held.1);
      };
      is_bad = h.is_bad;
    }

-- ---- the file of the proof

-- the created file holds the proof of the path
pub created_path : (old made new : Option Told) (file : List ℕ) (program : Program)
    (path : HintPath) → Creates old made file
    → PutsPathProof made new (theory_of program) (plain_pattern path.start) (first_of path)
    (steps_of path)
    → HoldsProofOf old new file program path
created_path old made new file program path h k =
    record { bytes = k.0; held = created_tells old made new file k.0 h k.1; proves = k.2 }

-- or the front of one
pub created_path_front : (old made new : Option Told) (file : List ℕ) (program : Program)
    (path : HintPath) → Creates old made file
    → PutsPathFront made new (theory_of program) (plain_pattern path.start) (first_of path)
    (steps_of path)
    → MayHoldFrontOf old new file program path
created_path_front old made new file program path h k =
    inr (record { bytes = k.0; held = created_tells old made new file k.0 h k.1; front = k.2 })

on_last : (t : Tree) (steps : List StepRecord) → IsOnPath t steps (last_of t steps)
on_last t [] = refl
on_last t (step ∷ steps) = inr (on_last (result_of step.right) steps)

-- a file that holds a proof of the path holds the front of one
proof_is_front : (told told' : Option Told) (file : List ℕ) (program : Program) (path : HintPath)
    → HoldsProofOf told told' file program path → MayHoldFrontOf told told' file program path
proof_is_front told told' file program path h =
    let last = last_of (first_of path) (steps_of path) in
    inr (record {
      bytes = h.bytes;
      held = h.held;
      front = inr (
        last,
        on_last (first_of path) (steps_of path),
        (
          [],
          subst (λ (text : List ℕ). IsProofOfRun text (theory_of program)
              (plain_pattern path.start) (ground_pattern last)) (sym (append-nil h.bytes)) h.proves,
        ),
      );
    })

-- ---- from the parts of a call to its result

-- the files of the request list the path
pub path_held : (asked : ProveRequest) (told between : Option Told) (program : Program)
    (path : HintPath) → HoldsProgram told asked.definition (theory_of program) (top_of program)
    → KeepsFiles told between → ListsPath between asked program path
    → HoldsPath told asked (theory_of program) (plain_pattern path.start)
    (plain_record path.first) (steps_of path)
path_held asked told between program path held kept h = record {
  top = top_of program;
  bytes = h.bytes;
  files = record {
    definition = held;
    hints = (kept_holds told between asked.hints h.bytes kept h.held.0, h.held.1);
  };
  is_path = h.is_path;
}

-- the front of a proof, for the desk before the files were read
left_path : (asked : ProveRequest) (told read told' : Option Told) (program : Program)
    (path : HintPath)
    → HoldsPath told asked (theory_of program) (plain_pattern path.start)
    (plain_record path.first) (steps_of path)
    → KeepsFiles told read → MayHoldFrontOf read told' asked.proof program path
    → LeavesPath asked told told'
left_path asked told read told' program path held kept h = elim h [
  | inl same ↦ inl (then_file told read told' asked.proof kept same)
  | inr made ↦ inr (record {
    theory = theory_of program;
    start = plain_pattern path.start;
    first = plain_record path.first;
    steps = steps_of path;
    path = held;
    holds = record {
      bytes = made.bytes;
      held = told_now told read told' asked.proof made.bytes kept made.held;
      front = made.front;
    };
  })
]

-- the lines of the path were sent, or a part of them
path_sent : (Grew : Option (List ℕ) → Option (List ℕ) → List ℕ → Type 0) (asked : ProveRequest)
    (c : Course) (read : Option Told) (program : Program) (path : HintPath) (lines : List ℕ)
    → HoldsPath c.desk.told asked (theory_of program) (plain_pattern path.start)
    (plain_record path.first) (steps_of path)
    → KeepsFiles c.desk.told read → HoldsProofOf read c.desk'.told asked.proof program path
    → path_lines program.sig (length (steps_of path)) (last_of (first_of path) (steps_of path))
    ≡ Some lines
    → Grew c.out.bytes c.out'.bytes lines
    → SendsPath Grew asked c.desk.told c.desk'.told c.out.bytes c.out'.bytes
path_sent Grew asked c read program path lines held kept proof is grew = record {
  theory = theory_of program;
  start = plain_pattern path.start;
  first = plain_record path.first;
  steps = steps_of path;
  path = held;
  proof = record {
    bytes = proof.bytes;
    held = told_now c.desk.told read c.desk'.told asked.proof proof.bytes kept proof.held;
    proves = proof.proves;
  };
  lines = lines;
  lines_are = is;
  grew = grew;
}

-- the path was proved and printed
pub path_done : (asked : ProveRequest) (c : Course) (read : Option Told) (program : Program)
    (path : HintPath) (lines : List ℕ)
    → HoldsPath c.desk.told asked (theory_of program) (plain_pattern path.start)
    (plain_record path.first) (steps_of path)
    → KeepsFiles c.desk.told read → HoldsProofOf read c.desk'.told asked.proof program path
    → KeepsOthers (IsPathFile asked) read c.desk'.told
    → path_lines program.sig (length (steps_of path)) (last_of (first_of path) (steps_of path))
    ≡ Some lines
    → Appends c.out.bytes c.out'.bytes lines → IsPathDone asked c
path_done asked c read program path lines held kept proof others is grew = record {
  sent = path_sent Appends asked c read program path lines held kept proof is grew;
  others = then_others (IsPathFile asked) c.desk.told read c.desk'.told kept others;
}

-- the files list no path
pub path_unlisted : (asked : ProveRequest) (c : Course) (e : Ending)
    → SameBytes c.out.bytes c.out'.bytes
    → PathReadCause asked c.desk.told c.desk.read_faults c.desk'.read_faults e
    → KeepsFiles c.desk.told c.desk'.told → IsPathEnded asked c e
path_unlisted asked c e same cause kept = record {
  cause = path_unread cause (same, kept);
  front = inl (kept_file c.desk.told c.desk'.told asked.proof kept);
  others = kept_others (IsPathFile asked) c.desk.told c.desk'.told kept;
}

-- the path was not proved
pub path_cut : (asked : ProveRequest) (c : Course) (e : Ending) (f : DeskFault)
    (read : Option Told) (program : Program) (path : HintPath) → e ≡ fault_end f
    → HoldsPath c.desk.told asked (theory_of program) (plain_pattern path.start)
    (plain_record path.first) (steps_of path)
    → KeepsFiles c.desk.told read → MayHoldFrontOf read c.desk'.told asked.proof program path
    → KeepsOthers (IsPathFile asked) read c.desk'.told
    → (f ≡ fault.Failed → CountsWriteFault c)
    → SameBytes c.out.bytes c.out'.bytes → IsPathEnded asked c e
path_cut asked c e f read program path is held kept front others rose same = record {
  cause =
      path_unproved (
        theory_of program,
        plain_pattern path.start,
        plain_record path.first,
        steps_of path,
        held,
      ) (stops f e (CountsWriteFault c) is rose) same;
  front = left_path asked c.desk.told read c.desk'.told program path held kept front;
  others = then_others (IsPathFile asked) c.desk.told read c.desk'.told kept others;
}

-- the lines of the path were not sent as a whole
pub path_unsent : (asked : ProveRequest) (c : Course) (e : Ending) (f : DeskFault)
    (read : Option Told) (program : Program) (path : HintPath) (lines : List ℕ)
    → e ≡ fault_end f
    → HoldsPath c.desk.told asked (theory_of program) (plain_pattern path.start)
    (plain_record path.first) (steps_of path)
    → KeepsFiles c.desk.told read → HoldsProofOf read c.desk'.told asked.proof program path
    → KeepsOthers (IsPathFile asked) read c.desk'.told
    → path_lines program.sig (length (steps_of path)) (last_of (first_of path) (steps_of path))
    ≡ Some lines
    → (f ≡ fault.Failed → CountsOutputFault c)
    → AppendsFront c.out.bytes c.out'.bytes lines → IsPathEnded asked c e
path_unsent asked c e f read program path lines is held kept proof others lines_are rose grew =
    record {
      cause =
          path_unprinted
          (path_sent AppendsFront asked c read program path lines held kept proof lines_are grew)
          (stops f e (CountsOutputFault c) is rose);
      front =
          left_path asked c.desk.told read c.desk'.told program path held kept
          (proof_is_front read c.desk'.told asked.proof program path proof);
      others = then_others (IsPathFile asked) c.desk.told read c.desk'.told kept others;
    }

-- after the lines of a path were sent, the file of its proof holds the front of one
pub sent_front : (asked : ProveRequest) (told told' : Option Told) (before after : Option (List ℕ))
    → SendsPath Appends asked told told' before after → LeavesPath asked told told'
sent_front asked told told' before after sent =
    let last = last_of (result_of sent.first) sent.steps in
    inr (record {
      theory = sent.theory;
      start = sent.start;
      first = sent.first;
      steps = sent.steps;
      path = sent.path;
      holds = record {
        bytes = sent.proof.bytes;
        held = sent.proof.held;
        front = inr (
          last,
          on_last (result_of sent.first) sent.steps,
          (
            [],
            subst (λ (text : List ℕ). IsProofOfRun text sent.theory sent.start
                (ground_pattern last)) (sym (append-nil sent.proof.bytes)) sent.proof.proves,
          ),
        );
      };
    })
