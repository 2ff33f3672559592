-- One more line of a hint file.
use Rattle.std.proofs.Common.{◌≡◌, ℕ, ◌+◌, List, [], ◌∷◌, ◌++◌, map, Some, refl, sym, ◌∙◌, ap}
use Rattle.std.proofs.Common.{subst, add-one, length, arith}
use Rattle.std.proofs.lemmas.List.{map-append, append_assoc, append-nil}
use Rattle.term_core.specs.Terms.{Tree}
use Rattle.rule_core.specs.Theories.{RewriteTheory}
use Rattle.rule_core.specs.Records.{result_of}
use Rattle.rule_core.specs.Records as plain
use Rattle.rule_core.specs.RecordView.{plain_record, plain_step}
use Rattle.rule_core.specs.declared.records.StepRecord.{StepRecord}
use Rattle.hint_file.specs.HintLines.{cut_at, good, ReadsLine}
use Rattle.hint_file.specs.HintFiles.{FileOutcome, ReadsSteps, good_step, RecordsLine, RecordsLines}

-- what the later lines are found to be, the lines are found to be
pub reads_on : (theory : RewriteTheory) (n c left : ℕ) (t u : Tree) (bytes line more : List ℕ)
    → cut_at 10 bytes ≡ Some (line, more) → ReadsLine theory t c line (good u left)
    → (r : FileOutcome) → ReadsSteps theory (n + 1) u left more r
    → ReadsSteps theory n t c bytes r
reads_on theory n c left t u bytes line more cut read r later =
    good_step cut read (subst (λ (k : ℕ). ReadsSteps theory k u left more r) (add-one n) later)

listed_on : (done : List StepRecord) (s : StepRecord) (ss : List plain.StepRecord)
    → map plain_step (done ++ (s ∷ [])) ++ ss ≡ map plain_step done ++ (plain_step s ∷ ss)
listed_on done s ss =
    ap (λ (xs : List plain.StepRecord). xs ++ ss) (map-append plain_step done (s ∷ []))
    ∙ append_assoc (map plain_step done) (plain_step s ∷ []) ss

-- the records go on with that of the line
pub records_on : (theory : RewriteTheory) (first t u : Tree) (calls c d : ℕ)
    (all bytes line more : List ℕ) (done : List StepRecord) (s : StepRecord)
    → ((ss : List plain.StepRecord) → RecordsLines theory t c bytes ss
    → RecordsLines theory first calls all (map plain_step done ++ ss))
    → cut_at 10 bytes ≡ Some (line, more) → RecordsLine theory t c d line (plain_step s)
    → u ≡ result_of (plain_record s.right) → (ss : List plain.StepRecord)
    → RecordsLines theory u d more ss
    → RecordsLines theory first calls all (map plain_step (done ++ (s ∷ [])) ++ ss)
records_on theory first t u calls c d all bytes line more done s before cut record_of is ss later =
    subst (RecordsLines theory first calls all) (sym (listed_on done s ss))
    (before (plain_step s ∷ ss) (
      line,
      more,
      d,
      cut,
      record_of,
      subst (λ (v : Tree). RecordsLines theory v d more ss) is later,
    ))

pub records_end : (theory : RewriteTheory) (first t : Tree) (calls c : ℕ) (all : List ℕ)
    (done : List StepRecord)
    → ((ss : List plain.StepRecord) → RecordsLines theory t c [] ss
    → RecordsLines theory first calls all (map plain_step done ++ ss))
    → RecordsLines theory first calls all (map plain_step done)
records_end theory first t calls c all done before =
    subst (RecordsLines theory first calls all) (append-nil (map plain_step done)) (before [] refl)

pub empty_list : (xs : List ℕ) → length xs ≡ 0 → xs ≡ []
empty_list [] h = refl
empty_list (x ∷ xs) h = absurd (omega (arith, h))
