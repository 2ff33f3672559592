-- What was read is a path.
use Rattle.std.proofs.Common.{◌≡◌, ℕ, List, [], ◌∷◌, Some, refl, ap}
use Rattle.std.specs.Prelude.{option_map}
use Rattle.term_core.specs.Terms.{Tree}
use Rattle.rule_core.specs.Rules.{RewriteRule}
use Rattle.rule_core.specs.Theories.{RewriteTheory}
use Rattle.rule_core.specs.Records.{StepRecord, result_of}
use Rattle.hint_file.specs.Paths.{PathStep, Leads, no_step, step_by, with_step, stated_step}
use Rattle.hint_file.specs.Paths.{stated_steps}
use Rattle.hint_file.specs.HintFiles.{RecordsLine, RecordsLines}
use Rattle.hint_file.specs.ReadingLaws.{ReadIsPath}

record LeadsBy (theory : RewriteTheory) (t : Tree) (c : ℕ) (steps : List StepRecord) : Type 0 where
  path : List PathStep
  last : Tree
  left : ℕ
  stated : stated_steps theory steps ≡ Some path
  leads : Leads theory t c path last left

one_more : (theory : RewriteTheory) (t : Tree) (c d : ℕ) (line : List ℕ) (step : StepRecord)
    (steps : List StepRecord) → RecordsLine theory t c d line step
    → LeadsBy theory (result_of step.right) d steps → LeadsBy theory t c (step ∷ steps)
one_more theory t c d line step steps read later =
    let first : stated_step theory step
    ≡ Some (record { byte = read.rule.place; after = result_of step.right }) =
    ap (option_map (λ (rule : RewriteRule).
    record { byte = rule.place; after = result_of step.right })) read.names.there in
    record {
      path = record { byte = read.rule.place; after = result_of step.right } ∷ later.path;
      last = later.last;
      left = later.left;
      stated =
          rw first (ap (with_step (Some (record {
            byte = read.rule.place;
            after = result_of step.right;
          }))) later.stated);
      leads = step_by step.rule read.names.there read.by later.leads;
    }

lines_lead : (theory : RewriteTheory) (t : Tree) (c : ℕ) (bytes : List ℕ) (steps : List StepRecord)
    → RecordsLines theory t c bytes steps → LeadsBy theory t c steps
lines_lead theory t c bytes [] h = record {
  path = [];
  last = t;
  left = c;
  stated = refl;
  leads = no_step;
}
lines_lead theory t c bytes (step ∷ steps) h =
    one_more theory t c h.2 h.0 step steps h.4
    (lines_lead theory (result_of step.right) h.2 h.1 steps h.5)

pub read_is_path : ReadIsPath
read_is_path theory top calls bytes start first steps read =
    let l = lines_lead theory (result_of first) read.left read.more steps read.stepped in
    (l.path, l.last, l.left, l.stated, (result_of first, read.left, read.evaluated, l.leads))
