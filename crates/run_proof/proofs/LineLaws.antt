-- The hints of a run grow with its steps.
use Rattle.std.proofs.Common.{◌≡◌, ◌<◌, ◌+◌, ℕ, List, [], ◌∷◌, ◌++◌, Option, Some, None, refl, sym}
use Rattle.std.proofs.Common.{◌∙◌, ap, subst}
use Rattle.std.specs.Prelude.{length, IsSome}
use Rattle.std.specs.Option.{option_and_then}
use Rattle.std.proofs.lemmas.List.{append-nil, append_assoc, length-append}
use Rattle.std.proofs.lemmas.Option.{slice_get_within}
use Rattle.term_core.specs.Terms.{Tree}
use Rattle.term_core.specs.Patterns.{Pattern, ground_pattern}
use Rattle.rule_core.specs.Evaluation.{Cause}
use Rattle.rule_core.specs.Records.{StepRecord, RecordsStep, result_of}
use Rattle.rule_core.specs.Runs.{Run, unstarted, Steps, steps_on, Reaches, at_start, after_step}
use Rattle.rule_core.specs.Theories.{RewriteTheory}
use Rattle.rule_core.specs.WellSorted.{IsStart, IsWellSorted}
use Rattle.kore_show.specs.KorePatterns.{kore_pattern}
use Rattle.kore_show.specs.ShownLaws.{SortedIsShown}
use Rattle.rewriter.specs.Configurations.{IsConfiguration}
use Rattle.hint_file.specs.HintLaws.{TextsGrow}
use Rattle.hint_file.specs.HintTexts.{first_lines, hint_text, joined, stated_line, step_line}
use Rattle.hint_file.specs.Paths.{PathStep, stated_step}
use Rattle.hint_file.specs.RunTexts.{ReachesBy, by_no_step, by_one_more, HasSteps, IsHintTextOf}
use Rattle.hint_file.specs.RunTexts.{AddsHintTextOf, AddsText, Grows, text_so_far}
use Rattle.hint_file.specs.declared.hints.Hints.{Hints}
use Rattle.run_proof.specs.RunHints.{AddsStepsOf}

-- ---- what has a Kore pattern

pub start_shown : (theory : RewriteTheory) (start : Pattern) → SortedIsShown → IsWellSorted theory
    → IsStart theory start → IsSome (kore_pattern theory.sig start)
start_shown theory start shown sorted is = shown theory.sig start is.0 sorted.signature is.1

pub configuration_shown : (theory : RewriteTheory) (t : Tree) → SortedIsShown
    → IsWellSorted theory → IsConfiguration theory t
    → IsSome (kore_pattern theory.sig (ground_pattern t))
configuration_shown theory t shown sorted is =
    shown theory.sig (ground_pattern t) is.0 sorted.signature is.2

pub rule_there : (theory : RewriteTheory) (t : Tree) (step : StepRecord) → RecordsStep theory t step
    → step.rule < length theory.rules
rule_there theory t step follows =
    slice_get_within theory.rules step.rule follows.rule follows.there

-- ---- texts that grow

grows_then : (P Q R : List ℕ → Type 0) (a b c : Option (List ℕ))
    → ((x y : List ℕ) → P x → Q y → R (x ++ y)) → Grows P a b → Grows Q b c → Grows R a c
grows_then P Q R None b c both first second =
    subst (λ (o : Option (List ℕ)). Grows Q o c) first second
grows_then P Q R (Some text) b c both first second =
    let more : Grows Q (Some (text ++ first.0)) c =
    subst (λ (o : Option (List ℕ)). Grows Q o c) first.2 second in (
      first.0 ++ more.0,
      both first.0 more.0 first.1 more.1,
      more.2 ∙ ap (λ (l : List ℕ). Some l) (append_assoc text first.0 more.0),
    )

both_joined : (p q : Option (List ℕ)) (x y : List ℕ) → p ≡ Some x → q ≡ Some y
    → joined p q ≡ Some (x ++ y)
both_joined p q x y first second =
    ap (λ (o : Option (List ℕ)). joined o q) first ∙ ap (joined (Some x)) second

-- the hint text of no steps is the first lines
no_lines : (theory : RewriteTheory) (start : Pattern) (lines : List ℕ)
    → first_lines theory.sig start ≡ Some lines → hint_text theory.sig start [] ≡ Some lines
no_lines theory start lines is =
    both_joined (first_lines theory.sig start) (Some []) lines [] is refl
    ∙ ap (λ (l : List ℕ). Some l) (append-nil lines)

-- ---- the steps of a run

-- So many steps of the run lead to this configuration. If a text that is wanted had grown by lines
-- 1 and 2 before, it has grown by the hint text of these steps.
pub record HasLines (theory : RewriteTheory) (start : Pattern) (calls n : ℕ) (old new : Hints)
    (t : Tree) (c : ℕ) : Type 0 where
  pub steps : List PathStep
  pub made : ReachesBy theory start calls steps t c
  pub number : length steps ≡ n
  pub lines : (before : Option (List ℕ))
      → Grows (λ lines. first_lines theory.sig start ≡ Some lines) before (text_so_far old)
      → Grows (λ text. hint_text theory.sig start steps ≡ Some text) before (text_so_far new)

reaches_by_none : {theory : RewriteTheory} {start : Pattern} {calls n c : ℕ} {t : Tree} → n ≡ 0
    → Reaches theory start calls n t c → ReachesBy theory start calls [] t c
reaches_by_none none (at_start has_value) = by_no_step has_value
reaches_by_none none (after_step before step) = absurd (let no : ⊥ = cc in no)

more_grown : (P Q : List ℕ → Type 0) (a b : Option (List ℕ)) → ((x : List ℕ) → P x → Q x)
    → Grows P a b → Grows Q a b
more_grown P Q None b more h = h
more_grown P Q (Some text) b more h = (h.0, more h.0 h.1, h.2)

pub no_lines_yet : (theory : RewriteTheory) (start : Pattern) (calls : ℕ) (hints : Hints) (t : Tree)
    (c : ℕ) → Reaches theory start calls 0 t c → HasLines theory start calls 0 hints hints t c
no_lines_yet theory start calls hints t c reached = record {
  steps = [];
  made = reaches_by_none refl reached;
  number = refl;
  lines = λ before grown. more_grown (λ lines. first_lines theory.sig start ≡ Some lines)
      (λ text. hint_text theory.sig start [] ≡ Some text) before (text_so_far hints)
      (no_lines theory start) grown;
}

-- the step that a record states
the_step : (theory : RewriteTheory) (t : Tree) (made : StepRecord) → RecordsStep theory t made
    → (step : PathStep) × (stated_step theory made ≡ Some step)
    × (stated_line theory made ≡ step_line theory.sig step)
the_step theory t made follows =
    let step : PathStep = record { byte = follows.rule.place; after = result_of made.right } in
    let is : stated_step theory made ≡ Some step = rw follows.there refl in (
      step,
      is,
      ap (option_and_then (step_line theory.sig)) is,
    )

pub one_line_more : (theory : RewriteTheory) (start : Pattern) (calls n c d : ℕ) (t u : Tree)
    (first old new : Hints) (made : StepRecord) → TextsGrow
    → HasLines theory start calls n first old t c → Steps theory t c (steps_on u d)
    → RecordsStep theory t made → result_of made.right ≡ u
    → AddsText (stated_line theory made) old new → HasLines theory start calls (n + 1) first new u d
one_line_more theory start calls n c d t u first old new made grow has steps follows result adds =
    let line = the_step theory t made follows in record {
      steps = has.steps ++ (line.0 ∷ []);
      made = by_one_more made has.made steps follows result line.1;
      number =
          length-append has.steps (line.0 ∷ []) ∙ ap (λ (k : ℕ). k + 1) has.number;
      lines = λ before grown. grows_then
          (λ text. hint_text theory.sig start has.steps ≡ Some text)
          (λ text. stated_line theory made ≡ Some text)
          (λ text. hint_text theory.sig start (has.steps ++ (line.0 ∷ [])) ≡ Some text) before
          (text_so_far old) (text_so_far new)
          (λ x y texts added. grow theory.sig start has.steps line.0
          ∙ both_joined (hint_text theory.sig start has.steps) (step_line theory.sig line.0) x y
          texts (sym line.2 ∙ added))
          (has.lines before grown) adds;
    }

-- ---- whole runs

-- the hints of a run that makes these steps
pub steps_added : (theory : RewriteTheory) (start : Pattern) (calls n c : ℕ) (t : Tree) (run : Run)
    (old new : Hints) → HasLines theory start calls n old new t c
    → ((steps : List PathStep) → ReachesBy theory start calls steps t c → length steps ≡ n
    → HasSteps theory start calls run steps) → AddsStepsOf theory calls start run old new
steps_added theory start calls n c t run old new has these before grown =
    more_grown (λ text. hint_text theory.sig start has.steps ≡ Some text)
    (IsHintTextOf theory calls start run) before (text_so_far new)
    (λ text is. (has.steps, these has.steps has.made has.number, is))
    (has.lines before grown)

-- the hints grew by lines 1 and 2 first
pub hints_whole : (theory : RewriteTheory) (start : Pattern) (calls : ℕ) (run : Run)
    (old mid new : Hints) → AddsText (first_lines theory.sig start) old mid
    → AddsStepsOf theory calls start run mid new → AddsHintTextOf theory calls start run old new
hints_whole theory start calls run old mid new first more = more (text_so_far old) first

-- a term without a value makes no steps
pub hints_unstarted : (theory : RewriteTheory) (start : Pattern) (calls : ℕ) (cause : Cause)
    (old new : Hints) → AddsText (first_lines theory.sig start) old new
    → AddsHintTextOf theory calls start (unstarted cause) old new
hints_unstarted theory start calls cause old new first =
    more_grown (λ lines. first_lines theory.sig start ≡ Some lines)
    (IsHintTextOf theory calls start (unstarted cause)) (text_so_far old) (text_so_far new)
    (λ lines is. ([], refl, no_lines theory start lines is)) first
