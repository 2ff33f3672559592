-- The hint text of a run: the text of its steps, each of which is by the first rule that applies.
use Rattle.std.specs.Prelude.{◌≡◌, ℕ, List, [], ◌∷◌, ◌++◌, length, Option, Some, None, option_map}
use Rattle.std.specs.Global.{Vec}
use Rattle.term_core.specs.Terms.{Tree}
use Rattle.term_core.specs.Patterns.{Pattern}
use Rattle.rule_core.specs.Theories.{RewriteTheory}
use Rattle.rule_core.specs.Evaluation.{value, Evaluates}
use Rattle.rule_core.specs.FirstRule.{most_nesting}
use Rattle.rule_core.specs.Records.{StepRecord, RecordsStep, result_of}
use Rattle.rule_core.specs.Runs.{Steps, steps_on, Run, stuck, limited, stopped, unstarted}
use Rattle.hint_file.specs.Paths.{PathStep, stated_step}
use Rattle.hint_file.specs.HintTexts.{hint_text}
use Rattle.hint_file.specs.declared.hints.Hints.{Hints}

-- The run of the initial term makes these steps to this configuration, and leaves this many calls.
-- A record says of each step which rule is used: the first one that applies.
pub data ReachesBy (theory : RewriteTheory) (start : Pattern) (calls : ℕ) : List PathStep → Tree → ℕ
    → Type 0 where
  by_no_step : {t : Tree} {c : ℕ} → Evaluates theory most_nesting [] start calls (value t c)
      → ReachesBy theory start calls [] t c
  by_one_more : {steps : List PathStep} {step : PathStep} {c d : ℕ} {t u : Tree} (made : StepRecord)
      → ReachesBy theory start calls steps t c → Steps theory t c (steps_on u d)
      → RecordsStep theory t made → result_of made.right ≡ u → stated_step theory made ≡ Some step
      → ReachesBy theory start calls (steps ++ (step ∷ [])) u d

-- the run makes so many steps, which are these, to this configuration
abbrev pub MakesSteps : RewriteTheory → Pattern → ℕ → ℕ → Tree → List PathStep → Type 0
MakesSteps theory start calls n t steps =
    (c : ℕ) × ReachesBy theory start calls steps t c × (length steps ≡ n)

-- these are the steps of the run; a term without a value makes none
abbrev pub HasSteps : RewriteTheory → Pattern → ℕ → Run → List PathStep → Type 0
HasSteps theory start calls (stuck n t) steps = MakesSteps theory start calls n t steps
HasSteps theory start calls (limited n t) steps = MakesSteps theory start calls n t steps
HasSteps theory start calls (stopped n cause t) steps = MakesSteps theory start calls n t steps
HasSteps theory start calls (unstarted cause) steps = steps ≡ []

-- this is the hint text of the run's steps
abbrev pub IsHintTextOf : RewriteTheory → ℕ → Pattern → Run → List ℕ → Type 0
IsHintTextOf theory calls start run text =
    (steps : List PathStep) × HasSteps theory start calls run steps
    × (hint_text theory.sig start steps ≡ Some text)

-- ---- hints of the code

-- the text so far, if hints are wanted
abbrev pub text_so_far : Hints → Option (List ℕ)
text_so_far hints = option_map (λ (v : Vec ℕ). v.items) hints.text

-- a text that is wanted grew by one of which this holds; one that is not wanted stays so
abbrev pub Grows : (List ℕ → Type 0) → Option (List ℕ) → Option (List ℕ) → Type 0
Grows holds None new = new ≡ None
Grows holds (Some text) new = (added : List ℕ) × holds added × (new ≡ Some (text ++ added))

-- hints that are wanted grew by this text, which there is
abbrev pub AddsText : Option (List ℕ) → Hints → Hints → Type 0
AddsText text old new = Grows (λ added. text ≡ Some added) (text_so_far old) (text_so_far new)

-- hints that are wanted grew by the hint text of the run
abbrev pub AddsHintTextOf : RewriteTheory → ℕ → Pattern → Run → Hints → Hints → Type 0
AddsHintTextOf theory calls start run old new =
    Grows (IsHintTextOf theory calls start run) (text_so_far old) (text_so_far new)
