-- The hints of a run grow by the texts of its steps.
use Rattle.std.proofs.Common.{◌≡◌, ℕ, ◌+◌, ◌<◌, List, [], ◌∷◌, ◌++◌, length, Option, Some}
use Rattle.std.proofs.Common.{None, refl, sym, ◌∙◌, ap, subst, arith}
use Rattle.std.specs.Option.{option_and_then}
use Rattle.std.proofs.lemmas.List.{append-nil, append_assoc, length-append}
use Rattle.std.proofs.lemmas.Option.{slice_get_within}
use Rattle.term_core.specs.Terms.{Tree}
use Rattle.term_core.specs.Patterns.{Pattern}
use Rattle.rule_core.specs.Theories.{RewriteTheory}
use Rattle.rule_core.specs.Evaluation.{Cause, value, Evaluates}
use Rattle.rule_core.specs.FirstRule.{most_nesting}
use Rattle.rule_core.specs.Records.{Record}
use Rattle.rule_core.specs.ProgramView.{theory_of}
use Rattle.rule_core.specs.declared.rules.Program.{Program}
use Rattle.rule_core.specs.Runs.{Reaches, at_start, after_step, Steps, steps_on, stuck}
use Rattle.rule_core.specs.Runs.{limited, stopped, unstarted}
use Rattle.rewriter.specs.NextSteps.{TellsStep}
use Rattle.rewriter.specs.declared.step.Made.{Made}
use Rattle.hint_file.specs.Paths.{PathStep, numbered_step}
use Rattle.hint_file.specs.HintTexts.{joined, first_lines, step_line, hint_text, numbered_line}
use Rattle.hint_file.specs.HintLaws.{TextsGrow}
use Rattle.hint_file.specs.RunTexts.{ReachesBy, by_no_step, by_one_more, IsHintTextOf, Grows}
use Rattle.hint_file.specs.RunTexts.{text_so_far, AddsText, AddsHintTextOf}
use Rattle.hint_file.specs.declared.hints.Hints.{Hints}

-- ---- texts that grow

grows_as : (holds also : List ℕ → Type 0) (old new : Option (List ℕ))
    → ((text : List ℕ) → holds text → also text) → Grows holds old new → Grows also old new
grows_as holds also None new by h = h
grows_as holds also (Some text) new by h = (h.0, by h.0 h.1, h.2)

grows_twice : (holds also both : List ℕ → Type 0) (old mid new : Option (List ℕ))
    → ((text more : List ℕ) → holds text → also more → both (text ++ more))
    → Grows holds old mid → Grows also mid new → Grows both old new
grows_twice holds also both None mid new by h k =
    subst (λ (o : Option (List ℕ)). Grows also o new) h k
grows_twice holds also both (Some text) mid new by h k =
    let more : Grows also (Some (text ++ h.0)) new =
    subst (λ (o : Option (List ℕ)). Grows also o new) h.2 k in (
      h.0 ++ more.0,
      by h.0 more.0 h.1 more.1,
      more.2 ∙ ap (λ (u : List ℕ). Some u) (append_assoc text h.0 more.0),
    )

-- ---- the hint text of the steps that are made

-- so many steps lead to this configuration, and leave this many calls; this is their text
abbrev TellsSteps : RewriteTheory → Pattern → ℕ → ℕ → Tree → ℕ → List ℕ → Type 0
TellsSteps theory start calls n t c text =
    (steps : List PathStep) × ReachesBy theory start calls steps t c × (length steps ≡ n)
    × (hint_text theory.sig start steps ≡ Some text)

-- hints that are wanted grew by such a text
abbrev pub AddsSteps : RewriteTheory → Pattern → ℕ → ℕ → Tree → ℕ → Hints → Hints → Type 0
AddsSteps theory start calls n t c old new =
    Grows (TellsSteps theory start calls n t c) (text_so_far old) (text_so_far new)

-- the text of no steps is the first lines
no_lines : (theory : RewriteTheory) (start : Pattern) (text : List ℕ)
    → first_lines theory.sig start ≡ Some text → hint_text theory.sig start [] ≡ Some text
no_lines theory start text first =
    ap (λ (o : Option (List ℕ)). joined o (Some [])) first
    ∙ ap (λ (u : List ℕ). Some u) (append-nil text)

begun : {theory : RewriteTheory} {start : Pattern} {calls n c : ℕ} {t : Tree}
    → Reaches theory start calls n t c → n ≡ 0
    → Evaluates theory most_nesting [] start calls (value t c)
begun (at_start e) is = e
begun (after_step before step) is = absurd (let no : ⊥ = cc in no)

-- the first lines, and no step
pub first_added : (theory : RewriteTheory) (start : Pattern) (calls c : ℕ) (t : Tree)
    (old new : Hints) → AddsText (first_lines theory.sig start) old new
    → Reaches theory start calls 0 t c → AddsSteps theory start calls 0 t c old new
first_added theory start calls c t old new h reached =
    grows_as _ (TellsSteps theory start calls 0 t c) (text_so_far old) (text_so_far new)
    (λ text first. ([], by_no_step (begun reached refl), refl, no_lines theory start text first)) h

-- a step's line has its text
abbrev StepTold : RewriteTheory → Pattern → ℕ → Tree → List PathStep → List ℕ → List ℕ → Type 0
StepTold theory start number u steps text more =
    (step : PathStep) × (numbered_step theory number u ≡ Some step)
    × (hint_text theory.sig start (steps ++ (step ∷ [])) ≡ Some (text ++ more))

line_told : TextsGrow → (theory : RewriteTheory) (start : Pattern) (number : ℕ) (u : Tree)
    (steps : List PathStep) (text more : List ℕ) (o : Option PathStep)
    → numbered_step theory number u ≡ o → hint_text theory.sig start steps ≡ Some text
    → option_and_then (step_line theory.sig) o ≡ Some more
    → StepTold theory start number u steps text more
line_told grow theory start number u steps text more None is told line =
    absurd (let no : ⊥ = cc in no)
line_told grow theory start number u steps text more (Some step) is told line = (
  step,
  is,
  grow theory.sig start steps step
      ∙ ap (λ (o : Option (List ℕ)). joined o (step_line theory.sig step)) told
      ∙ ap (joined (Some text)) line,
)

one_told : TextsGrow → {R : Type 0} (tells : R → Record → Type 0) (theory : RewriteTheory)
    (start : Pattern) (calls n c d : ℕ) (t u : Tree) (made : Made R)
    → Steps theory t c (steps_on u d) → TellsStep tells theory t u made → (text more : List ℕ)
    → TellsSteps theory start calls n t c text → numbered_line theory made.rule u ≡ Some more
    → TellsSteps theory start calls (n + 1) u d (text ++ more)
one_told grow tells theory start calls n c d t u made step told text more before line =
    let next : StepTold theory start made.rule u before.0 text more =
    line_told grow theory start made.rule u before.0 text more _ refl before.3 line in
    let stated =
    ap (numbered_step theory told.step.rule) told.result
    ∙ ap (λ (k : ℕ). numbered_step theory k u) told.rule ∙ next.1 in (
      before.0 ++ (next.0 ∷ []),
      by_one_more told.step before.1 step told.follows told.result stated,
      omega (arith, before.2, length-append before.0 (next.0 ∷ [])),
      next.2,
    )

-- one more step, and its line
pub step_added : TextsGrow → {R : Type 0} (tells : R → Record → Type 0) (theory : RewriteTheory)
    (start : Pattern) (calls n c d : ℕ) (t u : Tree) (made : Made R) (old mid new : Hints)
    → AddsSteps theory start calls n t c old mid → Steps theory t c (steps_on u d)
    → TellsStep tells theory t u made → AddsText (numbered_line theory made.rule u) mid new
    → AddsSteps theory start calls (n + 1) u d old new
step_added grow tells theory start calls n c d t u made old mid new before step told line =
    grows_twice (TellsSteps theory start calls n t c) _
    (TellsSteps theory start calls (n + 1) u d) (text_so_far old) (text_so_far mid)
    (text_so_far new) (one_told grow tells theory start calls n c d t u made step told) before
    line

-- the rule of a step is one of the program
pub rule_within : {R : Type 0} (tells : R → Record → Type 0) (theory : RewriteTheory) (t u : Tree)
    (made : Made R) → TellsStep tells theory t u made → made.rule < length theory.rules
rule_within tells theory t u made told =
    omega (
      arith,
      told.rule,
      slice_get_within theory.rules told.step.rule told.follows.rule told.follows.there,
    )

-- the same, by the code's program and terms
pub lines_of_start : (p q : Program) (start : Pattern) (old new : Hints) → q ≡ p
    → AddsText (first_lines q.sig start) old new → AddsText (first_lines p.sig start) old new
lines_of_start p q start old new same h =
    subst (λ (r : Program). AddsText (first_lines r.sig start) old new) same h

pub line_of_step : (p q : Program) (number : ℕ) (t u : Tree) (old new : Hints) → q ≡ p → t ≡ u
    → AddsText (numbered_line (theory_of q) number t) old new
    → AddsText (numbered_line (theory_of p) number u) old new
line_of_step p q number t u old new same term h =
    subst (λ (v : Tree). AddsText (numbered_line (theory_of p) number v) old new) term
    (subst (λ (r : Program). AddsText (numbered_line (theory_of r) number t) old new) same h)

pub same_steps : (theory : RewriteTheory) (start : Pattern) (calls n m c : ℕ) (t u : Tree)
    (old new : Hints) → n ≡ m → u ≡ t → AddsSteps theory start calls n t c old new
    → AddsSteps theory start calls m u c old new
same_steps theory start calls n m c t u old new number term h =
    subst (λ (v : Tree). AddsSteps theory start calls m v c old new) (sym term)
    (subst (λ (k : ℕ). AddsSteps theory start calls k t c old new) number h)

-- ---- the end of the run

pub stuck_told : (theory : RewriteTheory) (start : Pattern) (calls n c : ℕ) (t : Tree)
    (old new : Hints) → AddsSteps theory start calls n t c old new
    → AddsHintTextOf theory calls start (stuck n t) old new
stuck_told theory start calls n c t old new h =
    grows_as _ (IsHintTextOf theory calls start (stuck n t)) (text_so_far old) (text_so_far new)
    (λ text told. (told.0, (c, told.1, told.2), told.3)) h

pub limited_told : (theory : RewriteTheory) (start : Pattern) (calls n c : ℕ) (t : Tree)
    (old new : Hints) → AddsSteps theory start calls n t c old new
    → AddsHintTextOf theory calls start (limited n t) old new
limited_told theory start calls n c t old new h =
    grows_as _ (IsHintTextOf theory calls start (limited n t)) (text_so_far old) (text_so_far new)
    (λ text told. (told.0, (c, told.1, told.2), told.3)) h

pub stopped_told : (theory : RewriteTheory) (start : Pattern) (calls n c : ℕ) (cause : Cause)
    (t : Tree) (old new : Hints) → AddsSteps theory start calls n t c old new
    → AddsHintTextOf theory calls start (stopped n cause t) old new
stopped_told theory start calls n c cause t old new h =
    grows_as _ (IsHintTextOf theory calls start (stopped n cause t)) (text_so_far old)
    (text_so_far new) (λ text told. (told.0, (c, told.1, told.2), told.3)) h

pub unstarted_told : (theory : RewriteTheory) (start : Pattern) (calls : ℕ) (cause : Cause)
    (old new : Hints) → AddsText (first_lines theory.sig start) old new
    → AddsHintTextOf theory calls start (unstarted cause) old new
unstarted_told theory start calls cause old new h =
    grows_as _ (IsHintTextOf theory calls start (unstarted cause)) (text_so_far old)
    (text_so_far new) (λ text first. ([], refl, no_lines theory start text first)) h
