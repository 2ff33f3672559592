-- A run has one hint text.
use Rattle.std.proofs.Common.{◌≡◌, ℕ, ◌<◌, ⊎_elim, List, [], ◌∷◌, ◌++◌, length}
use Rattle.std.proofs.Common.{Option, Some, refl, sym, ◌∙◌, ap, subst, arith}
use Rattle.std.proofs.lemmas.List.{length-append}
use Rattle.term_core.specs.Terms.{Tree}
use Rattle.term_core.specs.Patterns.{Pattern}
use Rattle.rule_core.specs.Theories.{RewriteTheory}
use Rattle.rule_core.specs.WellSorted.{IsWellSorted}
use Rattle.rule_core.specs.Evaluation.{value, blocked, Evaluates, IsTrueValue, fails, says_other}
use Rattle.rule_core.specs.FirstRule.{most_nesting, Meets, rule_condition}
use Rattle.rule_core.specs.Records.{OptionalRecord, unconditional, conditional, result_of, Records}
use Rattle.rule_core.specs.Records.{RecordsCondition, StepRecord, RecordsStep, IsUnusedRule}
use Rattle.rule_core.specs.Runs.{Steps, steps_on, Run, stuck, limited, stopped, unstarted}
use Rattle.rule_core.proofs.Determined.{record_determines, evaluation_is_unique}
use Rattle.rule_core.proofs.FirstApplies.{all_at}
use Rattle.rule_core.proofs.RunUnique.{RuleMatchesOnce, rules_match_once, step_is_unique}
use Rattle.hint_file.specs.Paths.{PathStep, stated_step, numbered_step}
use Rattle.hint_file.specs.HintTexts.{hint_text}
use Rattle.hint_file.specs.RunTexts.{ReachesBy, by_no_step, by_one_more, HasSteps, MakesSteps}
use Rattle.hint_file.specs.RunTextLaws.{HintTextIsOne}

-- ---- the rule of a step

-- a condition that has a record does not fail
not_failed : (theory : RewriteTheory) (theta : List (Option Tree)) (p : Option Pattern)
    (o : OptionalRecord) (c left : ℕ) → IsWellSorted theory → RecordsCondition theory theta p o
    → Meets theory theta p c (fails left) → ⊥
not_failed theory theta p unconditional c left good recorded
    (rule_condition {p = q} evaluated says) =
    let no : ⊥ = cc in no
not_failed theory theta p (conditional r) c left good recorded
    (rule_condition {p = q} {e = value t d} evaluated (says_other other)) =
    let is : Some q ≡ Some recorded.0 = recorded.1 in
    let same : recorded.0 ≡ q = cc in
    let there : Records theory theta q r =
    subst (λ (p : Pattern). Records theory theta p r) same recorded.2 in
    let result : t ≡ result_of r =
    record_determines theory most_nesting c left theta q r t good there evaluated in
    other (subst IsTrueValue (sym result) recorded.3)
not_failed theory theta p (conditional r) c left good recorded
    (rule_condition {e = blocked cause} evaluated says) =
    elim says [ ]

-- the rule of a step is used
not_unused : (theory : RewriteTheory) (t : Tree) (step : StepRecord) → IsWellSorted theory
    → (told : RecordsStep theory t step) → IsUnusedRule theory told.rule t → ⊥
not_unused theory t step good told =
    ⊎_elim (λ never. never step.theta told.matches) (λ failed. let once : RuleMatchesOnce theory
    told.rule = all_at (RuleMatchesOnce theory) theory.rules step.rule told.rule (rules_match_once
    theory good) told.there in
    let same : failed.0 ≡ step.theta = once t failed.0 step.theta failed.2 told.matches in
    not_failed theory step.theta told.rule.condition step.condition _ failed.1 good told.condition
    (subst (λ (theta : List (Option Tree)). Meets theory theta told.rule.condition _ (fails
    failed.1)) same failed.3))

one_rule : (theory : RewriteTheory) (t : Tree) (a b : StepRecord) → IsWellSorted theory
    → RecordsStep theory t a → RecordsStep theory t b → a.rule ≡ b.rule
one_rule theory t a b good one other =
    let not_less : a.rule < b.rule → ⊥ =
    λ lt. not_unused theory t a good one (other.earlier a.rule one.rule lt one.there) in
    let not_more : b.rule < a.rule → ⊥ =
    λ lt. not_unused theory t b good other (one.earlier b.rule other.rule lt other.there) in
    omega arith

-- ---- the steps

-- the same steps, to the same configuration, with the same calls left
abbrev AreSame : List PathStep → List PathStep → Tree → Tree → ℕ → ℕ → Type 0
AreSame steps others t u c d = (steps ≡ others) × (t ≡ u) × (c ≡ d)

one_start : (theory : RewriteTheory) (start : Pattern) (calls c d : ℕ) (t u : Tree)
    → IsWellSorted theory → Evaluates theory most_nesting [] start calls (value t c)
    → Evaluates theory most_nesting [] start calls (value u d) → AreSame [] [] t u c d
one_start theory start calls c d t u good h k =
    let same : value t c ≡ value u d =
    evaluation_is_unique theory most_nesting calls [] start (value t c) (value u d) good h k in
    (refl, cc, cc)

one_last : (theory : RewriteTheory) (steps others : List PathStep) (step other : PathStep)
    (a b : StepRecord) (t v u w : Tree) (c e d f : ℕ) → IsWellSorted theory
    → AreSame steps others t v c e → Steps theory t c (steps_on u d)
    → Steps theory v e (steps_on w f) → RecordsStep theory t a → RecordsStep theory v b
    → result_of a.right ≡ u → result_of b.right ≡ w → stated_step theory a ≡ Some step
    → stated_step theory b ≡ Some other
    → AreSame (steps ++ (step ∷ [])) (others ++ (other ∷ [])) u w d f
one_last theory steps others step other a b t v u w c e d f good before one two told also is_u is_w
    said says =
    let two' : Steps theory t c (steps_on w f) =
    subst (λ (n : ℕ). Steps theory t n (steps_on w f)) (sym before.2)
    (subst (λ (x : Tree). Steps theory x e (steps_on w f)) (sym before.1) two) in
    let also' : RecordsStep theory t b =
    subst (λ (x : Tree). RecordsStep theory x b) (sym before.1) also in
    let same : steps_on u d ≡ steps_on w f =
    step_is_unique theory t c (steps_on u d) (steps_on w f) good one two' in
    let term : u ≡ w = cc in
    let left : d ≡ f = cc in
    let rule : a.rule ≡ b.rule = one_rule theory t a b good told also' in
    let after : result_of a.right ≡ result_of b.right = is_u ∙ term ∙ sym is_w in
    let steps_same : Some step ≡ Some other =
    sym said ∙ ap (λ (n : ℕ). numbered_step theory n (result_of a.right)) rule
    ∙ ap (numbered_step theory b.rule) after ∙ says in
    let step_same : step ≡ other = cc in (
      ap (λ (ss : List PathStep). ss ++ (step ∷ [])) before.0
          ∙ ap (λ (s : PathStep). others ++ (s ∷ [])) step_same,
      term,
      left,
    )

one_path : (theory : RewriteTheory) (start : Pattern) (calls : ℕ) {c d : ℕ} {t u : Tree}
    {steps others : List PathStep} → IsWellSorted theory → ReachesBy theory start calls steps t c
    → ReachesBy theory start calls others u d → length steps ≡ length others
    → AreSame steps others t u c d
one_path theory start calls good (by_no_step h) (by_no_step k) same =
    one_start theory start calls _ _ _ _ good h k
one_path theory start calls good (by_no_step h)
    (by_one_more {steps = steps} {step = step} made before step_made told is said) same =
    absurd (omega (arith, length-append steps (step ∷ [])))
one_path theory start calls good
    (by_one_more {steps = steps} {step = step} made before step_made told is said) (by_no_step k)
    same =
    absurd (omega (arith, length-append steps (step ∷ [])))
one_path theory start calls good
    (by_one_more {steps = steps} {step = step} made before one told is said)
    (by_one_more {steps = others} {step = other} also further two tells are says) same =
    one_last theory steps others step other made also _ _ _ _ _ _ _ _ good
    (one_path theory start calls good before further
    (omega (arith, length-append steps (step ∷ []), length-append others (other ∷ [])))) one two
    told tells is are said says

one_count : (theory : RewriteTheory) (start : Pattern) (calls n : ℕ) (t : Tree)
    (steps others : List PathStep) → IsWellSorted theory
    → MakesSteps theory start calls n t steps → MakesSteps theory start calls n t others
    → steps ≡ others
one_count theory start calls n t steps others good h k =
    (one_path theory start calls good h.1 k.1 (h.2 ∙ sym k.2)).0

one_list : (theory : RewriteTheory) (start : Pattern) (calls : ℕ) (run : Run)
    (steps others : List PathStep) → IsWellSorted theory → HasSteps theory start calls run steps
    → HasSteps theory start calls run others → steps ≡ others
one_list theory start calls (stuck n t) steps others good h k =
    one_count theory start calls n t steps others good h k
one_list theory start calls (limited n t) steps others good h k =
    one_count theory start calls n t steps others good h k
one_list theory start calls (stopped n cause t) steps others good h k =
    one_count theory start calls n t steps others good h k
one_list theory start calls (unstarted cause) steps others good h k = h ∙ sym k

pub hint_text_is_one : HintTextIsOne
hint_text_is_one theory calls start run text other good h k =
    let steps : h.0 ≡ k.0 = one_list theory start calls run h.0 k.0 good h.1 k.1 in
    let same : Some text ≡ Some other =
    sym h.2 ∙ ap (hint_text theory.sig start) steps ∙ k.2 in
    cc
