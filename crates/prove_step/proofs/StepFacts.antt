-- What is known of a recorded step, by the rule that it uses.
use Rattle.std.proofs.Common.{◌≡◌, ◌≤◌, ◌<◌, ℕ, zero, suc, List, [], ◌∷◌, Option, Some, get_or}
use Rattle.std.proofs.Common.{length, slice_get, inl, inr, ⊎_elim, refl, sym, ◌∙◌, ap, subst}
use Rattle.std.proofs.Common.{arith}
use Rattle.std.specs.Prelude.{All, IfSome, IsSomeAnd, ◌⊎◌}
use Rattle.std.proofs.lemmas.Option.{slice_get_within}
use Rattle.ml_kernel.specs.Theorems.{Theorem}
use Rattle.term_core.specs.Terms.{Tree, Forest, no_tree, more_trees, height}
use Rattle.term_core.specs.Patterns.{Pattern, no_pattern, more_patterns, instance_of, instances_of}
use Rattle.term_core.specs.Instances.{FitsWithin}
use Rattle.term_core.specs.RulePatterns.{plain_pattern}
use Rattle.rule_core.specs.BoundVariables.{IsBoundRule}
use Rattle.rule_core.specs.Evaluation.{most_height, IsTrueValue}
use Rattle.rule_core.specs.FirstRule.{Matches}
use Rattle.rule_core.specs.Records.{Record, Records, RecordsCondition, StepRecord, result_of}
use Rattle.rule_core.specs.RecordView.{optional}
use Rattle.rule_core.specs.Rules.{RewriteRule}
use Rattle.rule_core.specs.Theories.{RewriteTheory}
use Rattle.rule_core.specs.WellSorted.{IsCondition, IsRuleOf}
use Rattle.rule_core.specs.ProgramView.{rewrite_rule, rewrite_rules, theory_of}
use Rattle.rule_core.specs.declared.rules.Rule.{Rule}
use Rattle.rule_core.specs.declared.rules.Program.{Program}
use Rattle.rule_core.proofs.EvaluationAnswers.{serves_match}
use Rattle.rule_core.proofs.SortedInstances.{both_there}
use Rattle.ml_image.specs.HasImages.{HasRuleImage}
use Rattle.ml_image.proofs.ConditionLaws.{length-sorts_of}
use Rattle.ml_image.proofs.ImageLaws.{none_some, some_same}
use Rattle.ml_image.proofs.WellSortedLaws.{rule_has_image}
use Rattle.prove_term.specs.Contexts.{Context, HasGrown}
use Rattle.prove_term.specs.RuleAxioms.{HasImageAt}
use Rattle.prove_term.proofs.ContextLaws.{contains_there}
use Rattle.prove_term.proofs.KeptLaws.{rule_found}
use Rattle.prove_equation.specs.Conditions.{BindsEach, SaysCondition}
use Rattle.prove_fun.specs.Evaluating.{IsSortedAndBound, IsRecorded}
use Rattle.prove_fun.proofs.Recording.{all_at, held_record}
use Rattle.prove_step.specs.Applying.{IsStepOf, SaysConditionAt}
use Rattle.prove_step.specs.Steps.{IsStepFrom}

-- ---- the rule at a place

rule_at : (rules : List Rule) (i : ℕ) (q : RewriteRule) → slice_get (rewrite_rules rules) i ≡ Some q
    → (r : Rule) × (slice_get rules i ≡ Some r) × (rewrite_rule r ≡ q)
rule_at [] i q there = absurd (none_some q there)
rule_at (r ∷ rules) zero q there = (r, refl, some_same (rewrite_rule r) q there)
rule_at (r ∷ rules) (suc i) q there = rule_at rules i q there

sorted_rule : (theory : RewriteTheory) (i : ℕ) (r : RewriteRule) → slice_get theory.rules i ≡ Some r
    → (theory.rules ≡ []) ⊎ ((sort : ℕ) × All (IsRuleOf theory.sig sort) theory.rules)
    → (sort : ℕ) × IsRuleOf theory.sig sort r
sorted_rule theory i r there (inl none) =
    absurd (none_some r (ap (λ (rs : List RewriteRule). slice_get rs i) (sym none) ∙ there))
sorted_rule theory i r there (inr (sort, each)) =
    (sort, all_at (IsRuleOf theory.sig sort) theory.rules i r each there)

-- ---- what is known

pub record StepFacts (program : Program) (step : StepRecord) (r : Rule) : Type 0 where
  pub there : slice_get program.rules.items step.rule ≡ Some r
  pub ready : IsSortedAndBound program
  pub sort : ℕ
  pub fits : IsRuleOf program.sig sort (rewrite_rule r)
  pub image : HasRuleImage program.sig (rewrite_rule r)
  pub term : Tree
  pub low : height term ≤ most_height
  pub matches : Matches (theory_of program) (rewrite_rule r) term step.theta
  pub from : instance_of step.theta (plain_pattern r.left) ≡ Some term
  pub bound : BindsEach (rewrite_rule r).variables step.theta
  pub condition : RecordsCondition (theory_of program) step.theta (rewrite_rule r).condition
      step.condition
  pub right : IsRecorded program step.theta (plain_pattern r.right) step.right

first_tree : (a b : Tree) (rest other : Forest) → more_trees a rest ≡ more_trees b other → a ≡ b
first_tree a b rest other e = cc

-- the left side becomes the matched term
pub matched : (theory : RewriteTheory) (r : RewriteRule) (t : Tree) (theta : List (Option Tree))
    → Matches theory r t theta → instance_of theta r.left ≡ Some t
matched theory r t theta matches =
    let made : (u : Tree) × ((us : Forest)
    × ((more_trees t no_tree ≡ more_trees u us)
    × ((instance_of theta r.left ≡ Some u) × (instances_of theta no_pattern ≡ Some us)))) =
    both_there (instance_of theta r.left) (instances_of theta no_pattern) (more_trees t no_tree)
    matches.makes in
    made.1.1.1.0 ∙ ap (λ (u : Tree). Some u) (sym (first_tree t made.0 no_tree made.1.0 made.1.1.0))

facts_with : (program : Program) (step : StepRecord) (r : Rule) (t : Tree)
    (ok : IsSortedAndBound program) → slice_get program.rules.items step.rule ≡ Some r
    → slice_get (theory_of program).rules step.rule ≡ Some (rewrite_rule r) → height t ≤ most_height
    → Matches (theory_of program) (rewrite_rule r) t step.theta
    → RecordsCondition (theory_of program) step.theta (rewrite_rule r).condition step.condition
    → Records (theory_of program) step.theta (rewrite_rule r).right step.right
    → StepFacts program step r
facts_with program step r t ok there listed low matches held right =
    let bound : IsBoundRule r = ok.bound.rules step.rule r there in
    let fits : (sort : ℕ) × IsRuleOf program.sig sort (rewrite_rule r) =
    sorted_rule (theory_of program) step.rule (rewrite_rule r) listed ok.well_sorted.one_sort in
    record {
      there = there;
      ready = ok;
      sort = fits.0;
      fits = fits.1;
      image =
          rule_has_image (theory_of program) (rewrite_rule r) ok.well_sorted
          (contains_there (theory_of program).rules step.rule (rewrite_rule r) listed)
          (omega (arith, bound.few, length-sorts_of r.vars.items));
      term = t;
      low = low;
      matches = matches;
      from = matched (theory_of program) (rewrite_rule r) t step.theta matches;
      bound =
          λ x within. (matches.binds.just x).1 (⊎_elim (λ occurs. inl (inl occurs)) inr
          (bound.each x (omega (arith, within, length-sorts_of r.vars.items))));
      condition = held;
      right = record {
        ready = ok;
        variables = (rewrite_rule r).variables;
        sort = fits.0;
        sorted = fits.1.right;
        serves =
            serves_match program.sig (rewrite_rule r).variables
            (more_patterns (plain_pattern r.left) no_pattern) (rewrite_rule r).names
            (more_trees t no_tree) step.theta (plain_pattern r.right) fits.1.names matches
            (omega (arith, low)) fits.1.bound;
        records = right;
      };
    }

pub step_facts : (program : Program) (step : StepRecord) (r : Rule) → IsStepOf program step
    → slice_get program.rules.items step.rule ≡ Some r → StepFacts program step r
step_facts program step r h there =
    let w : (q : Rule) × (slice_get program.rules.items step.rule ≡ Some q) ×
    (rewrite_rule q ≡ h.follows.rule) =
    rule_at program.rules.items step.rule h.follows.rule h.follows.there in
    let same : h.follows.rule ≡ rewrite_rule r =
    sym w.2 ∙ ap rewrite_rule (some_same w.0 r (sym w.1 ∙ there)) in
    facts_with program step r h.term (record { well_sorted = h.well_sorted; bound = h.bound }) there
    (h.follows.there ∙ ap (λ (q : RewriteRule). Some q) same) h.follows.low
    (subst (λ (q : RewriteRule). Matches (theory_of program) q h.term step.theta) same
    h.follows.matches)
    (subst (λ (q : RewriteRule).
    RecordsCondition (theory_of program) step.theta q.condition step.condition) same
    h.follows.condition)
    (subst (λ (q : RewriteRule). Records (theory_of program) step.theta q.right step.right) same
    h.follows.right)

-- there is a rule at the place
pub step_rule : (program : Program) (step : StepRecord) → IsStepOf program step
    → (r : Rule) × (slice_get program.rules.items step.rule ≡ Some r)
step_rule program step h =
    let w : (q : Rule) × (slice_get program.rules.items step.rule ≡ Some q) ×
    (rewrite_rule q ≡ h.follows.rule) =
    rule_at program.rules.items step.rule h.follows.rule h.follows.there in
    (w.0, w.1)

pub rule_within : (program : Program) (step : StepRecord) → IsStepOf program step
    → step.rule < length program.rules.items
rule_within program step h =
    let w : (r : Rule) × (slice_get program.rules.items step.rule ≡ Some r) =
    step_rule program step h in
    slice_get_within program.rules.items step.rule w.0 w.1

pub step_image : (program : Program) (step : StepRecord) → IsStepOf program step
    → HasImageAt program step.rule
step_image program step h =
    let w : (r : Rule) × (slice_get program.rules.items step.rule ≡ Some r) =
    step_rule program step h in
    (w.0, w.1, (step_facts program step w.0 h w.1).image)

-- what is known of the rule that was looked up
pub facts_found : (program lent : Program) (step : StepRecord) (found : Rule) → lent ≡ program
    → found ≡ get_or lent.rules.items step.rule found → IsStepOf program step
    → StepFacts program step found
facts_found program lent step found same is h =
    let w : (r : Rule) × (slice_get program.rules.items step.rule ≡ Some r) =
    step_rule program step h in
    let at : get_or program.rules.items step.rule found ≡ found =
    ap (λ (p : Program). get_or p.rules.items step.rule found) (sym same) ∙ sym is in
    let rule : w.0 ≡ found = rule_found program.rules.items step.rule w.0 found w.1 at in
    step_facts program step found h (w.1 ∙ ap (λ (r : Rule). Some r) rule)

-- the program stays the same
pub step_later : (a b : Context) (step : StepRecord) → HasGrown a b → IsStepOf a.program step
    → IsStepOf b.program step
step_later a b step g h = subst (λ (p : Program). IsStepOf p step) (sym g.program) h

pub facts_later : (a b : Context) (step : StepRecord) (r : Rule) → HasGrown a b
    → StepFacts a.program step r → StepFacts b.program step r
facts_later a b step r g h = subst (λ (p : Program). StepFacts p step r) (sym g.program) h

-- ---- the sides

pub left_fits : (program : Program) (step : StepRecord) (r : Rule) → StepFacts program step r
    → FitsWithin most_height step.theta (plain_pattern r.left)
left_fits program step r h =
    subst (λ (o : Option Tree). IsSomeAnd o (λ (u : Tree). height u ≤ most_height)) (sym h.from)
    h.low

-- only one term makes the step
pub same_term : (program : Program) (step : StepRecord) (r : Rule) (t : Tree)
    (h : StepFacts program step r) → IsStepFrom (theory_of program) t step → h.term ≡ t
same_term program step r t h other =
    let w : (q : Rule) × (slice_get program.rules.items step.rule ≡ Some q) ×
    (rewrite_rule q ≡ other.rule) =
    rule_at program.rules.items step.rule other.rule other.there in
    let same : other.rule ≡ rewrite_rule r =
    sym w.2 ∙ ap rewrite_rule (some_same w.0 r (sym w.1 ∙ h.there)) in
    let from : instance_of step.theta (plain_pattern r.left) ≡ Some t =
    ap (λ (q : RewriteRule). instance_of step.theta q.left) (sym same)
    ∙ matched (theory_of program) other.rule t step.theta other.matches in
    some_same h.term t (sym h.from ∙ from)

-- ---- the condition

-- if there is a condition, there is its record
pub held_condition : (program : Program) (step : StepRecord) (r : Rule) (p : Pattern) (q : Record)
    → StepFacts program step r → (rewrite_rule r).condition ≡ Some p
    → step.condition ≡ optional (Some q)
    → (h : IsRecorded program step.theta p q) × (h.variables ≡ (rewrite_rule r).variables)
    × IsTrueValue (result_of q)
held_condition program step r p q h is_p is_q =
    let has : IsCondition program.sig (rewrite_rule r).variables
    (more_patterns (plain_pattern r.left) no_pattern) (rewrite_rule r).names p =
    subst (λ (x : Option Pattern). IfSome x (IsCondition program.sig (rewrite_rule r).variables
    (more_patterns (plain_pattern r.left) no_pattern) (rewrite_rule r).names)) is_p
    h.fits.condition in
    held_record program step.theta (rewrite_rule r).variables
    (more_patterns (plain_pattern r.left) no_pattern) (rewrite_rule r).names
    (more_trees h.term no_tree) p q (rewrite_rule r).condition step.condition h.ready
    h.fits.names has h.matches (omega (arith, h.low)) is_p is_q h.condition

-- what is known of the condition of the rule is known of the rule at its place
pub condition_at : (old new : Context) (step : StepRecord) (r : Rule) (o : Option Theorem)
    → HasGrown old new → StepFacts old.program step r
    → SaysCondition new (rewrite_rule r).variables step.theta (rewrite_rule r).condition o
    → SaysConditionAt new step.rule step.theta o
condition_at old new step r o g h says = λ q there.
    let before : slice_get old.program.rules.items step.rule ≡ Some q =
    subst (λ (p : Program). slice_get p.rules.items step.rule ≡ Some q) g.program there in
    subst (λ (x : Rule).
    SaysCondition new (rewrite_rule x).variables step.theta (rewrite_rule x).condition o)
    (some_same r q (sym h.there ∙ before)) says
