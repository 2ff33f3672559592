-- Paths and their texts grow by one step.
use Rattle.std.proofs.Common.{◌≡◌, ℕ, List, [], ◌∷◌, ◌++◌, Option, Some, None, refl, sym, ◌∙◌, ap}
use Rattle.std.specs.Prelude.{slice_get}
use Rattle.std.proofs.lemmas.List.{append-nil, append_assoc}
use Rattle.term_core.specs.Terms.{Tree}
use Rattle.rule_core.specs.Rules.{RewriteRule}
use Rattle.rule_core.specs.Theories.{RewriteTheory}
use Rattle.rule_core.specs.Runs.{steps_on}
use Rattle.rule_core.specs.declared.signature.Signature.{Signature}
use Rattle.hint_file.specs.Paths.{StepsBy, PathStep, Leads, no_step, step_by}
use Rattle.hint_file.specs.HintTexts.{joined, first_lines, step_line, step_lines}
use Rattle.hint_file.specs.HintLaws.{PathsGrow, TextsGrow}

leads_on : {theory : RewriteTheory} {t u : Tree} {c d : ℕ} {steps : List PathStep} (i e : ℕ)
    (v : Tree) (rule : RewriteRule) → Leads theory t c steps u d
    → slice_get theory.rules i ≡ Some rule → StepsBy theory rule u d (steps_on v e)
    → Leads theory t c (steps ++ (record { byte = rule.place; after = v } ∷ [])) v e
leads_on i e v rule no_step there by = step_by i there by no_step
leads_on i e v rule (step_by j other one more) there by =
    step_by j other one (leads_on i e v rule more there by)

pub paths_grow : PathsGrow
paths_grow theory start calls steps i c d t u rule path there by =
    (path.0, path.1, path.2, leads_on i d u rule path.3 there by)

-- ---- texts

before_all : (o : Option (List ℕ)) → joined (Some []) o ≡ o
before_all None = refl
before_all (Some text) = refl

after_all : (o : Option (List ℕ)) → joined o (Some []) ≡ o
after_all None = refl
after_all (Some text) = ap (λ (u : List ℕ). Some u) (append-nil text)

joined_twice : (o p q : Option (List ℕ)) → joined o (joined p q) ≡ joined (joined o p) q
joined_twice None p q = refl
joined_twice (Some a) None q = refl
joined_twice (Some a) (Some b) None = refl
joined_twice (Some a) (Some b) (Some c) = ap (λ (u : List ℕ). Some u) (sym (append_assoc a b c))

lines_grow : (sig : Signature) (steps : List PathStep) (step : PathStep)
    → step_lines sig (steps ++ (step ∷ [])) ≡ joined (step_lines sig steps) (step_line sig step)
lines_grow sig [] step = after_all (step_line sig step) ∙ sym (before_all (step_line sig step))
lines_grow sig (s ∷ steps) step =
    ap (joined (step_line sig s)) (lines_grow sig steps step)
    ∙ joined_twice (step_line sig s) (step_lines sig steps) (step_line sig step)

pub texts_grow : TextsGrow
texts_grow sig start steps step =
    ap (joined (first_lines sig start)) (lines_grow sig steps step)
    ∙ joined_twice (first_lines sig start) (step_lines sig steps) (step_line sig step)
