-- Laws on paths and their hint texts: a path grows by one step, and its text by the step's line.
use Rattle.std.specs.Prelude.{◌≡◌, ℕ, List, [], ◌∷◌, ◌++◌, Some, slice_get}
use Rattle.term_core.specs.Terms.{Tree}
use Rattle.term_core.specs.Patterns.{Pattern}
use Rattle.rule_core.specs.Rules.{RewriteRule}
use Rattle.rule_core.specs.Theories.{RewriteTheory}
use Rattle.rule_core.specs.Runs.{steps_on}
use Rattle.rule_core.specs.declared.signature.Signature.{Signature}
use Rattle.hint_file.specs.Paths.{StepsBy, PathStep, IsPath}
use Rattle.hint_file.specs.HintTexts.{joined, step_line, hint_text}

-- one more step, by a rule that applies, makes a path longer
abbrev pub PathsGrow : Type 0
PathsGrow =
    (theory : RewriteTheory) (start : Pattern) (calls : ℕ) (steps : List PathStep) (i c d : ℕ)
    (t u : Tree) (rule : RewriteRule) → IsPath theory start calls steps t c
    → slice_get theory.rules i ≡ Some rule → StepsBy theory rule t c (steps_on u d)
    → IsPath theory start calls (steps ++ (record { byte = rule.place; after = u } ∷ [])) u d

-- the text of a path with one more step is the path's text and then the step's line
abbrev pub TextsGrow : Type 0
TextsGrow =
    (sig : Signature) (start : Pattern) (steps : List PathStep) (step : PathStep)
    → hint_text sig start (steps ++ (step ∷ []))
    ≡ joined (hint_text sig start steps) (step_line sig step)
