-- Laws on the hint texts of runs.
use Rattle.std.specs.Prelude.{◌≡◌, ℕ, List}
use Rattle.term_core.specs.Patterns.{Pattern}
use Rattle.rule_core.specs.Theories.{RewriteTheory}
use Rattle.rule_core.specs.Runs.{Run}
use Rattle.rule_core.specs.WellSorted.{IsWellSorted}
use Rattle.hint_file.specs.RunTexts.{IsHintTextOf}

-- a run has one hint text
abbrev pub HintTextIsOne : Type 0
HintTextIsOne =
    (theory : RewriteTheory) (calls : ℕ) (start : Pattern) (run : Run) (text other : List ℕ)
    → IsWellSorted theory → IsHintTextOf theory calls start run text
    → IsHintTextOf theory calls start run other → text ≡ other
