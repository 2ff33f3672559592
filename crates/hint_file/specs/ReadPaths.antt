-- What reading a hint file returns.
use Rattle.std.specs.Prelude.{ℕ, List, Option, map}
use Rattle.term_core.specs.RulePatterns.{plain_pattern}
use Rattle.rule_core.specs.Theories.{RewriteTheory}
use Rattle.rule_core.specs.RecordView.{plain_record, plain_step}
use Rattle.hint_file.specs.HintFiles.{FileOutcome, bad_line, IsReadPath}
use Rattle.hint_file.specs.declared.ends.HintEnd.{HintEnd}
use Rattle.hint_file.specs.declared.ends.HintEnd.TheVariants.{Bad, Memory}
use Rattle.hint_file.specs.declared.reading.HintPath.{HintPath}

-- the first bad line, and the number by which it is bad; nothing is said if memory ran out
abbrev pub IsFirstBad : (FileOutcome → Type 0) → HintEnd → Type 0
IsFirstBad finds (Bad line number) = finds (bad_line line number)
IsFirstBad finds Memory = Unit {0}

-- the path that the bytes list
abbrev pub IsPathOf : RewriteTheory → Option ℕ → ℕ → List ℕ → HintPath → Type 0
IsPathOf theory top calls bytes path =
    IsReadPath theory top calls bytes (plain_pattern path.start) (plain_record path.first)
    (map plain_step path.steps.items)
