-- What a proof may assume of a program.
use Rattle.std.specs.Prelude.{◌⊎◌}
use Rattle.rule_core.specs.Theories.{RewriteTheory}
use Rattle.ml_image.specs.Sentences.{Sentence}
use Rattle.ml_image.specs.OwnAxioms.{IsOwnAxiom}
use Rattle.ml_image.specs.TrueFacts.{IsTrueFact}

-- an axiom of the program, or a true fact on its built-in values and hooks
abbrev pub IsAssumed : RewriteTheory → Sentence → Type 0
IsAssumed theory s = IsOwnAxiom theory s ⊎ IsTrueFact theory.sig s
