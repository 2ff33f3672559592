-- What a recording of an evaluation tells.
use Rattle.std.specs.Prelude.{◌≡◌, List, Option}
use Rattle.term_core.specs.Terms.{Tree}
use Rattle.term_core.specs.Patterns.{Pattern}
use Rattle.rule_core.specs.Theories.{RewriteTheory}
use Rattle.rule_core.specs.Records.{Record, Records, result_of}

-- it tells a record that follows the evaluation of the pattern to this term
abbrev pub IsRecorded : (Record → Type 0) → RewriteTheory → List (Option Tree) → Pattern → Tree
    → Type 0
IsRecorded tells theory theta p t =
    (r : Record) × tells r × Records theory theta p r × (result_of r ≡ t)
