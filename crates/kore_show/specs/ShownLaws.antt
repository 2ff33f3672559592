-- A law on the Kore patterns of patterns of rules.
use Rattle.std.specs.Prelude.{ℕ, [], IsSome}
use Rattle.term_core.specs.Patterns.{Pattern}
use Rattle.rule_core.specs.declared.signature.Signature.{Signature}
use Rattle.rule_core.specs.Sorting.{HasSort}
use Rattle.rule_core.specs.WellSorted.{IsSignature}
use Rattle.kore_show.specs.KorePatterns.{kore_pattern}

-- in a well-formed signature, a pattern without variables that has a sort has a Kore pattern
abbrev pub SortedIsShown : Type 0
SortedIsShown = (sig : Signature) (p : Pattern) (sort : ℕ) → IsSignature sig → HasSort sig [] p sort
    → IsSome (kore_pattern sig p)
