-- What a database justifies has a derivation in matching logic.
use Rattle.std.specs.Prelude.{ℕ, List, []}
use Rattle.mm_text.specs.Bytes.{Token}
use Rattle.ml_pat.specs.Patterns.{Pattern, imp, ev}
use Rattle.ml_kernel.specs.Derivability.{Derives}
use Rattle.term_core.specs.Patterns.{Pattern as RulePattern}
use Rattle.rule_core.specs.Theories.{RewriteTheory}
use Rattle.rule_core.specs.WellSorted.{IsWellSorted}
use Rattle.mm_justify.specs.Justifying.{Justifies, JustifiesRun}
use Rattle.mm_adequate.specs.Assuming.{numbered, IsNumberedImage, IsAssumedPattern, AssumesClosed}
use Rattle.mm_adequate.specs.Assuming.{HasFewVariables}

-- a well-sorted program assumes only closed patterns
abbrev pub WellSortedAssumesClosed : Type 0
WellSortedAssumesClosed =
    (theory : RewriteTheory) → IsWellSorted theory → HasFewVariables theory
    → AssumesClosed theory

-- If a database justifies that a reaches b, this has a derivation from what the program may assume,
-- whatever numbers the tokens have.
abbrev pub JustifiedIsDerived : Type 0
JustifiedIsDerived =
    (bytes : List ℕ) (theory : RewriteTheory) (names : List Token) (a b : Pattern)
    (number : Token → ℕ) → AssumesClosed theory → Justifies bytes theory names a b →
    Derives [] (IsAssumedPattern theory number)
    (imp (numbered number names a) (ev (numbered number names b)))

-- So if a database justifies a run of a well-sorted program, it has a derivation that the image of
-- the start reaches the image of the end.
abbrev pub RunIsDerived : Type 0
RunIsDerived =
    (bytes : List ℕ) (theory : RewriteTheory) (start end : RulePattern) (number : Token → ℕ) →
    IsWellSorted theory → HasFewVariables theory → JustifiesRun bytes theory start end →
    (a b : Pattern) × IsNumberedImage theory number start a × IsNumberedImage theory number end b
    × Derives [] (IsAssumedPattern theory number) (imp a (ev b))
