-- The law of sorts: the meaning of a pattern without faults has the sort of the pattern.
use Rattle.std.specs.Prelude.{◌≡◌, ℕ, List, [], map, Some}
use Rattle.term_core.specs.Patterns.{Pattern}
use Rattle.rule_core.specs.Sorting.{HasSort}
use Rattle.rule_core.specs.WellSorted.{IsSignature}
use Rattle.rule_core.specs.declared.signature.Signature.{Signature}
use Rattle.kore_check.specs.Folds.{Unfolded}
use Rattle.kore_check.specs.PatternSorts.{sort_of_pattern}
use Rattle.kore_check.specs.PatternFaults.{pattern_faults}
use Rattle.kore_check.specs.PatternMeanings.{Means}

-- the sorts of variables
abbrev pub variable_sorts : List (List ℕ × ℕ) → List ℕ
variable_sorts vars = map (λ (v : List ℕ × ℕ). v.1) vars

abbrev pub MeaningsAreSorted : Type 0
MeaningsAreSorted =
    (sig : Signature) (vars : List (List ℕ × ℕ)) (u : Unfolded) (p : Pattern) (s : ℕ)
    → IsSignature sig →
    pattern_faults sig u ≡ [] → Means sig vars u p → sort_of_pattern sig u ≡ Some s
    → HasSort sig (variable_sorts vars) p s
