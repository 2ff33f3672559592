-- What the private functions that build rule patterns promise.
use Rattle.std.specs.Prelude.{◌≡◌, ◌++◌, ℕ, List, [], ◌∷◌, ◌⊎◌, Vec, Option, Some, None}
use Rattle.std.specs.Option.{option_and_then}
use Rattle.term_core.specs.Patterns.{Pattern, Patterns, no_pattern, more_patterns}
use Rattle.rule_core.specs.declared.signature.Signature.{Signature}
use Rattle.rule_core.specs.declared.signature.SymKind.{SymKind}
use Rattle.kore_check.specs.Folds.{Unfolded, Unfoldeds, no_more, and_more}
use Rattle.kore_check.specs.Applicative.{IsApplicative}
use Rattle.kore_check.specs.PatternFaults.{pattern_faults}
use Rattle.kore_check.specs.PatternMeanings.{Means, AllMean, applied_pattern, with_variables}
use Rattle.kore_check.specs.PatternMeanings.{named_part}
use Rattle.kore_check.specs.PatternMeanings.{with_all_variables, IsNamed}
use Rattle.kore_check.specs.PatternSorts.{symbol_named, sort_numbers}
use Rattle.kore_check.specs.declared.build.Head.{Head}
use Rattle.kore_text.specs.Trees.{SortTree}
use Rattle.std.specs.Global.{Global}
use Rattle.term_core.specs.RulePatterns.{plain_pattern, sort_numbers as numbers_of}
use Rattle.term_core.specs.PatternLists.{plain_patterns}
use Rattle.term_core.specs.declared.rule_patterns.RulePat.{RulePat}
use Rattle.rule_core.specs.declared.signature.SymInfo.{SymInfo}

-- the second list is the first one, maybe with other variables after it
abbrev pub Extends : List (List ℕ × ℕ) → List (List ℕ × ℕ) → Type 0
Extends vars more = (behind : List (List ℕ × ℕ)) × (more ≡ vars ++ behind)

-- the pattern means this, also if other variables come after these
abbrev pub MeansFrom : Signature → List (List ℕ × ℕ) → Unfolded → Pattern → Type 0
MeansFrom sig vars u p = (more : List (List ℕ × ℕ)) → Extends vars more → Means sig more u p

abbrev pub AllMeanFrom : Signature → List (List ℕ × ℕ) → Unfoldeds → Patterns → Type 0
AllMeanFrom sig vars us ps = (more : List (List ℕ × ℕ)) → Extends vars more → AllMean sig more us ps

-- the part that has a name in an `\and` of two patterns; None if there are not exactly two
abbrev pub only_named : Patterns → Option Pattern
only_named (more_patterns p (more_patterns q no_pattern)) = named_part p q
only_named ps = None

-- the pattern has an allowed form, and no fault except maybe its height
abbrev pub IsFaultless : Signature → Unfolded → Type 0
IsFaultless sig u = (pattern_faults sig u ≡ []) × IsApplicative u

abbrev pub AreFaultless : Signature → Unfoldeds → Type 0
AreFaultless sig no_more = Unit {0}
AreFaultless sig (and_more u us) = IsFaultless sig u × AreFaultless sig us

-- a symbol applied to two patterns
abbrev pub pair_pattern : SymKind → ℕ → List ℕ → Pattern → Pattern → Option Pattern
pair_pattern kind f ns p q =
    applied_pattern kind f ns (more_patterns p (more_patterns q no_pattern))

-- a symbol folded over patterns from the left
abbrev pub fold_left_from : SymKind → ℕ → List ℕ → Pattern → List Pattern → Option Pattern
fold_left_from kind f ns p [] = Some p
fold_left_from kind f ns p (q ∷ qs) =
    option_and_then (λ r. fold_left_from kind f ns r qs) (pair_pattern kind f ns p q)

abbrev pub left_pattern : SymKind → ℕ → List ℕ → List Pattern → Option Pattern
left_pattern kind f ns [] = None
left_pattern kind f ns (p ∷ ps) = fold_left_from kind f ns p ps

-- a symbol folded over patterns from the right
abbrev pub right_pattern : SymKind → ℕ → List ℕ → List Pattern → Option Pattern
right_pattern kind f ns [] = None
right_pattern kind f ns (p ∷ []) = Some p
right_pattern kind f ns (p ∷ (q ∷ qs)) =
    option_and_then (pair_pattern kind f ns p) (right_pattern kind f ns (q ∷ qs))

-- What is built from a pattern. It is None only if the pattern has a fault or another form.
-- Otherwise it is what the pattern means, and the pattern's new variables come after the old ones.
abbrev pub Built : Signature → List (List ℕ × ℕ) → List (List ℕ × ℕ) → Unfolded → Option RulePat
    → Type 0
Built sig old new u None = IsFaultless sig u → ⊥
Built sig old new u (Some p) =
    (new ≡ with_variables sig old u) × MeansFrom sig new u (plain_pattern p)

abbrev pub AllBuilt : Signature → List (List ℕ × ℕ) → List (List ℕ × ℕ) → Unfoldeds
    → Option (Vec RulePat Global) → Type 0
AllBuilt sig old new us None = AreFaultless sig us → ⊥
AllBuilt sig old new us (Some ps) = (new ≡ with_all_variables sig old us)
    × AllMeanFrom sig new us (plain_patterns ps.items)

-- The head of an application. It is None only if the symbol or one of its sorts is not declared.
abbrev pub IsHead : Signature → List ℕ → List SortTree → Option Head → Type 0
IsHead sig name ss None = (symbol_named sig name ≡ None) ⊎ (sort_numbers sig ss ≡ None)
IsHead sig name ss (Some h) =
    (info : SymInfo) × IsNamed sig name h.sym.0 info × (h.kind ≡ info.kind)
    × (sort_numbers sig ss ≡ Some (numbers_of h.sorts.items))
