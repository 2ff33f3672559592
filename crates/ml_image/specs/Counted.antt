-- Patterns that loops build: applications to variables, one after another, and conditions with
-- renamed variables.
use Rattle.std.specs.Prelude.{◌≡◌, ℕ, ◌+◌, zero, suc, List, Option, Some}
use Rattle.ml_pat.specs.Patterns.{Pattern, app, and, var}
use Rattle.term_core.specs.Patterns.{Pattern as RulePattern}
use Rattle.rule_core.specs.declared.signature.Signature.{Signature}
use Rattle.ml_image.specs.Sentences.{IsImageOf}
use Rattle.ml_image.specs.LastResorts.{condition_renamed}

-- the pattern applied to this many variables, numbered from k
abbrev pub at_variables : Pattern → ℕ → ℕ → Pattern
at_variables head k zero = head
at_variables head k (suc n) = at_variables (app head (var k)) (k + 1) n

-- the pattern applied to this many conjunctions, each of a variable numbered from k and one
-- numbered from m
abbrev pub at_pairs : Pattern → ℕ → ℕ → ℕ → Pattern
at_pairs head k m zero = head
at_pairs head k m (suc n) = at_pairs (app head (and (var k) (var m))) (k + 1) (m + 1) n

-- the pattern is the image of the condition's sentence, with each variable x as the variable g x
abbrev pub IsConditionImage : Signature → List (List ℕ) → List ℕ → (ℕ → ℕ) → Option RulePattern
    → Pattern → Type 0
IsConditionImage sig names sorts g condition p
    = IsImageOf sig names (λ c. condition_renamed sig g sorts condition ≡ Some c) p
