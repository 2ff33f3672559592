-- The numbers that a guard gives to the variables of the equation that it repeats.
use Rattle.std.specs.Prelude.{◌≡◌, ◌==◌, ◌++◌, ◌+◌, ℕ, Bool, false, if◌then◌else◌, List, [], ◌∷◌, length}
use Rattle.std.specs.Prelude.{replicate, slice_index_or}
use Rattle.term_core.specs.Terms.{Forest, no_tree, more_trees}
use Rattle.term_core.specs.Patterns.{Patterns, no_pattern, more_patterns}
use Rattle.rule_core.specs.MatchSearch.{UseFirst}
use Rattle.rule_core.specs.NamedParts.{Name}
use Rattle.rule_core.specs.Rules.{Equation}
use Rattle.ml_image.specs.HasImages.{AreNamesBelow}
use Rattle.ml_image.specs.Images.{renamed}
use Rattle.ml_image.specs.LastResorts.{number_from, sorts_at}
use Rattle.ml_image.specs.PartNames.{names_renamed}
use Rattle.guard_body.specs.Arguments.{part_names_of, pattern_of}
use Rattle.guard_body.specs.declared.arguments.Argument.{Argument}

-- the number that the list has for a variable, or 0
abbrev pub number_in : List ℕ → ℕ → ℕ
number_in numbers x = slice_index_or numbers x 0

-- the sorts of variables by their numbers, if those in this order are numbered from k; those of the
-- numbers below k are of no account
abbrev pub sorts_from : ℕ → List ℕ → List ℕ → List ℕ
sorts_from k [] order = []
sorts_from k (s ∷ sorts) order = replicate k s ++ sorts_at (s ∷ sorts) order

-- the list has the numbers of `count` variables, if those in this order are numbered from `first`
pub record ListsNumbers (first : ℕ) (order : List ℕ) (count : ℕ) (numbers : List ℕ) : Type 0 where
  pub long : length numbers ≡ count
  pub each : (x : ℕ) → slice_index_or numbers x 0 ≡ number_from first order x

-- a variable keeps its number
abbrev pub itself : ℕ → ℕ
itself x = x

-- whether the place begins with this number
abbrev pub begins_with : ℕ → List ℕ → Bool
begins_with i [] = false
begins_with i (j ∷ way) = j == i

-- the place with 0 as its first number
abbrev pub zero_first : List ℕ → List ℕ
zero_first [] = []
zero_first (j ∷ way) = 0 ∷ way

abbrev pub at_zero : Name → Name
at_zero n = record n { place = zero_first n.place }

-- the names of parts of the argument i, as if it were argument 0
abbrev pub names_at : ℕ → List Name → List Name
names_at i [] = []
names_at i (n ∷ names) =
    if begins_with i n.place then at_zero n ∷ names_at i names else names_at i names

-- the variables of the equation have numbers
pub record CanRename (e : Equation) (numbers : List ℕ) : Type 0 where
  pub arguments : UseFirst (length numbers) e.arguments
  pub names : AreNamesBelow (length numbers) e.names

-- These are the arguments of an equation with each variable x as the variable g x, and their terms.
-- The first pattern is argument i.
abbrev pub AreRenamed : (ℕ → ℕ) → List Name → ℕ → Patterns → Forest → List Argument → Type 0
AreRenamed g names i no_pattern no_tree [] = Unit {0}
AreRenamed g names i (more_patterns p ps) (more_trees t ts) (a ∷ arguments) =
    (pattern_of a ≡ renamed g p) × (part_names_of a ≡ names_at i (names_renamed g names))
    × (a.term.now ≡ t) × AreRenamed g names (i + 1) ps ts arguments
AreRenamed g names i _ _ _ = ⊥
