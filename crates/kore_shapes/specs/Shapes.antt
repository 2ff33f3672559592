-- The shape of rewrite rules as kompile writes them: `\rewrites{S}(A,B)`. A is the left side, alone
-- or with a condition in an `\and{S}`. B is the right side, alone or with a `\top{S}()` in an
-- `\and{S}`. A fold has none of these shapes.
use Rattle.std.specs.Prelude.{List, [], ◌∷◌, Bool, true, false, ◌&&◌, if◌then◌else◌, Option, Some}
use Rattle.std.specs.Prelude.{None, codes}
use Rattle.std.specs.Str.{bytes_eq}
use Rattle.kore_text.specs.Trees.{SortTree, listed_sorts, PatternTree, connected, value_written}
use Rattle.kore_text.specs.Trees.{listed_patterns}
use Rattle.kore_text.specs.declared.names.Op.{Op}
use Rattle.kore_text.specs.declared.names.Op.TheVariants.{Top, And, Rewrites, Equals}
use Rattle.kore_shapes.specs.SameSorts.{same_sort}

-- `\rewrites{S}(A,B)`
pub record Rewriting : Type 0 where
  pub sort : SortTree
  pub before : PatternTree
  pub after : PatternTree

abbrev pub rewriting_of : Op → List SortTree → List PatternTree → Option Rewriting
rewriting_of Rewrites (s ∷ []) (a ∷ (b ∷ [])) = Some (record { sort = s; before = a; after = b })
rewriting_of op ss ps = None

abbrev pub rewriting : PatternTree → Option Rewriting
rewriting (connected at op ss ps) = rewriting_of op (listed_sorts ss) (listed_patterns ps)
rewriting p = None

-- ---- the sides

-- What may be next to a side of a rule. A condition has `\top` or `\equals` at its head.
abbrev pub heads_condition : PatternTree → Bool
heads_condition (connected at Top ss ps) = true
heads_condition (connected at Equals ss ps) = true
heads_condition p = false

abbrev pub is_top : PatternTree → Bool
is_top (connected at Top ss ps) = true
is_top p = false

-- A side of a rule.
-- alone: a pattern that is no `\and`.
-- beside: the two patterns of an `\and{S}`, first the one that passes the test.
-- without: an `\and{S}` of two patterns, neither of which passes the test.
-- misshapen: an `\and` of another sort or of another number of patterns.
pub data Side : Type 0 where
  alone : PatternTree → Side
  beside : PatternTree → PatternTree → Side
  without : Side
  misshapen : Side

-- the side of two patterns: the first of them that passes the test, and the other
abbrev pub picked : (PatternTree → Bool) → PatternTree → PatternTree → Side
picked test p q = if test p then beside p q else (if test q then beside q p else without)

-- the side that an `\and` of these sorts and patterns is, by this test
abbrev pub joined_side : (PatternTree → Bool) → SortTree → List SortTree → List PatternTree → Side
joined_side test s (t ∷ []) (p ∷ (q ∷ [])) = if same_sort s t then picked test p q else misshapen
joined_side test s ts ps = misshapen

abbrev pub side : (PatternTree → Bool) → SortTree → PatternTree → Side
side test s (connected at And ts ps) = joined_side test s (listed_sorts ts) (listed_patterns ps)
side test s p = alone p

-- what is next to the main part of a side, if there is something; `main_part`: the side itself,
-- without it
abbrev pub found_part : Side → Option PatternTree
found_part (beside p q) = Some p
found_part _ = None

abbrev pub main_part : Side → Option PatternTree
main_part (alone p) = Some p
main_part (beside p q) = Some q
main_part _ = None

-- ---- conditions

-- A condition.
-- always: `\top{S}()`.
-- tests: `\equals{T,S}(b,\dv{T}("true"))`, with the sort T and the pattern b.
-- ill: any other pattern.
pub data Condition : Type 0 where
  always : Condition
  tests : SortTree → PatternTree → Condition
  ill : Condition

-- the pattern is `\dv{T}("true")`
abbrev pub is_true_of : SortTree → PatternTree → Bool
is_true_of t (value_written at s text place) = same_sort t s && bytes_eq text (codes "true")
is_true_of t p = false

-- the condition with this connective at its head; S is the sort of the `\and` or of the guard that
-- it is in
abbrev pub condition_with : SortTree → Op → List SortTree → List PatternTree → Condition
condition_with s Top (t ∷ []) [] = if same_sort s t then always else ill
condition_with s Equals (t ∷ (u ∷ [])) (b ∷ (v ∷ [])) =
    if same_sort s u && is_true_of t v then tests t b else ill
condition_with s op ts ps = ill

abbrev pub condition_of : SortTree → PatternTree → Condition
condition_of s (connected at op ts ps) = condition_with s op (listed_sorts ts) (listed_patterns ps)
condition_of s p = ill

-- the condition of an optional pattern; without a pattern it always holds
abbrev pub given_condition : SortTree → Option PatternTree → Condition
given_condition s None = always
given_condition s (Some p) = condition_of s p
