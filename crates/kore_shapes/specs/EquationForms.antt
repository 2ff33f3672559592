-- The two forms of equations. In kompile's form the left side is the function at variables X0, X1,
-- .., and the guard says that each of them is a member of a pattern. In the direct form the left
-- side is the function at the patterns.
use Rattle.std.specs.Prelude.{ℕ, List, [], ◌∷◌, Bool, true, false, ◌&&◌, ◌||◌, not, if◌then◌else◌}
use Rattle.std.specs.Prelude.{Option, Some, None, option_map}
use Rattle.std.specs.List.{list_any}
use Rattle.std.specs.Option.{option_and_then}
use Rattle.kore_text.specs.Trees.{SortTree, listed_sorts, PatternTree, element_variable}
use Rattle.kore_text.specs.Trees.{symbol_applied, connected, binder_applied, folded, PatternTrees}
use Rattle.kore_text.specs.Trees.{no_patterns, pattern_then, listed_patterns}
use Rattle.kore_text.specs.declared.names.Op.{Op}
use Rattle.kore_text.specs.declared.names.Op.TheVariants.{Top, And, Member}
use Rattle.kore_shapes.specs.SameSorts.{same_sort, is_variable}
use Rattle.kore_shapes.specs.Statements.{StatedEquation}

-- the pattern is `\top{S}()`
abbrev pub top_with : SortTree → Op → List SortTree → List PatternTree → Bool
top_with s Top (t ∷ []) [] = same_sort s t
top_with s op ts ps = false

abbrev pub is_top_of : SortTree → PatternTree → Bool
is_top_of s (connected at op ts ps) = top_with s op (listed_sorts ts) (listed_patterns ps)
is_top_of s p = false

-- the two patterns of `\and{S}(p,q)`; none of any other pattern
abbrev pub conjuncts_with : SortTree → Op → List SortTree → List PatternTree
    → Option (PatternTree × PatternTree)
conjuncts_with s And (t ∷ []) (p ∷ (q ∷ [])) = if same_sort s t then Some (p, q) else None
conjuncts_with s op ts ps = None

abbrev pub conjuncts : SortTree → PatternTree → Option (PatternTree × PatternTree)
conjuncts s (connected at op ts ps) = conjuncts_with s op (listed_sorts ts) (listed_patterns ps)
conjuncts s p = None

-- ---- the right side

-- The right side of `d`: it is r if `d` is `\and{S}(r,\top{S}())`, else `d` itself.
abbrev pub beside_top : SortTree → PatternTree → Option (PatternTree × PatternTree) → PatternTree
beside_top s d None = d
beside_top s d (Some both) = if is_top_of s both.1 then both.0 else d

abbrev pub right_side : SortTree → PatternTree → PatternTree
right_side s d = beside_top s d (conjuncts s d)

-- ---- the guard of kompile's form

-- both patterns are the same element variable, and it has this sort
abbrev pub is_member : SortTree → PatternTree → PatternTree → Bool
is_member s (element_variable at n t) q = same_sort s t && is_variable n t q
is_member s p q = false

-- the pattern p of `\in{S,R}(X,p)`, for this variable X; none of any other pattern
abbrev pub member_with : SortTree → PatternTree → Op → List SortTree → List PatternTree
    → Option PatternTree
member_with r x Member (s ∷ (t ∷ [])) (y ∷ (p ∷ [])) =
    if same_sort r t && is_member s x y then Some p else None
member_with r x op ss ps = None

abbrev pub member_pattern : SortTree → PatternTree → PatternTree → Option PatternTree
member_pattern r x (connected at op ss ps) =
    member_with r x op (listed_sorts ss) (listed_patterns ps)
member_pattern r x p = None

-- the pattern p and the rest G of `\and{R}(\in{S,R}(X,p),G)`, for this variable X; none of any
-- other pattern
abbrev pub entry : SortTree → PatternTree → PatternTree → Option (PatternTree × PatternTree)
entry r x g =
    option_and_then
    (λ (both : PatternTree × PatternTree). option_map (λ (p : PatternTree). (p, both.1))
    (member_pattern r x both.0)) (conjuncts r g)

-- The patterns p0, p1, .. of `\and{R}(\in{S0,R}(X0,p0),\and{R}(\in{S1,R}(X1,p1),..\top{R}()))`, for
-- these variables X0, X1, ... There are none if the guard has another form.
abbrev pub members : SortTree → List PatternTree → PatternTree → Option (List PatternTree)
members r [] g = if is_top_of r g then Some [] else None
members r (x ∷ xs) g =
    option_and_then
    (λ (e : PatternTree × PatternTree). option_map (λ (ps : List PatternTree). e.0 ∷ ps)
    (members r xs e.1)) (entry r x g)

-- an element variable of this name and sort occurs in the pattern, or (`have_variable`) in one of
-- the patterns
abbrev mutual
  pub has_variable : List ℕ → SortTree → PatternTree → Bool
  has_variable name s (element_variable at n t) = is_variable name s (element_variable at n t)
  has_variable name s (symbol_applied at n ss ps) = have_variable name s ps
  has_variable name s (connected at op ss ps) = have_variable name s ps
  has_variable name s (binder_applied at b ss x p) = has_variable name s x || has_variable name s p
  has_variable name s (folded at left p) = has_variable name s p
  has_variable name s p = false

  pub have_variable : List ℕ → SortTree → PatternTrees → Bool
  have_variable name s no_patterns = false
  have_variable name s (pattern_then p ps) = has_variable name s p || have_variable name s ps

-- the first pattern is an element variable that occurs in none of the others
abbrev pub stands_alone : PatternTree → List PatternTree → Bool
stands_alone (element_variable at n s) others = not (list_any (has_variable n s) others)
stands_alone p others = false

-- the first patterns are element variables; each of them occurs neither in those after it nor in
-- the others
abbrev pub occur_nowhere_else : List PatternTree → List PatternTree → Bool
occur_nowhere_else [] others = true
occur_nowhere_else (x ∷ xs) others =
    (stands_alone x xs && stands_alone x others) && occur_nowhere_else xs others

-- ---- the parts

-- What an equation states: the variables of its left side if it has kompile's form, else none; the
-- patterns that the function's arguments match; its condition, if one is written; its right side.
pub record EquationParts : Type 0 where
  pub parameters : List PatternTree
  pub patterns : List PatternTree
  pub condition : Option PatternTree
  pub right : PatternTree

-- the direct form: the guard, if there is one, is the condition
abbrev pub direct_parts : StatedEquation → Option PatternTree → EquationParts
direct_parts e c = record {
  parameters = [];
  patterns = e.arguments;
  condition = c;
  right = right_side e.sort e.value;
}

-- kompile's form with the condition `c` and these patterns; none if a variable of its left side
-- occurs anywhere else
abbrev pub kompiled : StatedEquation → PatternTree → List PatternTree → Option EquationParts
kompiled e c ps =
    if occur_nowhere_else e.arguments (c ∷ (e.value ∷ ps))
    then Some (record {
      parameters = e.arguments;
      patterns = ps;
      condition = Some c;
      right = right_side e.sort e.value;
    })
    else None

-- The parts of an equation under this guard. Under `\and{R}(c,G)` the equation can only have
-- kompile's form, with the condition c. If the function has no arguments, G has to be `\top{R}()`.
-- Any guard that is no `\and{R}` of two patterns is itself the condition.
abbrev pub parts_under : StatedEquation → PatternTree → Option (PatternTree × PatternTree)
    → Option EquationParts
parts_under e g None = Some (direct_parts e (Some g))
parts_under e g (Some both) =
    option_and_then (kompiled e both.0) (members e.over e.arguments both.1)

-- the parts of an equation; none if it has neither form
abbrev pub parts_with : StatedEquation → Option PatternTree → Option EquationParts
parts_with e None = Some (direct_parts e None)
parts_with e (Some g) = parts_under e g (conjuncts e.over g)

abbrev pub equation_parts : StatedEquation → Option EquationParts
equation_parts e = parts_with e e.guard
