-- Equations of the last resort (`owise`), as kompile writes them. The guard is
-- `\and{R}(\not{R}(N),\and{R}(c,G))`. N is the disjunction of the guards of the function's other
-- equations, each under the quantifiers of its variables. So this equation is used if none of them
-- is. What comes after `\not{R}(N)` is the guard of kompile's form.
use Rattle.std.specs.Prelude.{List, [], ◌∷◌, ◌++◌, Bool, false, if◌then◌else◌, Option, Some}
use Rattle.std.specs.Prelude.{None, option_map}
use Rattle.std.specs.Option.{option_and_then}
use Rattle.kore_text.specs.Trees.{SortTree, listed_sorts, PatternTree, connected, binder_applied}
use Rattle.kore_text.specs.Trees.{PatternTrees, no_patterns, pattern_then, listed_patterns}
use Rattle.kore_text.specs.declared.names.Op.{Op}
use Rattle.kore_text.specs.declared.names.Op.TheVariants.{Not, Or, Bottom}
use Rattle.kore_text.specs.declared.names.Binder.{Binder}
use Rattle.kore_text.specs.declared.names.Binder.TheVariants.{Exists}
use Rattle.kore_shapes.specs.SameSorts.{same_sort}
use Rattle.kore_shapes.specs.Statements.{StatedEquation}
use Rattle.kore_shapes.specs.EquationForms.{conjuncts, members, EquationParts, kompiled}

-- the pattern p of `\not{S}(p)`; none of any other pattern
abbrev pub negated_with : SortTree → Op → List SortTree → List PatternTree → Option PatternTree
negated_with s Not (t ∷ []) (p ∷ []) = if same_sort s t then Some p else None
negated_with s op ts ps = None

abbrev pub negated : SortTree → PatternTree → Option PatternTree
negated s (connected at op ts ps) = negated_with s op (listed_sorts ts) (listed_patterns ps)
negated s p = None

-- ---- the disjunction

abbrev pub is_disjunction : SortTree → Op → List SortTree → Bool
is_disjunction s Or (t ∷ []) = same_sort s t
is_disjunction s op ts = false

abbrev pub is_bottom : SortTree → Op → List SortTree → List PatternTree → Bool
is_bottom s Bottom (t ∷ []) [] = same_sort s t
is_bottom s op ts ps = false

-- The operands of nested `\or{S}`, in order. `\bottom{S}()` has none, and any other pattern is one
-- itself.
abbrev mutual
  pub operands : SortTree → PatternTree → List PatternTree
  operands s (connected at op ts ps) =
      if is_disjunction s op (listed_sorts ts) then all_operands s ps
      else if is_bottom s op (listed_sorts ts) (listed_patterns ps) then []
      else connected at op ts ps ∷ []
  operands s p = p ∷ []

  pub all_operands : SortTree → PatternTrees → List PatternTree
  all_operands s no_patterns = []
  all_operands s (pattern_then p ps) = operands s p ++ all_operands s ps

-- ---- a guard of another equation

abbrev pub is_exists : SortTree → Binder → List SortTree → Bool
is_exists s Exists (t ∷ []) = same_sort s t
is_exists s b ts = false

-- the variables of nested `\exists{S}`, from the outermost on
abbrev pub quantified : SortTree → PatternTree → List PatternTree
quantified s (binder_applied at b ts x p) =
    if is_exists s b (listed_sorts ts) then x ∷ quantified s p else []
quantified s p = []

-- the pattern below them
abbrev pub unquantified : SortTree → PatternTree → PatternTree
unquantified s (binder_applied at b ts x p) =
    if is_exists s b (listed_sorts ts) then unquantified s p else binder_applied at b ts x p
unquantified s p = p

-- What a guard states: its variables in the order of the quantifiers, the condition of the equation
-- that it repeats, and the patterns of the arguments of that equation.
pub record GuardParts : Type 0 where
  pub variables : List PatternTree
  pub condition : PatternTree
  pub patterns : List PatternTree

-- The guard is `\and{R}(c,G)` under any number of `\exists{R}`, where G says of the variables X0,
-- X1, .. of the left side what they are members of. None of any other pattern.
abbrev pub guard_parts : SortTree → List PatternTree → PatternTree → Option GuardParts
guard_parts r xs p =
    option_and_then
    (λ (both : PatternTree × PatternTree).
    option_map (λ (ps : List PatternTree).
    record { variables = quantified r p; condition = both.0; patterns = ps })
    (members r xs both.1)) (conjuncts r (unquantified r p))

-- the parts of each guard; none if one of them has another form
abbrev pub all_guards : SortTree → List PatternTree → List PatternTree → Option (List GuardParts)
all_guards r xs [] = Some []
all_guards r xs (p ∷ ps) =
    option_and_then
    (λ (g : GuardParts). option_map (λ (gs : List GuardParts). g ∷ gs) (all_guards r xs ps))
    (guard_parts r xs p)

-- ---- the parts

-- What an equation of the last resort states: an equation in kompile's form, and when the other
-- equations of its function are used.
pub record LastResortParts : Type 0 where
  pub equation : EquationParts
  pub guards : List GuardParts

-- the guard after `\not{R}(N)` is that of kompile's form
abbrev pub kompiled_under : StatedEquation → PatternTree → Option EquationParts
kompiled_under e g =
    option_and_then
    (λ (both : PatternTree × PatternTree).
    option_and_then (kompiled e both.0) (members e.over e.arguments both.1)) (conjuncts e.over g)

abbrev pub resort_beside : StatedEquation → PatternTree → PatternTree → Option LastResortParts
resort_beside e n g =
    option_and_then
    (λ (gs : List GuardParts). option_map (λ (q : EquationParts).
    record { equation = q; guards = gs }) (kompiled_under e g))
    (all_guards e.over e.arguments (operands e.over n))

abbrev pub resort_under : StatedEquation → PatternTree → Option LastResortParts
resort_under e g =
    option_and_then
    (λ (both : PatternTree × PatternTree).
    option_and_then (λ (n : PatternTree). resort_beside e n both.1) (negated e.over both.0))
    (conjuncts e.over g)

-- The parts of an equation of the last resort. None of any other equation, and none if the function
-- has no arguments.
abbrev pub resort_with : StatedEquation → Option PatternTree → List PatternTree
    → Option LastResortParts
resort_with e (Some g) (x ∷ xs) = resort_under e g
resort_with e g xs = None

abbrev pub last_resort_parts : StatedEquation → Option LastResortParts
last_resort_parts e = resort_with e e.guard e.arguments
