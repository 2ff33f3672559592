-- How kompile writes the equations of functions: `\equals{S,R}(f{}(..),d)`, alone or after a guard
-- in `\implies{R}(g,..)`.
use Rattle.std.specs.Prelude.{ℕ, List, [], ◌∷◌, if◌then◌else◌, Option, Some, None, option_map}
use Rattle.std.specs.Option.{option_and_then}
use Rattle.kore_text.specs.Trees.{SortTree, listed_sorts, PatternTree, symbol_applied, connected}
use Rattle.kore_text.specs.Trees.{listed_patterns}
use Rattle.kore_text.specs.declared.names.Op.{Op}
use Rattle.kore_text.specs.declared.names.Op.TheVariants.{Implies, Equals}
use Rattle.kore_shapes.specs.SameSorts.{same_sort}

-- `\equals{S,R}(f{}(..),d)`, with the guard before it if there is one
pub record StatedEquation : Type 0 where
  pub guard : Option PatternTree
  pub sort : SortTree
  pub over : SortTree
  pub function : List ℕ
  pub arguments : List PatternTree
  pub value : PatternTree

-- `f{}(..)`: the symbol and its arguments
abbrev pub stated_call : List ℕ → List SortTree → List PatternTree
    → Option (List ℕ × List PatternTree)
stated_call f [] ps = Some (f, ps)
stated_call f (s ∷ ss) ps = None

abbrev pub symbol_called : PatternTree → Option (List ℕ × List PatternTree)
symbol_called (symbol_applied at f ss ps) = stated_call f (listed_sorts ss) (listed_patterns ps)
symbol_called p = None

-- the equality of a call and this value
abbrev pub equality_of_call : SortTree → SortTree → PatternTree → List ℕ × List PatternTree
    → StatedEquation
equality_of_call s r d call =
    record { guard = None; sort = s; over = r; function = call.0; arguments = call.1; value = d }

abbrev pub equality_with : Op → List SortTree → List PatternTree → Option StatedEquation
equality_with Equals (s ∷ (r ∷ [])) (l ∷ (d ∷ [])) =
    option_map (equality_of_call s r d) (symbol_called l)
equality_with op ss ps = None

abbrev pub equality : PatternTree → Option StatedEquation
equality (connected at op ss ps) = equality_with op (listed_sorts ss) (listed_patterns ps)
equality p = None

-- the statement under this guard; none if its sort R is another one than the guard's
abbrev pub guarded : SortTree → PatternTree → StatedEquation → Option StatedEquation
guarded r g e = if same_sort r e.over then Some (record e { guard = Some g }) else None

abbrev pub statement_with : Op → List SortTree → List PatternTree → Option StatedEquation
statement_with Implies (r ∷ []) (g ∷ (e ∷ [])) = option_and_then (guarded r g) (equality e)
statement_with op ss ps = equality_with op ss ps

abbrev pub stated_equation : PatternTree → Option StatedEquation
stated_equation (connected at op ss ps) = statement_with op (listed_sorts ss) (listed_patterns ps)
stated_equation p = None
