-- Which equations are readable. An equation that is not readable closes its function. This is no
-- fault of the definition.
use Rattle.std.specs.Prelude.{◌≡◌, ◌==◌, ℕ, List, [], Bool, true, false, ◌&&◌, Option, Some, is_some}
use Rattle.std.specs.Prelude.{codes}
use Rattle.std.specs.List.{list_any}
use Rattle.std.specs.Str.{bytes_eq}
use Rattle.kore_text.specs.Trees.{SortTree, sort_parameter, sort_applied, AxiomDeclaration}
use Rattle.rule_core.specs.Sorting.{sort_at}
use Rattle.rule_core.specs.declared.signature.Signature.{Signature}
use Rattle.rule_core.specs.declared.signature.SymInfo.{SymInfo}
use Rattle.kore_sig.specs.Attributes.{has_attribute}
use Rattle.kore_sig.specs.SortReferences.{sort_number}
use Rattle.kore_check.specs.PatternFaults.{argument_faults}
use Rattle.kore_shapes.specs.Shapes.{Condition, given_condition}
use Rattle.kore_shapes.specs.Statements.{StatedEquation}
use Rattle.kore_shapes.specs.EquationForms.{EquationParts, equation_parts}
use Rattle.kore_axioms.specs.Conditions.{over_bool}
use Rattle.kore_axioms.specs.Priorities.{has_bad_priority}
use Rattle.kore_equations.specs.ReadableSides.{all_read, AreReadable, is_readable_right}

abbrev pub condition_of_equation : Signature → StatedEquation → EquationParts → Condition
condition_of_equation sig e q = over_bool sig (given_condition e.over q.condition)

-- an equation may be over this sort: a sort parameter of the axiom, or a declared sort
abbrev pub is_sort_over : Signature → List (List ℕ) → SortTree → Bool
is_sort_over sig params (sort_parameter at name) = list_any (bytes_eq name) params
is_sort_over sig params (sort_applied at name ss) =
    is_some (sort_number sig.sorts (sort_applied at name ss))

-- both sorts are declared, and they are the same
abbrev pub is_one_sort : Option ℕ → Option ℕ → Bool
is_one_sort (Some n) (Some m) = n == m
is_one_sort _ _ = false

-- the equation is over such a sort, and has its function's result sort
abbrev pub fits_function : Signature → AxiomDeclaration → SymInfo → StatedEquation → Bool
fits_function sig a info e =
    is_sort_over sig a.params e.over
    && is_one_sort (sort_number sig.sorts e.sort) (sort_at [] info.result)

-- The parts have no fault as those of an equation of the function with this declaration.
pub record HasReadableParts (sig : Signature) (a : AxiomDeclaration) (info : SymInfo)
    (e : StatedEquation) (q : EquationParts) : Type 0 where
  pub function : fits_function sig a info e ≡ true
  pub priority : has_bad_priority a.attributes ≡ false
  pub parameters : argument_faults sig [] info.args.items (all_read q.parameters) ≡ []
  pub sides : AreReadable sig info q.patterns (condition_of_equation sig e q)
  pub right : is_readable_right sig info q.patterns q.right ≡ true

-- The equation of the function with this declaration has one of the two forms, with these parts.
-- The parts have no fault, and the equation is no last resort (`owise`).
pub record IsReadable (sig : Signature) (a : AxiomDeclaration) (info : SymInfo) (e : StatedEquation)
    (q : EquationParts) : Type 0 where
  pub no_last_resort : has_attribute (codes "owise") a.attributes ≡ false
  pub form : equation_parts e ≡ Some q
  pub parts : HasReadableParts sig a info e q
