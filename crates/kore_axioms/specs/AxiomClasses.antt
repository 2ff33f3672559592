-- What an axiom is read as: the first class that fits. The axiom is in a module that counts: the
-- main module, or a module that it reaches by imports.
use Rattle.std.specs.Prelude.{ℕ, List, Bool, false, not, ◌||◌, ◌&&◌, Option, Some, None, is_none}
use Rattle.std.specs.Prelude.{is_some, if◌then◌else◌, codes}
use Rattle.std.specs.List.{list_any}
use Rattle.kore_text.specs.Trees.{PatternTree, AxiomDeclaration}
use Rattle.rule_core.specs.declared.signature.Signature.{Signature}
use Rattle.rule_core.specs.declared.signature.SymInfo.{SymInfo}
use Rattle.rule_core.specs.KindTests.{is_defined_kind}
use Rattle.kore_sig.specs.Attributes.{has_attribute, is_said_ac, subsort_sorts}
use Rattle.kore_check.specs.PatternSorts.{symbol_named}
use Rattle.kore_shapes.specs.Shapes.{Rewriting, rewriting}
use Rattle.kore_shapes.specs.Statements.{StatedEquation, stated_equation}

-- The classes: the axiom is refused with this number; it says that sorts are below others; it is a
-- rewrite rule; it is an equation of a function; or it is passed over.
pub data AxiomClass : Type 0 where
  refused : ℕ → AxiomClass
  orders_sorts : AxiomClass
  rewrites : Rewriting → AxiomClass
  equates : StatedEquation → AxiomClass
  passed_over : AxiomClass

-- the symbol is declared as a function without a hook and without sort parameters
abbrev pub takes_equations : Option SymInfo → Bool
takes_equations None = false
takes_equations (Some info) = is_defined_kind info.kind && is_none info.hook

-- an axiom with one of these attributes is no equation
abbrev pub is_no_equation : List PatternTree → Bool
is_no_equation attributes =
    has_attribute (codes "simplification") attributes || is_said_ac attributes

-- an equation of the function, if the function takes equations; any other axiom is passed over
abbrev pub class_of_statement : Signature → List PatternTree → Option StatedEquation → AxiomClass
class_of_statement sig attributes None = passed_over
class_of_statement sig attributes (Some e) =
    if not (is_no_equation attributes) && takes_equations (symbol_named sig e.function)
    then equates e else passed_over

abbrev pub class_of_pattern : Signature → AxiomDeclaration → Option Rewriting → AxiomClass
class_of_pattern sig a None = class_of_statement sig a.attributes (stated_equation a.pattern)
class_of_pattern sig a (Some w) = rewrites w

-- an attribute states that a sort is below another
abbrev pub states_pairs : List PatternTree → Bool
states_pairs attributes = list_any (λ (a : PatternTree). is_some (subsort_sorts a)) attributes

abbrev pub axiom_class : Signature → AxiomDeclaration → AxiomClass
axiom_class sig a =
    if has_attribute (codes "anywhere") a.attributes then refused 20
    else if has_attribute (codes "overload") a.attributes
    || has_attribute (codes "symbol-overload") a.attributes then refused 21
    else if states_pairs a.attributes then orders_sorts
    else class_of_pattern sig a (rewriting a.pattern)
