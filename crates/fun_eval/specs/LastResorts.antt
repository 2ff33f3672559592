-- Functions that have an equation of the last resort.
use Rattle.std.specs.Prelude.{Bool, List, is_some}
use Rattle.std.specs.List.{list_any}
use Rattle.rule_core.specs.Rules.{Equation}
use Rattle.rule_core.specs.declared.rules.Equation as code

-- whether one of the equations is of the last resort
abbrev pub has_last_resort : List Equation → Bool
has_last_resort es = list_any (λ (e : Equation). is_some e.last_resort) es

-- whether an equation of the code is
abbrev pub is_last_resort : code.Equation → Bool
is_last_resort e = is_some e.owise
