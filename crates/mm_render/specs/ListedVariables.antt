-- The variables that a list has. Only clauses of private functions cite this.
use Rattle.std.specs.Prelude.{List}
use Rattle.mm_render.specs.declared.variables.VariableList.{VariableList}
use Rattle.mm_claims.specs.Variables.{Variable}
use Rattle.mm_render.specs.VariablesView.{plain_variables}

abbrev pub listed : VariableList → List Variable
listed list = plain_variables list.all.items
