-- Variables added one by one, each once.
use Rattle.std.specs.Prelude.{List, ◌++◌}
use Rattle.mm_claims.specs.Variables.{Variable}
use Rattle.mm_claims.specs.ClaimVariables.{other_variables}

-- some variables, and after them the others that are not among them, each once
abbrev pub added : List Variable → List Variable → List Variable
added vs us = vs ++ other_variables vs us
