-- The claim that a claim of the code means. Only clauses of private functions and the definition of
-- what a renderer keeps cite this.
use Rattle.std.specs.Prelude.{List, [], ◌∷◌, map, Option, Some, None}
use Rattle.mm_render.specs.declared.claims.Claim as code
use Rattle.mm_render.specs.declared.claims.Stated as numbered
use Rattle.mm_claims.specs.Blocks.{Claim, Stated}
use Rattle.mm_render.specs.VariablesView.{plain_variables}

abbrev pub plain_claim : code.Claim → Claim
plain_claim s = record {
  variables = plain_variables s.variables.items;
  hypotheses = s.hypotheses.items;
  conclusion = s.conclusion;
}

-- with the number of its label
abbrev pub plain_stated : numbered.Stated → Stated
plain_stated s = record { number = s.number; claim = plain_claim s.claim }

abbrev pub plain_stated_all : List numbered.Stated → List Stated
plain_stated_all ss = map plain_stated ss

-- the last of a run, if there is one
abbrev pub last_of : Option numbered.Stated → List Stated
last_of None = []
last_of (Some s) = plain_stated s ∷ []
