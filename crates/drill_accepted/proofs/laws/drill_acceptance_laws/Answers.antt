use Rattle.drill_accepted.proofs.DefinitionAccepted.{definition-accepted, definition-unrefused}
use Rattle.drill_accepted.proofs.TermAccepted.{term-accepted, term-unrefused}
use Rattle.drill_accepted.proofs.laws.drill_acceptance_laws.Goals as goal

pub returns : goal.returns
returns c =
    let first = c.signature_laws.ensures.first in
    let laws = c.acceptance_laws.ensures in
    let unrefused = definition-unrefused first laws.axioms laws.tree laws.spelled in
    let unrefused_term =
    term-unrefused laws.tree laws.tree_term laws.term laws.spelled_term in record {
      definition = definition-accepted unrefused laws.decided c.drill_laws.ensures.short;
      term = term-accepted unrefused_term laws.decided_term;
      unrefused = unrefused;
      unrefused_term = unrefused_term;
    }
