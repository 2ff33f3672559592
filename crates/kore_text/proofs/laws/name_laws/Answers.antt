use Rattle.kore_text.proofs.Named.{names-are-identifiers, pattern-names-are-identifiers}
use Rattle.kore_text.proofs.laws.name_laws.Goals as goal

pub returns-clause-definition : goal.returns-clause-definition
returns-clause-definition c = names-are-identifiers c.token_laws.ensures.each

pub returns-clause-pattern : goal.returns-clause-pattern
returns-clause-pattern c = pattern-names-are-identifiers c.token_laws.ensures.each
