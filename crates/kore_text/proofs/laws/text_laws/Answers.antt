use Rattle.kore_text.proofs.Unique.{definition-unique, pattern-unique}
use Rattle.kore_text.proofs.Faultless.{definition-faultless, pattern-faultless}
use Rattle.kore_text.proofs.Named.{tokens-few}
use Rattle.kore_text.proofs.laws.text_laws.Goals as goal

pub returns-clause-definition : goal.returns-clause-definition
returns-clause-definition c = definition-faultless

pub returns-clause-pattern : goal.returns-clause-pattern
returns-clause-pattern c = pattern-faultless

pub returns-clause-few : goal.returns-clause-few
returns-clause-few c = tokens-few c.token_laws.ensures.few

pub returns-clause-one_definition : goal.returns-clause-one_definition
returns-clause-one_definition c = definition-unique

pub returns-clause-one_pattern : goal.returns-clause-one_pattern
returns-clause-one_pattern c = pattern-unique
