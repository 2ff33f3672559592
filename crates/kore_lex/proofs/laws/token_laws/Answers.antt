use Rattle.kore_lex.proofs.EachToken.{each-is-token, tokens-few}
use Rattle.kore_lex.proofs.Covering.{tokens-cover, no-token-at-fault}
use Rattle.kore_lex.proofs.laws.token_laws.Goals as goal

pub returns-clause-each : goal.returns-clause-each
returns-clause-each c = each-is-token

pub returns-clause-few : goal.returns-clause-few
returns-clause-few c = tokens-few

pub returns-clause-cover : goal.returns-clause-cover
returns-clause-cover c = tokens-cover

pub returns-clause-fault : goal.returns-clause-fault
returns-clause-fault c = no-token-at-fault
