use Rattle.pattern_reader.proofs.TokenLaws.{number-given}
use Rattle.pattern_reader.proofs.Keeping.{gains-number}
use Rattle.pattern_reader.proofs.words.name.Goals as goal

pub returns-clause-number : goal.returns-clause-number
returns-clause-number c =
    number-given c.args.names.now c.number.new.self c.in-Ok.text.now c.args.token.now
    c.number.result
    c.in-Ok.ensures.cases.0 c.number.ensures.number

pub returns-clause-gained : goal.returns-clause-gained
returns-clause-gained c =
    gains-number c.args.names.now c.number.new.self c.in-Ok.text.now c.args.token.now
    c.number.result
    c.requires.front c.in-Ok.ensures.cases.0 c.number.ensures.number c.number.ensures.err
