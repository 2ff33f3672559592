use Rattle.kore_ast.specs.Reading.{left}
use Rattle.kore_ast.proofs.PlainLaws.{plain-pattern-Text}
use Rattle.kore_ast.proofs.Patterns.{text-read}
use Rattle.kore_ast.proofs.reader.Reader.text.Goals as goal

pub returns-clause-exact : goal.returns-clause-exact
returns-clause-exact c =
    let e = c.in_ok-at.ensures in
    rw (plain-pattern-Text c.in_ok-at.at c.in_ok-at.text)
    (text-read c.in_ok-at.at c.in_ok-at.text (left c.args.self.now) (left c.string.new.self)
    c.requires e.read.0 e.read.1 e.rest)
