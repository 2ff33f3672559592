use Rattle.kore_ast.specs.Plain.{plain_sort}
use Rattle.kore_ast.specs.Reading.{left}
use Rattle.kore_ast.proofs.PlainLaws.{plain-pattern-Value}
use Rattle.kore_ast.proofs.Patterns.{value-read}
use Rattle.kore_ast.proofs.reader.Reader.domain_value.Goals as goal

pub returns-clause-exact : goal.returns-clause-exact
returns-clause-exact c =
    let e = c.in_ok-place.ensures in
    rw (plain-pattern-Value c.pass-at.result c.in_ok-sort.sort c.in_ok-place.text
    c.in_ok-place.place)
    (value-read c.pass-at.result c.in_ok-place.place c.in_ok-place.text
    (plain_sort c.in_ok-sort.sort) (left c.args.self.now) (left c.pass-at.new.self)
    (left c.pass.new.self)
    (left c.sort.new.self) (left c.pass-2.new.self) (left c.pass-3.new.self)
    (left c.string.new.self) (left c.pass-4.new.self)
    c.requires c.pass-at.ensures.at c.pass-at.ensures.rest c.pass.ensures.rest
    c.in_ok-sort.ensures.exact c.pass-2.ensures.rest c.pass-3.ensures.rest
    e.read.0 e.read.1 e.rest c.pass-4.ensures.rest)
