use Rattle.kore_ast.specs.Plain.{plain_sort}
use Rattle.kore_ast.specs.Reading.{left}
use Rattle.kore_ast.proofs.PlainLaws.{plain-pattern-SetVar}
use Rattle.kore_ast.proofs.Patterns.{set-read}
use Rattle.kore_ast.proofs.reader.Reader.set_variable.Goals as goal

pub returns-clause-exact : goal.returns-clause-exact
returns-clause-exact c =
    let e = c.in_ok-at.ensures in
    rw (plain-pattern-SetVar c.in_ok-at.at c.in_ok-at.name c.in_ok-sort.sort)
    (set-read c.in_ok-at.at c.in_ok-at.name (plain_sort c.in_ok-sort.sort) (left c.args.self.now)
    (left c.set_name.new.self) (left c.pass.new.self) (left c.sort.new.self)
    c.requires e.read.0 e.read.1 e.rest c.pass.ensures.rest c.in_ok-sort.ensures.exact)
