use Rattle.std.proofs.Common.{map}
use Rattle.kore_ast.specs.Plain.{plain_sort}
use Rattle.kore_ast.specs.Reading.{left}
use Rattle.kore_ast.proofs.Declared.{signature-read}
use Rattle.kore_ast.proofs.reader.Reader.signature.Goals as goal

pub returns-clause-exact : goal.returns-clause-exact
returns-clause-exact c =
    signature-read (map plain_sort c.in_ok-args.args.items) (plain_sort c.in_ok-result.result)
    (left c.args.self.now) (left c.pass.new.self) (left c.sorts.new.self)
    (left c.pass-2.new.self) (left c.sort.new.self) c.pass.ensures.rest c.in_ok-args.ensures.exact
    c.pass-2.ensures.rest c.in_ok-result.ensures.exact
