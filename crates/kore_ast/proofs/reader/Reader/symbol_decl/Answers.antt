use Rattle.std.proofs.Common.{map}
use Rattle.kore_ast.specs.Plain.{plain_sort, pattern_tree}
use Rattle.kore_ast.specs.Reading.{left}
use Rattle.kore_ast.proofs.Declared.{symbol-read}
use Rattle.kore_ast.proofs.reader.Reader.symbol_decl.Goals as goal

pub returns-clause-exact : goal.returns-clause-exact
returns-clause-exact c =
    symbol-read c.args.hooked c.pass-at.result c.in_ok-name.name c.in_ok-params.params.items
    (map plain_sort c.in_ok-args.args.items) (plain_sort c.in_ok-args.result)
    (map pattern_tree c.in_ok-attrs.attrs.items) (left c.args.self.now)
    (left c.pass-at.new.self) (left c.name.new.self) (left c.params.new.self)
    (left c.signature.new.self) (left c.attributes.new.self)
    c.requires c.pass-at.ensures.at c.pass-at.ensures.rest
    c.in_ok-name.ensures.read.1 c.in_ok-name.ensures.rest c.in_ok-params.ensures.exact
    c.in_ok-args.ensures.exact c.in_ok-attrs.ensures.exact
