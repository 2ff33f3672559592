use Rattle.std.proofs.Common.{map}
use Rattle.kore_ast.specs.Plain.{pattern_tree, plain_declaration}
use Rattle.kore_ast.specs.Reading.{left}
use Rattle.kore_ast.proofs.Declared.{module-read}
use Rattle.kore_ast.proofs.reader.Reader.module.Goals as goal

pub returns-clause-exact : goal.returns-clause-exact
returns-clause-exact c =
    module-read c.pass-at.result c.in_ok-name.name (map plain_declaration c.in_ok-decls.decls.items)
    (map pattern_tree c.in_ok-attrs.attrs.items)
    (left c.args.self.now) (left c.pass-at.new.self) (left c.name.new.self) (left c.body.new.self)
    (left c.attributes.new.self)
    c.pass-at.ensures.at c.pass-at.ensures.rest c.in_ok-name.ensures.read.1
    c.in_ok-name.ensures.rest c.in_ok-decls.ensures.exact c.in_ok-attrs.ensures.exact
