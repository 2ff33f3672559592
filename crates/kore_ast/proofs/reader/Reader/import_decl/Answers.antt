use Rattle.std.proofs.Common.{map}
use Rattle.kore_ast.specs.Plain.{pattern_tree}
use Rattle.kore_ast.specs.Reading.{left}
use Rattle.kore_ast.proofs.Declared.{import-read}
use Rattle.kore_ast.proofs.reader.Reader.import_decl.Goals as goal

pub returns-clause-exact : goal.returns-clause-exact
returns-clause-exact c =
    import-read c.pass-at.result c.in_ok-name.name (map pattern_tree c.in_ok-attrs.attrs.items)
    (left c.args.self.now) (left c.pass-at.new.self) (left c.name.new.self)
    (left c.attributes.new.self) c.requires c.pass-at.ensures.at c.pass-at.ensures.rest
    c.in_ok-name.ensures.read.1 c.in_ok-name.ensures.rest c.in_ok-attrs.ensures.exact
