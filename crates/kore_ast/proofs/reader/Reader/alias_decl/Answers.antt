use Rattle.std.proofs.Common.{map}
use Rattle.kore_ast.specs.Plain.{plain_sort, pattern_tree}
use Rattle.kore_ast.specs.Reading.{left}
use Rattle.kore_ast.proofs.Declared.{alias-read}
use Rattle.kore_ast.proofs.reader.Reader.alias_decl.Goals as goal

pub returns-clause-exact : goal.returns-clause-exact
returns-clause-exact c =
    alias-read c.pass-at.result c.in_ok-name.name c.in_ok-params.params.items
    (map plain_sort c.in_ok-args.args.items) (plain_sort c.in_ok-args.result)
    c.in_ok-left_name.left_name (map plain_sort c.in_ok-left_sorts.left_sorts.items)
    (map pattern_tree c.in_ok-vars.vars.items) (pattern_tree c.in_ok-body.body)
    (map pattern_tree c.in_ok-attrs.attrs.items)
    (left c.args.self.now) (left c.pass-at.new.self) (left c.name.new.self) (left c.params.new.self)
    (left c.signature.new.self) (left c.pass.new.self)
    (left c.name-3.new.self) (left c.pass-2.new.self) (left c.sorts.new.self)
    (left c.pass-3.new.self) (left c.patterns.new.self) (left c.pass-4.new.self)
    (left c.pattern.new.self) (left c.attributes.new.self)
    c.requires c.pass-at.ensures.at c.pass-at.ensures.rest c.in_ok-name.ensures.read.1
    c.in_ok-name.ensures.rest c.in_ok-params.ensures.exact c.in_ok-args.ensures.exact
    c.pass.ensures.rest c.in_ok-left_name.ensures.read.1 c.in_ok-left_name.ensures.rest
    c.pass-2.ensures.rest c.in_ok-left_sorts.ensures.exact c.pass-3.ensures.rest
    c.in_ok-vars.ensures.exact c.pass-4.ensures.rest c.in_ok-body.ensures.exact
    c.in_ok-attrs.ensures.exact
