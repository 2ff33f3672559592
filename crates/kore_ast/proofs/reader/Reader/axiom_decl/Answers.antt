use Rattle.std.proofs.Common.{map}
use Rattle.kore_ast.specs.Plain.{pattern_tree}
use Rattle.kore_ast.specs.Reading.{left}
use Rattle.kore_ast.proofs.Declared.{stated-read}
use Rattle.kore_ast.proofs.reader.Reader.axiom_decl.Goals as goal

pub returns-clause-exact : goal.returns-clause-exact
returns-clause-exact c = λ word.
    stated-read word c.pass-at.result c.in_ok-params.params.items (pattern_tree c.in_ok-pat.pat)
    (map pattern_tree c.in_ok-attrs.attrs.items) (left c.args.self.now)
    (left c.pass-at.new.self) (left c.params.new.self) (left c.pattern.new.self)
    (left c.attributes.new.self) c.pass-at.ensures.at c.pass-at.ensures.rest
    c.in_ok-params.ensures.exact c.in_ok-pat.ensures.exact c.in_ok-attrs.ensures.exact
