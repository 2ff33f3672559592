use Rattle.std.proofs.Common.{map}
use Rattle.kore_ast.specs.Plain.{pattern_tree, plain_module}
use Rattle.kore_ast.specs.Reading.{left, size}
use Rattle.kore_ast.proofs.Declared.{Defined}
use Rattle.kore_ast.proofs.reader.Reader.definition.Given as goal

abbrev pub invariant-loop-self : goal.invariant-loop-self
invariant-loop-self l =
    Defined (map pattern_tree l.attrs.items) (map plain_module l.modules.items) (left l.fn.self)
    (left l.self)

abbrev pub decreases-loop-self : goal.decreases-loop-self
decreases-loop-self l = size l.self
