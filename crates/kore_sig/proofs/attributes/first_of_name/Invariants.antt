use Rattle.std.proofs.Common.{◌≡◌, map, drop}
use Rattle.kore_ast.specs.Plain.{pattern_tree}
use Rattle.kore_sig.specs.Attributes.{first_of_name}
use Rattle.kore_sig.proofs.attributes.first_of_name.Given as goal

abbrev pub invariant-loop-attr : goal.invariant-loop-attr
invariant-loop-attr l = first_of_name l.name (map pattern_tree (drop l.attr-index l.attrs))
    ≡ first_of_name l.name (map pattern_tree l.attrs)
