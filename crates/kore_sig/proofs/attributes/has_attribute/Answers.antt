use Rattle.std.proofs.Common.{sym, ap, ◌∙◌, map}
use Rattle.std.specs.Borrow.{Bor}
use Rattle.std.specs.Prelude.{is_some}
use Rattle.kore_ast.specs.declared.tree.Pat.{Pat}
use Rattle.kore_ast.specs.Plain.{pattern_tree}
use Rattle.kore_sig.specs.Attributes.{is_attribute_named}
use Rattle.kore_sig.proofs.ListLaws.{is_some-map, is_some-find}
use Rattle.kore_sig.proofs.attributes.has_attribute.Goals as goal

pub returns : goal.returns
returns c =
    c.is_some.ensures
    ∙ sym (is_some-map (λ (p : Bor Pat). pattern_tree p.now) c.first_of_name.result)
    ∙ ap is_some c.first_of_name.ensures
    ∙ is_some-find (is_attribute_named c.args.name.now) (map pattern_tree c.args.attrs.now)
