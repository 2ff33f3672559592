use Rattle.std.proofs.Common.{◌≡◌, ◌+◌, Some, List, IfOk, ap, sym, ◌∙◌, subst}
use Rattle.term_core.specs.RulePatterns.{plain_pattern}
use Rattle.rule_core.specs.NamedParts.{Name}
use Rattle.rule_core.specs.ProgramView.{names_of}
use Rattle.ml_image.specs.HasImages.{AreNamesBelow}
use Rattle.ml_image.specs.NamedSides.{of_child}
use Rattle.ml_image.specs.PartNames.{part_names, left_renamed}
use Rattle.ml_image.specs.Sentences.{Sentence, sentence_image}
use Rattle.ml_image.proofs.NamedLaws.{from_zero, left-kept, of_child-below}
use Rattle.ml_image.proofs.rules.left_side_image.Goals as goal
use Rattle.ml_image.proofs.rules.left_side_image.Goals.{After-deref-3}

parts_are : (c : After-deref-3)
    → part_names c.deref-3.result.now ≡ of_child 0 (names_of c.args.rule.now.named.items)
parts_are c =
    ap part_names c.deref-3.ensures.value ∙ c.in_ok-parts.ensures
    ∙ ap (of_child 0) (ap part_names c.deref-2.ensures.value ∙ c.in_ok-part_names.ensures
    ∙ ap names_of c.deref.ensures.value)

pub left_image-requires-clause-parts : goal.left_image-requires-clause-parts
left_image-requires-clause-parts c =
    subst (AreNamesBelow 4294967296)
    (sym (parts_are (goal.at.left_image-requires-clause-parts c).After-deref-3))
    (of_child-below 0 4294967296 (names_of c.args.rule.now.named.items) c.requires.names)

pub returns-clause-image : goal.returns-clause-image
returns-clause-image c =
    let parts : part_names c.deref-3.result.now ≡ of_child 0 (names_of c.args.rule.now.named.items)
    =
    parts_are (goal.at.returns-clause-image c).After-deref-3 in
    let same : left_renamed (λ x. 0 + x) (part_names c.deref-3.result.now) (plain_pattern
    c.args.rule.now.left)
    ≡ _ =
    ap (λ (ns : List Name). left_renamed (λ x. 0 + x) ns (plain_pattern c.args.rule.now.left)) parts
    ∙ left-kept (λ x. 0 + x) from_zero (of_child 0 (names_of c.args.rule.now.named.items))
    (plain_pattern c.args.rule.now.left) in
    subst (λ (s : Sentence). IfOk c.left_image.result
    (λ p. sentence_image c.args.sig.now c.left_image.new.names s ≡ Some p)) same
    c.left_image.ensures.image
