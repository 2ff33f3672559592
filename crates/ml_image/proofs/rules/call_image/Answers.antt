use Rattle.std.proofs.Common.{◌≡◌, ◌+◌, Some, List, IfOk, ap, ◌∙◌, subst}
use Rattle.term_core.specs.PatternLists.{plain_patterns}
use Rattle.term_core.specs.declared.rule_patterns.RulePat.{RulePat}
use Rattle.rule_core.specs.NamedParts.{Name}
use Rattle.rule_core.specs.ProgramView.{names_of}
use Rattle.ml_image.specs.PartNames.{part_names, sides_renamed}
use Rattle.ml_image.specs.Sentences.{Sentence, sentence_image}
use Rattle.ml_image.proofs.NamedLaws.{from_zero, sides-kept}
use Rattle.ml_image.proofs.rules.call_image.Goals as goal

pub returns-clause-image : goal.returns-clause-image
returns-clause-image c =
    let parts : part_names c.deref-3.result.now ≡ names_of c.args.equation.now.named.items =
    ap part_names c.deref-3.ensures.value ∙ c.in_ok-parts.ensures
    ∙ ap names_of c.deref.ensures.value in
    let same : sides_renamed (λ x. 0 + x) (part_names c.deref-3.result.now)
    c.args.equation.now.fun.0
    (plain_patterns c.deref-2.result.now) ≡ _ =
    ap (λ (ns : List Name).
    sides_renamed (λ x. 0 + x) ns c.args.equation.now.fun.0 (plain_patterns c.deref-2.result.now))
    parts
    ∙ ap (λ (ps : List RulePat). sides_renamed (λ x. 0 + x) (names_of
    c.args.equation.now.named.items)
    c.args.equation.now.fun.0 (plain_patterns ps)) c.deref-2.ensures.value
    ∙ sides-kept (λ x. 0 + x) from_zero (names_of c.args.equation.now.named.items)
    c.args.equation.now.fun.0
    (plain_patterns c.args.equation.now.args.items) in
    subst (λ (s : Sentence). IfOk c.sides_image.result
    (λ p. sentence_image c.args.sig.now c.sides_image.new.names s ≡ Some p)) same
    c.sides_image.ensures.image
