use Rattle.std.proofs.Common.{◌≡◌, Some, ap, sym, ◌∙◌}
use Rattle.ml_pat.specs.Patterns.{Pattern}
use Rattle.ml_image.specs.Sentences.{symbol, sentence_image}
use Rattle.ml_image.specs.OwnAxioms.{of_variables}
use Rattle.ml_image.specs.Counted.{at_variables}
use Rattle.ml_image.proofs.ImageLaws.{if_ok}
use Rattle.ml_image.proofs.ClosingLaws.{variables_image}
use Rattle.ml_image.proofs.constructors.of_variables.Goals as goal

pub returns-clause-image : goal.returns-clause-image
returns-clause-image c =
    if_ok _ (λ p. sentence_image c.args.sig.now c.head_image.new.names
    (of_variables c.args.symbol.0 c.args.first c.args.count) ≡ Some p)
    c.at_variables.result
    (λ (p : Pattern) (made : p ≡ at_variables c.in_ok-head.head c.args.first c.args.count).
    variables_image
    c.args.sig.now c.head_image.new.names c.args.count c.args.first
    (symbol c.args.symbol.0) c.in_ok-head.head c.in_ok-head.ensures.image
    ∙ ap (λ (q : Pattern). Some q) (sym made)) c.at_variables.ensures
