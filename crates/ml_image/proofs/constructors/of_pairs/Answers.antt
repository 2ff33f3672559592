use Rattle.std.proofs.Common.{◌≡◌, Some, ap, sym, ◌∙◌}
use Rattle.ml_pat.specs.Patterns.{Pattern}
use Rattle.ml_image.specs.Sentences.{symbol, sentence_image}
use Rattle.ml_image.specs.Counted.{at_pairs}
use Rattle.ml_image.specs.Closing.{of_pairs}
use Rattle.ml_image.proofs.ImageLaws.{if_ok}
use Rattle.ml_image.proofs.ClosingLaws.{pairs_image}
use Rattle.ml_image.proofs.constructors.of_pairs.Goals as goal

pub returns-clause-image : goal.returns-clause-image
returns-clause-image c =
    if_ok _ (λ p. sentence_image c.args.sig.now c.head_image.new.names
    (of_pairs c.args.symbol.0 c.args.count) ≡ Some p) c.at_pairs.result
    (λ (p : Pattern) (made : p ≡ at_pairs c.in_ok-head.head 0 c.args.count c.args.count).
    pairs_image c.args.sig.now c.head_image.new.names c.args.count 0 c.args.count
    (symbol c.args.symbol.0) c.in_ok-head.head c.in_ok-head.ensures.image
    ∙ ap (λ (q : Pattern). Some q) (sym made)) c.at_pairs.ensures
