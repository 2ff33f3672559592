use Rattle.std.proofs.Common.{◌≡◌, Some, IfOk, subst}
use Rattle.term_core.specs.Patterns.{Pattern as RulePattern}
use Rattle.term_core.specs.RulePatterns.{plain_pattern}
use Rattle.ml_image.specs.Images.{image_of}
use Rattle.ml_image.proofs.NamedLaws.{shifted-zero}
use Rattle.ml_image.proofs.images.term_image.Goals as goal

pub returns-clause-image : goal.returns-clause-image
returns-clause-image c =
    subst (λ (q : RulePattern).
    IfOk c.image.result (λ p. image_of c.args.sig.now c.image.new.names q ≡ Some p))
    (shifted-zero (plain_pattern c.args.pat.now)) c.image.ensures.image
