use Rattle.std.proofs.Common.{◌≡◌, Some, ap, ◌∙◌}
use Rattle.ml_pat.specs.Patterns as logic
use Rattle.ml_pat.specs.Patterns.{Pattern}
use Rattle.ml_image.specs.Sentences.{sentence_image}
use Rattle.ml_image.specs.Closing.{apart_body}
use Rattle.ml_image.proofs.ImageLaws.{gained_twice, if_ok}
use Rattle.ml_image.proofs.ConstructorLaws.{apart_image}
use Rattle.ml_image.proofs.constructors.difference.Goals as goal

pub returns-in_err-right-clause-names : goal.returns-in_err-right-clause-names
returns-in_err-right-clause-names c =
    gained_twice _ _ _ _ c.of_variables.ensures.names c.of_variables-2.ensures.names

pub returns-in_err-and-clause-names : goal.returns-in_err-and-clause-names
returns-in_err-and-clause-names c =
    gained_twice _ _ _ _ c.of_variables.ensures.names c.of_variables-2.ensures.names

pub returns-clause-image : goal.returns-clause-image
returns-clause-image c =
    if_ok (λ (p : Pattern). p ≡ logic.not c.in_ok-and.field-0)
    (λ (p : Pattern). sentence_image c.args.sig.now c.of_variables-2.new.names
    (apart_body c.args.first.0.0 c.args.first.1 c.args.second.0.0 c.args.second.1) ≡ Some p)
    c.not.result
    (λ p made. apart_image c.args.sig.now c.of_variables.new.names c.of_variables-2.new.names
    c.args.first.0.0 c.args.first.1 c.args.second.0.0 c.args.second.1 c.in_ok-left.left
    c.in_ok-right.right p c.of_variables-2.ensures.names c.in_ok-left.ensures.image
    c.in_ok-right.ensures.image (made ∙ ap logic.not c.in_ok-and.ensures)) c.not.ensures

pub returns-clause-names : goal.returns-clause-names
returns-clause-names c =
    gained_twice _ _ _ _ c.of_variables.ensures.names c.of_variables-2.ensures.names
