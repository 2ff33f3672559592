use Rattle.std.proofs.Common.{◌≡◌, Some, ap, ◌∙◌}
use Rattle.ml_pat.specs.Patterns as logic
use Rattle.ml_pat.specs.Patterns.{Pattern}
use Rattle.ml_image.specs.Sentences.{sentence_image}
use Rattle.ml_image.specs.Closing.{free_body}
use Rattle.ml_image.proofs.ImageLaws.{gained_twice, if_ok}
use Rattle.ml_image.proofs.ConstructorLaws.{free_image}
use Rattle.ml_image.proofs.constructors.freedom.Goals as goal

pub returns-in_err-second-clause-names : goal.returns-in_err-second-clause-names
returns-in_err-second-clause-names c =
    gained_twice _ _ _ _ c.of_variables.ensures.names c.of_variables-2.ensures.names

pub returns-in_err-joined-clause-names : goal.returns-in_err-joined-clause-names
returns-in_err-joined-clause-names c =
    gained_twice _ _ _ _ c.of_variables.ensures.names
    (gained_twice _ _ _ _ c.of_variables-2.ensures.names c.of_pairs.ensures.names)

pub returns-in_err-and-clause-names : goal.returns-in_err-and-clause-names
returns-in_err-and-clause-names c =
    gained_twice _ _ _ _ c.of_variables.ensures.names
    (gained_twice _ _ _ _ c.of_variables-2.ensures.names c.of_pairs.ensures.names)

pub returns-clause-image : goal.returns-clause-image
returns-clause-image c =
    if_ok (λ (p : Pattern). p ≡ logic.imp c.in_ok-and.field-0 c.in_ok-joined.joined)
    (λ (p : Pattern). sentence_image c.args.sig.now c.of_pairs.new.names
    (free_body c.args.symbol.0 c.args.count) ≡ Some p) c.imp.result
    (λ p made. free_image c.args.sig.now c.of_variables.new.names c.of_variables-2.new.names
    c.of_pairs.new.names c.args.symbol.0 c.args.count c.in_ok-first.first c.in_ok-second.second
    c.in_ok-joined.joined p c.of_variables-2.ensures.names c.of_pairs.ensures.names
    c.in_ok-first.ensures.image c.in_ok-second.ensures.image c.in_ok-joined.ensures.image
    (made ∙ ap (λ (q : Pattern). logic.imp q c.in_ok-joined.joined) c.in_ok-and.ensures))
    c.imp.ensures

pub returns-clause-names : goal.returns-clause-names
returns-clause-names c =
    gained_twice _ _ _ _ c.of_variables.ensures.names
    (gained_twice _ _ _ _ c.of_variables-2.ensures.names c.of_pairs.ensures.names)
