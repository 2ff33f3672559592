use Rattle.ml_image.proofs.WellSortedLaws.{constructor_has_totality, equation_has_image}
use Rattle.ml_image.proofs.WellSortedLaws.{rule_has_image, sorted_has_image}
use Rattle.ml_image.proofs.laws.condition_laws.Goals as goal

pub returns-clause-pattern : goal.returns-clause-pattern
returns-clause-pattern a = sorted_has_image

pub returns-clause-rule : goal.returns-clause-rule
returns-clause-rule a = rule_has_image

pub returns-clause-equation : goal.returns-clause-equation
returns-clause-equation a = equation_has_image

pub returns-clause-constructor : goal.returns-clause-constructor
returns-clause-constructor a = constructor_has_totality
