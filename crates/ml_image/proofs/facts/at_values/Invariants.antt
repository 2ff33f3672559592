use Rattle.std.proofs.Common.{◌≡◌, Some, take, map}
use Rattle.term_core.specs.RulePatterns.{sort_numbers}
use Rattle.term_core.specs.Values.{scalar_value}
use Rattle.ml_image.specs.Images.{applied}
use Rattle.ml_image.specs.TrueFacts.{value_patterns}
use Rattle.ml_image.specs.Gained.{HasGained}
use Rattle.ml_image.proofs.facts.at_values.Given as goal

abbrev pub invariant-loop-i : goal.invariant-loop-i
invariant-loop-i l = record {
  images : applied l.sig l.names (Some l.initial.made)
      (value_patterns (take l.i (sort_numbers l.sorts)) (take l.i (map scalar_value l.args)))
      ≡ Some l.made;
  gained : HasGained l.sig l.initial.names l.names;
}
