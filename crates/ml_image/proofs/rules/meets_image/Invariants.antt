use Rattle.std.proofs.Common.{◌≡◌, Some, drop}
use Rattle.term_core.specs.PatternLists.{plain_patterns}
use Rattle.ml_image.specs.Numbering.{number_in}
use Rattle.ml_image.specs.Images.{all_renamed}
use Rattle.ml_image.specs.Sentences.{sentence_image}
use Rattle.ml_image.specs.Premises.{meets}
use Rattle.ml_image.specs.PartNames.{part_names, names_renamed}
use Rattle.ml_image.specs.Gained.{HasGained}
use Rattle.ml_image.proofs.rules.meets_image.Given as goal

abbrev pub invariant-loop-i : goal.invariant-loop-i
invariant-loop-i l = record {
  images : sentence_image l.sig l.names
      (meets (names_renamed (number_in l.numbering) (part_names l.parts)) l.i
      (all_renamed (number_in l.numbering) (plain_patterns (drop l.i l.args)))) ≡ Some l.made;
  gained : HasGained l.sig l.initial.names l.names;
}
