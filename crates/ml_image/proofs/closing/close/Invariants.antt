use Rattle.std.proofs.Common.{◌≡◌, Some, drop}
use Rattle.term_core.specs.RulePatterns.{sort_numbers}
use Rattle.ml_image.specs.Sentences.{Sentence, sentence_image, for_all}
use Rattle.ml_image.specs.Gained.{HasGained}
use Rattle.ml_image.proofs.closing.close.Given as goal

abbrev pub invariant-loop-i : goal.invariant-loop-i
invariant-loop-i l = record {
  images : (s : Sentence) → sentence_image l.sig l.initial.names s ≡ Some l.initial.made
      → sentence_image l.sig l.names (for_all l.i (drop l.i (sort_numbers l.sorts)) s)
      ≡ Some l.made;
  gained : HasGained l.sig l.initial.names l.names;
}
