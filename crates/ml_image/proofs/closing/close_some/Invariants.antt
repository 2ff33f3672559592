use Rattle.std.proofs.Common.{◌≡◌, ◌+◌, Some, drop}
use Rattle.term_core.specs.RulePatterns.{sort_numbers}
use Rattle.ml_image.specs.Sentences.{Sentence, sentence_image, for_some}
use Rattle.ml_image.specs.Gained.{HasGained}
use Rattle.ml_image.proofs.closing.close_some.Given as goal

abbrev pub invariant-loop-i : goal.invariant-loop-i
invariant-loop-i l = record {
  images : (s : Sentence) → sentence_image l.sig l.initial.names s ≡ Some l.initial.made
      → sentence_image l.sig l.names (for_some (l.first + l.i) (drop l.i (sort_numbers l.sorts)) s)
      ≡ Some l.made;
  gained : HasGained l.sig l.initial.names l.names;
}
