use Rattle.term_core.specs.Patterns.{Pattern}
use Rattle.ml_image.specs.Sentences.{Sentence, term}
use Rattle.refute.specs.Dropping.{Implies, IsImplication}
use Rattle.refute.proofs.DroppingLaws.{IsWholeFrom}
use Rattle.refute.proofs.dropping.whole_dropped.Given as goal

abbrev pub invariant-loop-name : goal.invariant-loop-name
invariant-loop-name l = record {
  implication : IsImplication l.present.conclusion;
  done : (s : Sentence) (q : Pattern) → Implies l.fn.cx s (term q) l.fn.part
      → IsWholeFrom l.fn.cx l.names l.x l.name-index s q l.present;
}
