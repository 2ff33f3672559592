use Rattle.std.proofs.Common.{◌≡◌, Some, drop}
use Rattle.term_core.specs.RulePatterns.{sort_numbers}
use Rattle.ml_image.specs.Sentences.{sentence_image}
use Rattle.prove_term.specs.Contexts.{HasGrown}
use Rattle.prove_open.specs.Givens.{all_sorted}
use Rattle.prove_open.proofs.givens.hypothesis.Given as goal

abbrev pub invariant-loop-i : goal.invariant-loop-i
invariant-loop-i l = record {
  image : sentence_image l.cx.program.sig l.cx.names
      (all_sorted (sort_numbers l.sorts) (drop l.i l.variables)) ≡ Some l.whole;
  grown : HasGrown l.initial.cx l.cx;
}
