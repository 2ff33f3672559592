use Rattle.std.proofs.Common.{◌≡◌, Some, drop}
use Rattle.ml_image.specs.Sentences.{sentence_image}
use Rattle.prove_term.specs.Contexts.{HasGrown}
use Rattle.guard_body.specs.Arguments.{all_in}
use Rattle.guard_body.proofs.images.members_image.Given as goal

abbrev pub invariant-loop-i : goal.invariant-loop-i
invariant-loop-i l = record {
  image : sentence_image l.cx.program.sig l.cx.names (all_in (drop l.i l.arguments))
      ≡ Some l.made;
  grown : HasGrown l.initial.cx l.cx;
}
