-- What a label cites.
use Rattle.std.specs.Prelude.{ℕ, Option, Some, None}
use Rattle.mm_frame.specs.Numbered.{NumberedHypothesis}
use Rattle.mm_frame.specs.PlainFrames.{plain_hypothesis}
use Rattle.mm_frame.specs.declared.frames.Cited.{Cited}
use Rattle.mm_frame.specs.declared.frames.Cited.TheVariants.{Hypothesis, Assertion}

abbrev pub cited_hypothesis : Option Cited → Option NumberedHypothesis
cited_hypothesis None = None
cited_hypothesis (Some (Hypothesis hyp)) = Some (plain_hypothesis hyp.now)
cited_hypothesis (Some (Assertion i)) = None

abbrev pub cited_assertion : Option Cited → Option ℕ
cited_assertion None = None
cited_assertion (Some (Hypothesis hyp)) = None
cited_assertion (Some (Assertion i)) = Some i
