-- Hypotheses as scopes hold them: symbols by their numbers.
use Rattle.std.specs.Prelude.{List, map}
use Rattle.mm_database.specs.Frames.{floating, essential}
use Rattle.mm_frame.specs.Numbered.{NumberedHypothesis}
use Rattle.mm_frame.specs.ExpressionView.{expression_symbols}
use Rattle.mm_frame.specs.declared.frames.Hyp.{Hyp}
use Rattle.mm_frame.specs.declared.frames.Hyp.TheVariants.{Floating, Essential}

abbrev pub plain_hypothesis : Hyp → NumberedHypothesis
plain_hypothesis (Floating label typecode variable) = floating label.now typecode variable
plain_hypothesis (Essential label statement) =
    essential label.now (expression_symbols statement.value)

abbrev pub plain_hypotheses : List Hyp → List NumberedHypothesis
plain_hypotheses hyps = map plain_hypothesis hyps
