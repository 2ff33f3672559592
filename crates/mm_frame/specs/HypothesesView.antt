-- What the list of active hypotheses has.
use Rattle.std.specs.Prelude.{List}
use Rattle.mm_frame.specs.Numbered.{NumberedHypothesis}
use Rattle.mm_frame.specs.StateHypotheses.{plain_hypotheses}
use Rattle.mm_frame.specs.declared.hypotheses.Hypotheses.{Hypotheses}

abbrev pub hypotheses_in : Hypotheses → List NumberedHypothesis
hypotheses_in h = plain_hypotheses h.all.items
