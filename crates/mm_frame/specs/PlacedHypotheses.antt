-- A list of hypotheses, each with its place.
use Rattle.std.specs.Prelude.{ℕ, List, map}
use Rattle.mm_frame.specs.Numbered.{NumberedHypothesis}

abbrev pub Placed : Type 0
Placed = ℕ × NumberedHypothesis

-- the hypotheses alone
abbrev pub hypotheses_placed : List Placed → List NumberedHypothesis
hypotheses_placed ps = map (λ (p : Placed). p.1) ps
