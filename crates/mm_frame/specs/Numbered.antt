-- Frames whose symbols are numbers. A naming gives each number a token of its own. Under a naming
-- these are frames of tokens.
use Rattle.std.specs.Prelude.{◌≡◌, ℕ, nat_eq, List, map, bytes_eq}
use Rattle.mm_text.specs.Bytes.{Token}
use Rattle.mm_database.specs.Frames.{HypothesisOver, Hypothesis, floating, essential, FrameOver}
use Rattle.mm_database.specs.Frames.{Frame}

abbrev pub NumberedHypothesis : Type 0
NumberedHypothesis = HypothesisOver ℕ

abbrev pub NumberedFrame : Type 0
NumberedFrame = FrameOver ℕ

-- two numbers have the same token if and only if they are equal
abbrev pub IsNaming : (ℕ → Token) → Type 0
IsNaming name = (a b : ℕ) → bytes_eq (name a) (name b) ≡ nat_eq a b

abbrev pub named : (ℕ → Token) → List ℕ → List Token
named name numbers = map name numbers

abbrev pub named_hypothesis : (ℕ → Token) → NumberedHypothesis → Hypothesis
named_hypothesis name (floating label typecode variable) =
    floating label (name typecode) (name variable)
named_hypothesis name (essential label statement) = essential label (named name statement)

-- under a naming, the frame of numbers stands for the frame of tokens
pub record IsNamedFrame (name : ℕ → Token) (n : NumberedFrame) (f : Frame) : Type 0 where
  pub label : f.label ≡ n.label
  pub hypotheses : f.hypotheses ≡ map (named_hypothesis name) n.hypotheses
  pub apart : (a b : ℕ) → f.apart (name a) (name b) ≡ n.apart a b
  pub statement : f.statement ≡ named name n.statement
