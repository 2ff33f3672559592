-- The frame of an assertion, from what scopes hold.
use Rattle.std.specs.Prelude.{◌≡◌, ℕ, ◌&&◌, List, filter}
use Rattle.mm_text.specs.Bytes.{Token}
use Rattle.mm_frame.specs.Numbered.{NumberedFrame}
use Rattle.mm_frame.specs.PlainFrames.{in_groups}
use Rattle.mm_frame.specs.NeededNumbers.{is_needed_number, is_mandatory_number}
use Rattle.mm_scope.specs.ScopeState.{ScopeState}

-- a new label and symbols by their numbers
pub record Statement : Type 0 where
  pub label : Token
  pub symbols : List ℕ

pub record IsFrameIn (h : ScopeState) (s : Statement) (f : NumberedFrame) : Type 0 where
  pub label : f.label ≡ s.label
  pub statement : f.statement ≡ s.symbols
  pub hypotheses : f.hypotheses
      ≡ filter (is_mandatory_number (is_needed_number h.hypotheses s.symbols)) h.hypotheses
  pub apart : (a b : ℕ) → f.apart a b ≡ (in_groups h.disjoint a b
      && (is_needed_number h.hypotheses s.symbols a && is_needed_number h.hypotheses s.symbols b))
