-- What questions to scopes return, from what the scopes hold.
use Rattle.std.specs.Prelude.{ℕ, List, Bool, false, if◌then◌else◌, slice_get, Option, Some, None}
use Rattle.std.specs.Prelude.{bytes_eq}
use Rattle.mm_text.specs.Bytes.{Token}
use Rattle.mm_frame.specs.Numbered.{NumberedHypothesis, NumberedFrame}
use Rattle.mm_frame.specs.NeededNumbers.{is_needed_number, is_mandatory_number}
use Rattle.mm_scope.specs.ScopeState.{ScopeSymbol, ScopeState}
use Rattle.mm_frame.specs.declared.names.Name.{Name}
use Rattle.mm_frame.specs.declared.names.Name.TheVariants.{Constant, Variable, Hypothesis}
use Rattle.mm_frame.specs.declared.names.Name.TheVariants.{Assertion}
use Rattle.mm_database.specs.Frames.{label_of}

abbrev pub symbol_is_variable : Option ScopeSymbol → Bool
symbol_is_variable None = false
symbol_is_variable (Some s) = s.is_variable

-- the hypothesis at a place, if it has the label
abbrev pub hypothesis_at : Token → Option NumberedHypothesis → Option NumberedHypothesis
hypothesis_at label None = None
hypothesis_at label (Some h) = if bytes_eq (label_of h) label then Some h else None

abbrev pub hypothesis_by_name : ScopeState → Token → Option Name → Option NumberedHypothesis
hypothesis_by_name h label None = None
hypothesis_by_name h label (Some (Constant n)) = None
hypothesis_by_name h label (Some (Variable n)) = None
hypothesis_by_name h label (Some (Hypothesis i)) = hypothesis_at label (slice_get h.hypotheses i)
hypothesis_by_name h label (Some (Assertion i)) = None

-- the active hypothesis with the label
abbrev pub hypothesis_named : ScopeState → Token → Option NumberedHypothesis
hypothesis_named h label = hypothesis_by_name h label (h.names label)

-- a hypothesis that there is, and that is mandatory
abbrev pub is_some_mandatory : (ℕ → Bool) → Option NumberedHypothesis → Bool
is_some_mandatory needed None = false
is_some_mandatory needed (Some x) = is_mandatory_number needed x

-- the label is that of an active hypothesis, which is mandatory for a statement of these symbols
abbrev pub is_mandatory_named : ScopeState → List ℕ → Token → Bool
is_mandatory_named h symbols label =
    is_some_mandatory (is_needed_number h.hypotheses symbols) (hypothesis_named h label)

abbrev pub frame_by_name : ScopeState → Option Name → Option NumberedFrame
frame_by_name h None = None
frame_by_name h (Some (Constant n)) = None
frame_by_name h (Some (Variable n)) = None
frame_by_name h (Some (Hypothesis i)) = None
frame_by_name h (Some (Assertion i)) = slice_get h.frames i

-- the frame of the assertion with the label
abbrev pub frame_named : ScopeState → Token → Option NumberedFrame
frame_named h label = frame_by_name h (h.names label)
