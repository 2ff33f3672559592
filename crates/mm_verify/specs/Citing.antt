-- What the labels of a proof cite, from what scopes hold.
use Rattle.std.specs.Prelude.{List, [], ◌∷◌, Option, Some, None}
use Rattle.mm_text.specs.Bytes.{Token}
use Rattle.mm_database.specs.Frames.{statement_of}
use Rattle.mm_database.specs.ProofText.{with_step}
use Rattle.mm_frame.specs.Numbered.{NumberedHypothesis, NumberedFrame}
use Rattle.mm_frame.specs.NumberedSteps.{Citation, gives, applies}
use Rattle.mm_scope.specs.ScopeState.{ScopeState}
use Rattle.mm_scope.specs.StateReads.{hypothesis_named, frame_named}

-- an active hypothesis, or else an assertion
abbrev pub cited : Option NumberedHypothesis → Option NumberedFrame → Option Citation
cited (Some x) frame = Some (gives (statement_of x))
cited None (Some n) = Some (applies n)
cited None None = None

abbrev pub cited_at : ScopeState → Token → Option Citation
cited_at h label = cited (hypothesis_named h label) (frame_named h label)

-- what labels cite, if each cites something
abbrev pub all_cited : ScopeState → List Token → Option (List Citation)
all_cited h [] = Some []
all_cited h (label ∷ labels) = with_step (cited_at h label) (all_cited h labels)
