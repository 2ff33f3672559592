-- One more assertion for one more frame.
use Rattle.std.proofs.Common.{◌≡◌, ℕ, ◌<◌, List, [], ◌∷◌, ◌++◌, length, take, get_or, map, ap, ◌∙◌}
use Rattle.std.proofs.Common.{sym, arith}
use Rattle.std.proofs.lemmas.List.{take_more, map-append, get_or-map, length_push, length-map}
use Rattle.mm_frame.specs.Numbered.{NumberedFrame}
use Rattle.mm_frame.specs.PlainFrames.{plain_frame, plain_frames}
use Rattle.mm_frame.specs.declared.frames.Frame.{Frame}
use Rattle.mm_verify.specs.declared.stored.StoredAssertion.{StoredAssertion}
use Rattle.mm_verify.specs.StoredView.{stored_frame}

pub more_frames : (all : List StoredAssertion) (a : StoredAssertion) (frames : List Frame)
    (h : List NumberedFrame) (f : Frame) → plain_frames frames ≡ h
    → map stored_frame all ≡ take (length all) h → length all < length frames
    → f ≡ get_or frames (length all) f → stored_frame a ≡ plain_frame f
    → map stored_frame (all ++ a ∷ []) ≡ take (length (all ++ a ∷ [])) h
more_frames all a frames h f scope_state same lt at is =
    let long : length all < length h =
    omega (
      arith,
      lt,
      sym (length-map frames plain_frame),
      ap (λ (xs : List NumberedFrame). length xs) scope_state,
    ) in
    let here : stored_frame a ≡ get_or h (length all) (plain_frame f) =
    is ∙ ap plain_frame at ∙ sym (get_or-map plain_frame frames (length all) f (plain_frame f) lt)
    ∙ ap (λ (xs : List NumberedFrame). get_or xs (length all) (plain_frame f)) scope_state in
    map-append stored_frame all (a ∷ [])
    ∙ ap (λ (xs : List NumberedFrame). xs ++ stored_frame a ∷ []) same
    ∙ ap (λ (x : NumberedFrame). take (length all) h ++ x ∷ []) here
    ∙ sym (take_more h (length all) (plain_frame f) long)
    ∙ ap (λ (n : ℕ). take n h) (sym (length_push all a))
