-- The frame of a stored assertion.
use Rattle.mm_frame.specs.Numbered.{NumberedFrame}
use Rattle.mm_frame.specs.PlainFrames.{plain_frame}
use Rattle.mm_verify.specs.declared.stored.StoredAssertion.{StoredAssertion}
use Rattle.mm_verify.specs.declared.stored.StoredAssertion.TheVariants.{Built, Shared}
use Rattle.mm_verify.specs.AssertionView.{assertion_frame}

abbrev pub stored_frame : StoredAssertion → NumberedFrame
stored_frame (Built assertion) = assertion_frame assertion
stored_frame (Shared frame) = plain_frame frame
