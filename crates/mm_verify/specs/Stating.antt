-- What kind a statement is, from what it added, and the end of a database, from the end of a
-- statement.
use Rattle.mm_scope.specs.declared.declare.Added.{Added}
use Rattle.mm_scope.specs.declared.declare.Added.TheVariants as added
use Rattle.mm_scope.specs.declared.declare.FrameEnd.{FrameEnd}
use Rattle.mm_scope.specs.declared.declare.FrameEnd.TheVariants as frame
use Rattle.mm_verify.specs.declared.ends.Stated.{Stated}
use Rattle.mm_verify.specs.declared.ends.Stated.TheVariants as stated
use Rattle.mm_verify.specs.declared.ends.VerifyEnd.{VerifyEnd}
use Rattle.mm_verify.specs.declared.ends.VerifyEnd.TheVariants.{Invalid, Memory}

abbrev pub stated_for : Added → Stated
stated_for added.Block = stated.Nothing
stated_for added.Symbols = stated.Nothing
stated_for added.Hypothesis = stated.Nothing
stated_for added.Disjoint = stated.Nothing
stated_for added.Assertion = stated.Axiom

abbrev pub end_for : FrameEnd → VerifyEnd
end_for (frame.Fault f) = Invalid f
end_for frame.Memory = Memory
