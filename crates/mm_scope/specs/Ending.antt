-- How the judgment of a statement ends. Only clauses of private functions cite these definitions.
use Rattle.std.specs.Prelude.{ℕ}
use Rattle.mm_text.specs.FaultKinds.{fault}
use Rattle.mm_scope.specs.declared.declare.FrameEnd.{FrameEnd}
use Rattle.mm_scope.specs.declared.declare.FrameEnd.TheVariants.{Fault, Memory}
use Rattle.mm_scope.specs.declared.judge.Refusal.{Refusal}
use Rattle.mm_scope.specs.declared.judge.Refusal.TheVariants as refusal

abbrev pub end_at : Refusal → ℕ → FrameEnd
end_at (refusal.Fault kind) at = Fault (fault kind at)
end_at refusal.Memory at = Memory
