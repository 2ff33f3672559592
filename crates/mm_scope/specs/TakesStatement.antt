-- What scopes do with one statement.
use Rattle.std.specs.Prelude.{◌≡◌, length, take, Some, None, Result, Ok, Err}
use Rattle.mm_text.specs.Statements.{Statement}
use Rattle.mm_database.specs.Forms.{form_of}
use Rattle.mm_database.specs.Database.{Context, context_after}
use Rattle.mm_database.specs.Validity.{declaration_fault}
use Rattle.mm_scope.specs.ScopeState.{ScopeState}
use Rattle.mm_scope.specs.Standing.{Stands}
use Rattle.mm_scope.specs.declared.declare.Added.{Added}
use Rattle.mm_scope.specs.declared.declare.FrameEnd.{FrameEnd}
use Rattle.mm_scope.specs.declared.declare.FrameEnd.TheVariants.{Fault, Memory}

-- A statement that has no fault of kinds 3 to 11 is added: the scopes then stand for the context
-- after it. For any other statement its fault is returned, and nothing changes.
abbrev pub TakesStatement : Context → Statement → ScopeState → ScopeState → Result Added FrameEnd
    → Type 0
TakesStatement c s old new (Ok added) =
    (declaration_fault c (form_of s.tokens) ≡ None) × Stands new (context_after c s)
TakesStatement c s old new (Err (Fault f)) =
    (declaration_fault c (form_of s.tokens) ≡ Some f.kind) × (f.at ≡ s.at) × (new ≡ old)
TakesStatement c s old new (Err Memory) = Unit {0}

-- no frame is lost or changed
abbrev pub KeepsFrames : ScopeState → ScopeState → Type 0
KeepsFrames old new = take (length old.frames) new.frames ≡ old.frames
