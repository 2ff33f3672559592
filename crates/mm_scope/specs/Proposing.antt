-- What a statement proposes if it is a `$p`.
use Rattle.std.specs.Prelude.{◌≡◌, ℕ, Bool, true, false, List, map, Option, Some, None, Result, Ok}
use Rattle.std.specs.Prelude.{Err}
use Rattle.mm_text.specs.Bytes.{Token}
use Rattle.mm_text.specs.Statements.{Statement}
use Rattle.mm_text.specs.Reader.{words_of}
use Rattle.mm_database.specs.Forms.{Keyword, declares_constants, declares_variables, types_variable}
use Rattle.mm_database.specs.Forms.{assumes, separates, asserts, proves, Form, block_start}
use Rattle.mm_database.specs.Forms.{block_end, plain, form_of}
use Rattle.mm_database.specs.Frames.{frame_of}
use Rattle.mm_database.specs.Database.{Context, first_label}
use Rattle.mm_database.specs.Validity.{declaration_fault}
use Rattle.mm_frame.specs.Numbered.{IsNaming, IsNamedFrame}
use Rattle.mm_frame.specs.PlainFrames.{plain_frame}
use Rattle.mm_scope.specs.ScopeState.{ScopeState}
use Rattle.mm_scope.specs.StateFrames.{IsFrameIn, Statement as Stated}
use Rattle.mm_scope.specs.Standing.{NamesSymbols}
use Rattle.mm_scope.specs.declared.declare.FrameEnd.{FrameEnd}
use Rattle.mm_scope.specs.declared.declare.FrameEnd.TheVariants.{Fault, Memory}
use Rattle.mm_scope.specs.declared.theorem.Theorem.{Theorem}

abbrev pub is_proving : Keyword → Bool
is_proving declares_constants = false
is_proving declares_variables = false
is_proving types_variable = false
is_proving assumes = false
is_proving separates = false
is_proving asserts = false
is_proving proves = true

abbrev pub is_theorem : Option Form → Bool
is_theorem None = false
is_theorem (Some block_start) = false
is_theorem (Some block_end) = false
is_theorem (Some (plain labels keyword symbols proof)) = is_proving keyword

-- a `$p` that has no fault of kinds 3 to 11, with its frame and the tokens of its proof
pub record IsProposed (bytes : List ℕ) (h : ScopeState) (c : Context) (s : Statement)
    (t : Theorem) : Type 0 where
  pub labels : List Token
  pub symbols : List Token
  pub form : form_of s.tokens ≡ Some (plain labels proves symbols (words_of bytes t.proof.now))
  pub well : declaration_fault c (form_of s.tokens) ≡ None
  pub stated : Stated
  pub label : first_label labels ≡ stated.label
  pub free : h.names stated.label ≡ None
  pub numbers : (name : ℕ → Token) → NamesSymbols name h.symbols → map name stated.symbols ≡ symbols
  pub scope_state : IsFrameIn h stated (plain_frame t.frame)
  pub frame : (name : ℕ → Token) → IsNaming name → NamesSymbols name h.symbols
      → IsNamedFrame name (plain_frame t.frame) (frame_of c.scope (first_label labels) symbols)

abbrev pub Proposes : List ℕ → ScopeState → Context → Statement → Result (Option Theorem) FrameEnd
    → Type 0
Proposes bytes h c s (Ok None) = is_theorem (form_of s.tokens) ≡ false
Proposes bytes h c s (Ok (Some t)) = IsProposed bytes h c s t
Proposes bytes h c s (Err (Fault f)) =
    (declaration_fault c (form_of s.tokens) ≡ Some f.kind) × (f.at ≡ s.at)
Proposes bytes h c s (Err Memory) = Unit {0}
