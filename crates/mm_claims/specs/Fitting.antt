-- What a text has declared if it has declared the header and some names.
use Rattle.std.specs.Prelude.{◌≡◌, ℕ, ◌<◌, ◌≤◌, ◌^◌, false, ◌||◌, List, [], ◌∷◌, length, Some}
use Rattle.mm_text.specs.Bytes.{Token, has_token}
use Rattle.mm_database.specs.Frames.{Frame}
use Rattle.mm_database.specs.Database.{Context}
use Rattle.mm_header.specs.HeaderContext.{header_context}
use Rattle.mm_proof.specs.Labels.{name_label}
use Rattle.mm_proof.specs.ClosedFrames.{closed_frame}
use Rattle.mm_proof.specs.Tokens.{name_of}
use Rattle.mm_claims.specs.Statements.{IsName, typecode_of}
use Rattle.mm_claims.specs.Variables.{is_variable_token}

-- each of the tokens is one of a sort, of a symbol or of a value
abbrev pub AreNames : List Token → Type 0
AreNames [] = Unit {0}
AreNames (t ∷ ts) = IsName t × AreNames ts

-- the frame of a declaration
abbrev pub name_frame : ℕ → Token → Frame
name_frame i t = closed_frame (name_label i) (typecode_of t ∷ (t ∷ []))

-- What a text has declared if the header and these names were written. The rows of the header are
-- there. What is active is what is active after the header. Variables of statements may have been
-- declared too. The constants are those of the header and the names. Each name has its `$a` under
-- its label. The labels of later names are free, and no label is the token of a name.
pub record Holds (declared : List Token) (c : Context) : Type 0 where
  pub rows : (label : Token) (f : Frame) → header_context.frames label ≡ Some f
      → c.frames label ≡ Some f
  pub scope : c.scope ≡ header_context.scope
  pub variables : (t : Token) → is_variable_token t ≡ false
      → c.variables t ≡ header_context.variables t
  pub constants : (t : Token) → c.constants t ≡ (header_context.constants t || has_token declared t)
  pub frames : (i : ℕ) → i < length declared
      → c.frames (name_label i) ≡ Some (name_frame i (name_of declared i))
  pub free : (i : ℕ) → length declared ≤ i → i < 2 ^ 64 → c.labels (name_label i) ≡ false
  pub no_label : (t : Token) → IsName t → c.labels t ≡ false
