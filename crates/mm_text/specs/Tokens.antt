-- The tokens of a Metamath text outside its comments, and the first byte or comment at which it
-- breaks (Metamath book, "The Complete Language Specification").
use Rattle.std.specs.Prelude.{ℕ, ◌+◌, Bool, true, false, ◌||◌, ◌==◌, if◌then◌else◌, List, [], ◌∷◌}
use Rattle.std.specs.Prelude.{Option, Some, None, codes, bytes_eq}
use Rattle.mm_text.specs.Bytes.{Token, Class, printable, white, foreign, class_of}
use Rattle.mm_text.specs.Bytes.{is_printable_class}
use Rattle.mm_text.specs.FaultKinds.{bad_byte, bad_comment, fault}
use Rattle.mm_text.specs.declared.fault.MmFault.{MmFault}

-- A piece of a text is a longest run of printable bytes, with the place of its first byte; or a
-- byte that is not allowed, by its place.
pub data Piece : Type 0 where
  run : ℕ → Token → Piece
  stray : ℕ → Piece

abbrev pub begins_printable : List ℕ → Bool
begins_printable [] = false
begins_printable (b ∷ bytes) = is_printable_class (class_of b)

-- the pieces after a printable byte was put before them; it joins a run at the start
abbrev pub grown : ℕ → ℕ → List Piece → List Piece
grown at b (run later token ∷ pieces) = run at (b ∷ token) ∷ pieces
grown at b pieces = run at (b ∷ []) ∷ pieces

-- the pieces of a byte of this class at this place and of the text after it; the second argument
-- says whether that text begins with a printable byte
abbrev pub with_byte : Class → Bool → ℕ → ℕ → List Piece → List Piece
with_byte printable true at b pieces = grown at b pieces
with_byte printable false at b pieces = run at (b ∷ []) ∷ pieces
with_byte white begins at b pieces = pieces
with_byte foreign begins at b pieces = stray at ∷ pieces

-- the pieces of a text whose first byte has this place
abbrev pub pieces_from : ℕ → List ℕ → List Piece
pieces_from at [] = []
pieces_from at (b ∷ bytes) =
    with_byte (class_of b) (begins_printable bytes) at b (pieces_from (at + 1) bytes)

-- the token is `$(`, and the token is `$)`
abbrev pub opens_comment : Token → Bool
opens_comment token = bytes_eq token (codes "$(")

abbrev pub closes_comment : Token → Bool
closes_comment token = bytes_eq token (codes "$)")

-- the bytes begin with a comment mark
abbrev pub begins_with_mark : ℕ → List ℕ → Bool
begins_with_mark b [] = false
begins_with_mark b (c ∷ bytes) = if b == 36 then (c == 40) || (c == 41) else false

-- the bytes have a comment mark somewhere
abbrev pub has_comment_mark : List ℕ → Bool
has_comment_mark [] = false
has_comment_mark (b ∷ bytes) = begins_with_mark b bytes || has_comment_mark bytes

-- Outside comments, or in a comment that opens at a byte. The option is the first byte in the
-- comment that is not allowed.
pub data Place : Type 0 where
  outside : Place
  in_comment : ℕ → Option ℕ → Place

abbrev pub first_stray : Option ℕ → ℕ → Option ℕ
first_stray None at = Some at
first_stray (Some first) at = Some first

-- the place after a piece
abbrev pub place_after : Place → Piece → Place
place_after outside (stray at) = outside
place_after outside (run at token) = if opens_comment token then in_comment at None else outside
place_after (in_comment opened bad) (stray at) = in_comment opened (first_stray bad at)
place_after (in_comment opened bad) (run at token) =
    if closes_comment token then outside else in_comment opened bad

-- what a piece gives: nothing, a token, or a fault, which ends the text
pub data Given : Type 0 where
  nothing : Given
  a_token : ℕ → Token → Given
  a_fault : MmFault → Given

-- at the end of a comment: only here a byte that is not allowed is reported; so a comment without
-- an end is reported instead of a byte in it
abbrev pub comment_end : Option ℕ → Given
comment_end None = nothing
comment_end (Some at) = a_fault (fault bad_byte at)

abbrev pub given : Place → Piece → Given
given outside (stray at) = a_fault (fault bad_byte at)
given outside (run at token) =
    if opens_comment token then nothing else
    if closes_comment token then a_fault (fault bad_comment at) else a_token at token
given (in_comment opened bad) (stray at) = nothing
given (in_comment opened bad) (run at token) =
    if closes_comment token then comment_end bad else
    if has_comment_mark token then a_fault (fault bad_comment opened) else nothing

-- The tokens of a text, each with the byte at which it begins, up to the end of the text or its
-- first fault.
pub data Tokens : Type 0 where
  no_token : Tokens
  bad_text : MmFault → Tokens
  next_token : ℕ → Token → Tokens → Tokens

abbrev pub with_given : Given → Tokens → Tokens
with_given nothing tokens = tokens
with_given (a_token at token) tokens = next_token at token tokens
with_given (a_fault f) tokens = bad_text f

-- a comment that is open at the end of the text is a fault
abbrev pub tokens_at_end : Place → Tokens
tokens_at_end outside = no_token
tokens_at_end (in_comment opened bad) = bad_text (fault bad_comment opened)

-- the tokens that pieces give; the reader starts outside comments or in a comment
abbrev pub tokens_in : Place → List Piece → Tokens
tokens_in place [] = tokens_at_end place
tokens_in place (piece ∷ pieces) =
    with_given (given place piece) (tokens_in (place_after place piece) pieces)

-- the tokens of a text whose first byte has this place, outside comments
abbrev pub tokens_from : ℕ → List ℕ → Tokens
tokens_from at bytes = tokens_in outside (pieces_from at bytes)
