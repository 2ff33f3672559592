-- The next piece of a text from a place on. Only clauses of private functions cite this.
use Rattle.std.specs.Prelude.{◌≡◌, ◌<◌, ◌≤◌, ℕ, ◌+◌, Bool, false, List, [], ◌∷◌, length, drop}
use Rattle.std.specs.Prelude.{Option, Some, None, Result, Ok, Err}
use Rattle.std.specs.List.{slice_range, take_while}
use Rattle.mm_text.specs.Bytes.{class_of, is_white, is_printable_class}
use Rattle.mm_text.specs.Tokens.{Piece, run, stray, pieces_from, outside, in_comment}
use Rattle.mm_text.specs.Tokens.{begins_with_mark, Tokens, bad_text, tokens_in}
use Rattle.mm_text.specs.FaultKinds.{bad_byte, fault}
use Rattle.mm_text.specs.declared.fault.MmFault.{MmFault}
use Rattle.mm_text.specs.declared.pieces.Ahead.{Ahead}
use Rattle.mm_text.specs.declared.pieces.Ahead.TheVariants.{End, Stray, Run}

-- the pieces from a place on
abbrev pub pieces_at : List ℕ → ℕ → List Piece
pieces_at bytes at = pieces_from at (drop at bytes)

abbrev pub in_run : ℕ → Bool
in_run b = is_printable_class (class_of b)

-- the bytes at the start that are white space, and those at the start that are in a run
abbrev pub white : List ℕ → List ℕ
white bytes = take_while is_white bytes

abbrev pub printed : List ℕ → List ℕ
printed bytes = take_while in_run bytes

abbrev pub begins_white : List ℕ → Bool
begins_white [] = false
begins_white (b ∷ bytes) = is_white b

abbrev pub Shows : List ℕ → ℕ → Ahead → Type 0
Shows bytes at End = pieces_at bytes at ≡ []
Shows bytes at (Stray p) =
    (pieces_at bytes at ≡ stray p ∷ pieces_at bytes (p + 1)) × (at ≤ p) × (p < length bytes)
Shows bytes at (Run t) =
    (pieces_at bytes at ≡ run t.from (slice_range bytes t.from t.to) ∷ pieces_at bytes t.to)
    × (at ≤ t.from) × (t.from < t.to) × (t.to ≤ length bytes)

-- the bytes begin with a comment mark
abbrev pub mark_ahead : List ℕ → Bool
mark_ahead [] = false
mark_ahead (b ∷ bytes) = begins_with_mark b bytes

-- the tokens from a place on, after the `$(` of a comment
abbrev pub commented : List ℕ → ℕ → ℕ → Option ℕ → Tokens
commented bytes opened at bad = tokens_in (in_comment opened bad) (pieces_at bytes at)

-- a comment ends at a place, or a fault ends the text
abbrev pub Closes : List ℕ → ℕ → ℕ → Result ℕ MmFault → Type 0
Closes bytes opened at (Ok end) = (commented bytes opened at None
    ≡ tokens_in outside (pieces_at bytes end)) × (at < end) × (end ≤ length bytes)
Closes bytes opened at (Err f) = commented bytes opened at None ≡ bad_text f

-- the end of a comment, or a fault if a byte in the comment is not allowed
abbrev pub closed : ℕ → Option ℕ → Result ℕ MmFault
closed end None = Ok end
closed end (Some at) = Err (fault bad_byte at)
