-- Laws on readings.
use Rattle.std.specs.Prelude.{◌≡◌, ℕ, List, Contains}
use Rattle.mm_text.specs.Bytes.{Token}
use Rattle.mm_database.specs.Frames.{Frame}
use Rattle.mm_header.specs.Header.{Row, header_rows}
use Rattle.mm_header.specs.HeaderRows.{IsFrameOfRow}
use Rattle.ml_pat.specs.Patterns.{Pattern}
use Rattle.mm_readings.specs.Pieces.{Piece, spell_all, read}
use Rattle.mm_readings.specs.Readings.{IsSound}

-- what is spelled is read back, so a text is that of one list of pieces at most
abbrev pub SpelledIsRead : Type 0
SpelledIsRead = (pieces : List Piece) → read (spell_all pieces) ≡ pieces

-- each row of the header is sound, whatever the axioms and the numbers of sorts and constants are
abbrev pub RowsAreSound : Type 0
RowsAreSound =
    (axioms : List Pattern) (number : Token → ℕ) (r : Row) (f : Frame) → Contains header_rows r →
    IsFrameOfRow r f → IsSound (Contains axioms) number f
