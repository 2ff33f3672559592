-- What the header's assertions are, as laws.
use Rattle.std.specs.Prelude.{◌≡◌, false, List, map, Some, None}
use Rattle.mm_text.specs.Bytes.{Token, has_token}
use Rattle.mm_database.specs.Frames.{Frame}
use Rattle.mm_database.specs.Database.{Context}
use Rattle.mm_header.specs.Header.{Row}
use Rattle.mm_header.specs.HeaderRows.{IsFrameOfRow}

-- the context has a frame of the row under its label
pub record HasRow (c : Context) (r : Row) : Type 0 where
  pub frame : Frame
  pub kept : c.frames r.label ≡ Some frame
  pub fits : IsFrameOfRow r frame

-- only the labels of the rows have a frame
abbrev pub HasOnlyRows : Context → List Row → Type 0
HasOnlyRows c rows =
    (label : Token) → has_token (map (λ r. r.label) rows) label ≡ false → c.frames label ≡ None
