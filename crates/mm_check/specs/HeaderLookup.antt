-- The rows of the header with a statement.
use Rattle.std.specs.Prelude.{◌≡◌, ℕ, List, map, Contains}
use Rattle.mm_text.specs.Bytes.{Token}
use Rattle.mm_header.specs.Header.{Row, header_rows}
use Rattle.mm_header.specs.HeaderRows.{expression_of}
use Rattle.mm_header.specs.HeaderTable.{row_of}
use Rattle.mm_header.specs.declared.rows.HeaderRow.{HeaderRow}

abbrev pub statement_texts : List Row → List (List ℕ)
statement_texts rows = map (λ (r : Row). r.statement) rows

-- the statements of the rows, in order
abbrev pub header_statements : List (List ℕ)
header_statements = statement_texts header_rows

-- no row has this text as its statement
abbrev pub StatesNothing : List ℕ → Type 0
StatesNothing key = (r : Row) → Contains header_rows r → r.statement ≡ key → ⊥

-- this row has the text as its statement, and no other has
pub record IsRowOf (key : List ℕ) (row : HeaderRow) : Type 0 where
  pub there : Contains header_rows (row_of row)
  pub states : row.statement.now ≡ key
  pub only : (r : Row) → Contains header_rows r → r.statement ≡ key → r ≡ row_of row

-- the same for the words of a statement
abbrev pub HasNoRow : List Token → Type 0
HasNoRow words = (r : Row) → Contains header_rows r → words ≡ expression_of r.statement → ⊥

pub record IsOnlyRow (words : List Token) (row : HeaderRow) : Type 0 where
  pub there : Contains header_rows (row_of row)
  pub states : words ≡ expression_of row.statement.now
  pub only : (r : Row) → Contains header_rows r → words ≡ expression_of r.statement
      → r ≡ row_of row
