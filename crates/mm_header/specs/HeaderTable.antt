-- The rows of the program's table, as data.
use Rattle.std.specs.Prelude.{ℕ, List, map}
use Rattle.std.specs.Borrow.{Bor}
use Rattle.mm_header.specs.declared.declarations.HeaderVariable.{HeaderVariable}
use Rattle.mm_header.specs.declared.rows.HeaderRow.{HeaderRow}
use Rattle.mm_header.specs.Header.{Row}

abbrev pub pair_of : Bor (List ℕ) × Bor (List ℕ) → List ℕ × List ℕ
pair_of (x, y) = (x.now, y.now)

abbrev pub row_of : HeaderRow → Row
row_of r = record {
  label = r.label.now;
  apart = map pair_of r.apart.now;
  hypotheses = map (λ h. h.now) r.hyps.now;
  statement = r.statement.now;
}

-- the label, typecode and name of a variable
abbrev pub type_texts : HeaderVariable → List ℕ × List ℕ × List ℕ
type_texts v = (v.label.now, v.typecode.now, v.name.now)
