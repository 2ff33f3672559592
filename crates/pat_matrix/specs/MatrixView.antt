-- What contracts see of a `Matrix`: its rows that are left, its columns, and the order of sorts.
use Rattle.std.specs.Prelude.{ℕ, List, [], map, slice_index_or}
use Rattle.std.specs.Borrow.{Bor}
use Rattle.std.specs.Global.{Vec}
use Rattle.term_core.specs.Patterns.{Pattern}
use Rattle.term_core.specs.RulePatterns.{plain_pattern}
use Rattle.term_core.specs.declared.rule_patterns.RulePat.{RulePat}
use Rattle.pat_matrix.specs.Rows.{Row}
use Rattle.pat_matrix.specs.declared.matrix.Matrix.{Matrix}

-- each row's patterns
abbrev pub plain_rows : List (Vec RulePat) → List (List Pattern)
plain_rows rows = map (λ (ps : Vec RulePat). map plain_pattern ps.items) rows

-- the same of rows that are lent
abbrev pub lent_rows : List (Bor (List RulePat)) → List (List Pattern)
lent_rows rows = map (λ (ps : Bor (List RulePat)). map plain_pattern ps.now) rows

-- the patterns of the row with this number; none if there is no such row
abbrev pub patterns_at : List (Vec RulePat) → ℕ → List Pattern
patterns_at rows number = slice_index_or (plain_rows rows) number []

-- the rows with these numbers
abbrev pub rows_at : List (Vec RulePat) → List ℕ → List Row
rows_at rows left = map (λ (number : ℕ). (number, patterns_at rows number)) left

abbrev pub positions : List (Vec ℕ) → List (List ℕ)
positions columns = map (λ (c : Vec ℕ). c.items) columns

-- the rows of the matrix with these numbers
abbrev pub numbered_rows : Matrix → List ℕ → List Row
numbered_rows m numbers = rows_at m.rows.value.items numbers

-- the rows that are left, with their numbers
abbrev pub rows_of : Matrix → List Row
rows_of m = rows_at m.rows.value.items m.left.items

-- the patterns of one of the rows that the matrix was made of
abbrev pub row_of : Matrix → ℕ → List Pattern
row_of m number = patterns_at m.rows.value.items number

-- the positions of the columns
abbrev pub columns_of : Matrix → List (List ℕ)
columns_of m = positions m.columns.items

-- the position of a column
abbrev pub position_of : Matrix → ℕ → List ℕ
position_of m col = slice_index_or (columns_of m) col []

-- which sorts are below which
abbrev pub order_of : Matrix → List (ℕ × ℕ)
order_of m = m.order.subsorts.now
