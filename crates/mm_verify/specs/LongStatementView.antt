-- The parts of a long statement.
use Rattle.std.specs.Prelude.{ℕ, List, map, Option, Some, None}
use Rattle.std.specs.Ordering.{nat_cmp}
use Rattle.std.specs.BTreeMap.{get, BTreeMap}
use Rattle.mm_frame.specs.ExpressionView.{expression_symbols}
use Rattle.mm_verify.specs.declared.parts.Part.{Part}
use Rattle.mm_verify.specs.declared.long_statement.LongStatement.{LongStatement}

-- no place is the number that stands for none
abbrev pub number_of_place : Option ℕ → ℕ
number_of_place None = 4294967295
number_of_place (Some place) = place

-- the symbol with the place that a table gives it
abbrev pub part_by : BTreeMap ℕ ℕ → ℕ → Part
part_by places symbol = record {
  symbol = symbol;
  place = number_of_place (get nat_cmp places symbol);
}

abbrev pub long_symbols : LongStatement → List ℕ
long_symbols s = expression_symbols s.expression.value

abbrev pub long_parts : LongStatement → List Part
long_parts s = map (part_by s.places.value) (long_symbols s)
