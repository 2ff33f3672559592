-- The symbols of an expression.
use Rattle.std.specs.Prelude.{ℕ, List}
use Rattle.mm_frame.specs.declared.expression.Expression.{Expression}

abbrev pub expression_symbols : Expression → List ℕ
expression_symbols e = e.symbols.items
