-- The parts of a statement, however it is kept.
use Rattle.std.specs.Prelude.{List}
use Rattle.mm_verify.specs.declared.parts.Part.{Part}
use Rattle.mm_verify.specs.declared.statement.Statement.{Statement}
use Rattle.mm_verify.specs.declared.statement.Statement.TheVariants.{Short, Long}
use Rattle.mm_verify.specs.LongStatementView.{long_parts}

abbrev pub statement_parts : Statement → List Part
statement_parts (Short parts) = parts.items
statement_parts (Long long) = long_parts long
