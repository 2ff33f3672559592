-- The rows of the code's table as plain values.
use Rattle.std.specs.Prelude.{map}
use Rattle.term_core.specs.HookValues.{Kind, integers, truths}
use Rattle.term_core.specs.HookSignatures.{Signature}
use Rattle.hook_table.specs.declared.table.HookRow.{HookRow}
use Rattle.hook_table.specs.declared.table.ScalarKind.{ScalarKind}
use Rattle.hook_table.specs.declared.table.ScalarKind.TheVariants.{Int, Bool}

abbrev pub plain_kind : ScalarKind → Kind
plain_kind Int = integers
plain_kind Bool = truths

-- the contents of a row
abbrev pub plain_row : HookRow → Signature
plain_row row = record {
  name = row.name.now;
  arguments = map plain_kind row.args.now;
  result = plain_kind row.result;
}
