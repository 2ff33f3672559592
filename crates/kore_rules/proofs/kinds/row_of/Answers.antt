use Rattle.std.proofs.Common.{◌≡◌, ◌∙◌, ap, sym, refl, List, Option, Some, None}
use Rattle.std.specs.Prelude.{option_copied, option_map, slice_get}
use Rattle.std.specs.Borrow.{Bor}
use Rattle.std.proofs.lemmas.Option.{slice_get-map}
use Rattle.term_core.specs.HookValues.{hooks}
use Rattle.term_core.specs.HookSignatures.{Signature as HookSignature, signature}
use Rattle.hook_table.specs.Rows.{plain_row}
use Rattle.hook_table.specs.declared.table.HookRow.{HookRow}
use Rattle.kore_rules.specs.ScalarSorts.{row_at, hook_row}
use Rattle.kore_rules.proofs.kinds.row_of.Goals as goal

copied : (r : Option (Bor HookRow)) → option_map row_at r ≡ option_map plain_row (option_copied r)
copied None = refl
copied (Some b) = refl

pub returns : goal.returns
unfolding hook_row
returns c =
    copied c.row_in.result
    ∙ ap (option_map plain_row) c.row_in.ensures
    ∙ sym (slice_get-map plain_row c.hook_rows.result.now c.args.number.0)
    ∙ ap (λ (rs : List HookSignature). slice_get rs c.args.number.0) c.hook_rows.ensures.rows
