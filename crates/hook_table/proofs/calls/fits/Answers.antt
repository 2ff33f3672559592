use Rattle.std.proofs.Common.{rules, ◌≡◌, ◌<◌, ◌≤◌, Bool, Some, List, length, refl, sym, ◌∙◌, ap}
use Rattle.std.proofs.Common.{subst}
use Rattle.std.specs.Prelude.{slice_get, T, not}
use Rattle.std.proofs.lemmas.Bool.{false≢true}
use Rattle.std.proofs.lemmas.Option.{slice_get_read}
use Rattle.term_core.specs.HookValues.{Kind}
use Rattle.hook_table.proofs.Numbers.{slice_get-past, arguments-of-row, no-row, same_some}
use Rattle.hook_table.proofs.Numbers.{none-some}
use Rattle.hook_table.proofs.calls.fits.Goals as goal
use lib.Dec.{ltb→lt, nltb→le}

pub returns-in-Some : goal.returns-in-Some
returns-in-Some c =
    let within : c.args.hook.0 < length c.hook_rows.result.now =
    ltb→lt _ _ (subst T c.in-Some.ensures.lookup.0 tt) in
    let row : slice_get c.hook_rows.result.now c.args.hook.0 ≡ Some c.in-Some.row.now =
    slice_get_read c.hook_rows.result.now (length c.hook_rows.result.now) c.args.hook.0
    c.in-Some.row.now refl within (search rules) in
    rw (arguments-of-row c.hook_rows.result.now c.args.hook.0 c.in-Some.row.now
    c.hook_rows.ensures.rows row) (
      λ t. ap (λ (kinds : List Kind). Some kinds) (sym (c.are_of_kinds.ensures.0 t)),
      λ e. c.are_of_kinds.ensures.1 (sym (same_some _ _ e)),
    )

pub returns-in-None : goal.returns-in-None
returns-in-None c =
    let IsNot : Bool → Type 0 = λ b. T (not b) in
    let past : length c.hook_rows.result.now ≤ c.args.hook.0 =
    nltb→le _ _ (subst IsNot c.in-None.ensures.lookup.0 tt) in
    let gone = slice_get-past c.hook_rows.result.now c.args.hook.0 past in (
      λ e. absurd (false≢true e),
      λ e. absurd (none-some _
          (sym (no-row c.hook_rows.result.now c.args.hook.0 c.hook_rows.ensures.rows gone) ∙ e)),
    )
