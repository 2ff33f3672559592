use Rattle.std.proofs.Common.{rules, ◌≡◌, ◌∙◌, None}
use Rattle.hook_table.specs.Names.{hook_number}
use Rattle.hook_table.proofs.Numbers.{position-of-rows}
use Rattle.hook_table.proofs.table.find.Goals as goal

pub returns-in_err-place : goal.returns-in_err-place
returns-in_err-place c =
    let none : None ≡ hook_number c.args.name.now =
    c.in_err-place.ensures
    ∙ position-of-rows c.args.name.now c.hook_rows.result.now c.hook_rows.ensures.rows in
    search rules

pub returns : goal.returns
returns c =
    c.in_ok-place.ensures
    ∙ position-of-rows c.args.name.now c.hook_rows.result.now c.hook_rows.ensures.rows
