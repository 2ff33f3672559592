use Rattle.std.proofs.Common.{◌<◌, ◌≤◌, length, arith}
use Rattle.term_core.specs.HookValues.{hooks}
use Rattle.run_lines.specs.Lines.{hook_name}
use Rattle.run_lines.proofs.HookNames.{row_name, no_row_name}
use Rattle.run_lines.proofs.end_line.hook_name.Goals as goal

pub returns-in-Some : goal.returns-in-Some
unfolding hook_name
returns-in-Some c =
    let found = c.in-Some.ensures in
    row_name c.hook_rows.result.now hooks c.args.hook.0 c.in-Some.row.now c.hook_rows.ensures.rows
    found.lookup.3.0 found.lookup.1

pub returns-in-None : goal.returns-in-None
unfolding hook_name
returns-in-None c =
    let found = c.in-None.ensures in
    no_row_name c.hook_rows.result.now hooks c.args.hook.0 c.hook_rows.ensures.rows found.lookup.3
