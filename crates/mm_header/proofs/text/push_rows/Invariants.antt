use Rattle.std.proofs.Common.{◌≡◌, ◌++◌, map, take}
use Rattle.std.specs.List.{flat_map}
use Rattle.mm_header.specs.HeaderTable.{row_of}
use Rattle.mm_header.specs.HeaderText.{row_text}
use Rattle.mm_header.proofs.text.push_rows.Given as goal

abbrev pub invariant-loop-row : goal.invariant-loop-row
invariant-loop-row l =
    l.to.items ≡ l.initial.to.items ++ flat_map row_text (map row_of (take l.row-index l.rows))
