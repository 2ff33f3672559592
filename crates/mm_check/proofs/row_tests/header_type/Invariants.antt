use Rattle.std.proofs.Common.{◌≡◌, drop, map}
use Rattle.mm_header.specs.HeaderTable.{type_texts}
use Rattle.mm_check.specs.Stated.{plain_stated}
use Rattle.mm_check.specs.RowTexts.{type_wanted}
use Rattle.mm_check.proofs.row_tests.header_type.Given as goal

abbrev pub invariant-loop-x : goal.invariant-loop-x
invariant-loop-x l =
    type_wanted (map type_texts (drop l.x-index l.known)) (plain_stated l.stated) l.variable
    ≡ type_wanted (map type_texts l.known) (plain_stated l.stated) l.variable
