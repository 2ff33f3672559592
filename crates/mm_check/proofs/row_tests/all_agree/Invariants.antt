use Rattle.std.proofs.Common.{◌≡◌, drop}
use Rattle.std.specs.List.{list_all}
use Rattle.mm_header.specs.HeaderTable.{type_texts}
use Rattle.mm_header.specs.declared.declarations.HeaderVariable.{HeaderVariable}
use Rattle.mm_check.specs.Stated.{plain_stated}
use Rattle.mm_check.specs.RowTexts.{agrees}
use Rattle.mm_check.proofs.row_tests.all_agree.Given as goal

abbrev pub invariant-loop-x : goal.invariant-loop-x
invariant-loop-x l =
    list_all (λ (x : HeaderVariable). agrees (plain_stated l.stated) (type_texts x))
    (drop l.x-index l.known)
    ≡ list_all (λ (x : HeaderVariable). agrees (plain_stated l.stated) (type_texts x)) l.known
