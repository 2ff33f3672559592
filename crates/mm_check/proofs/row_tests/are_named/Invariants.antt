use Rattle.std.proofs.Common.{◌≡◌, drop}
use Rattle.std.specs.List.{list_all}
use Rattle.mm_header.specs.HeaderRows.{types_texts}
use Rattle.mm_check.specs.RowTexts.{is_named}
use Rattle.mm_check.specs.declared.stated.Typed.{Typed}
use Rattle.mm_check.proofs.row_tests.are_named.Given as goal

abbrev pub invariant-loop-typed : goal.invariant-loop-typed
invariant-loop-typed l =
    list_all (λ (t : Typed). is_named types_texts t.variable.now) (drop l.typed-index l.types)
    ≡ list_all (λ (t : Typed). is_named types_texts t.variable.now) l.types
