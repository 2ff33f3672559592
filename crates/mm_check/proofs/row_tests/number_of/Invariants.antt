use Rattle.std.proofs.Common.{◌≡◌, drop}
use Rattle.mm_check.specs.Stated.{plain_types}
use Rattle.mm_check.specs.RowTexts.{number_among}
use Rattle.mm_check.proofs.row_tests.number_of.Given as goal

abbrev pub invariant-loop-typed : goal.invariant-loop-typed
invariant-loop-typed l =
    number_among (plain_types (drop l.typed-index l.types)) l.variable
    ≡ number_among (plain_types l.types) l.variable
