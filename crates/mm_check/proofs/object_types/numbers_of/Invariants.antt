use Rattle.std.proofs.Common.{◌≡◌, take}
use Rattle.mm_check.specs.Stated.{plain_types}
use Rattle.mm_check.specs.AxiomTests.{numbers_of}
use Rattle.mm_check.proofs.object_types.numbers_of.Given as goal

abbrev pub invariant-loop-typed : goal.invariant-loop-typed
invariant-loop-typed l =
    l.numbers.items ≡ numbers_of (plain_types (take l.typed-index l.types))
