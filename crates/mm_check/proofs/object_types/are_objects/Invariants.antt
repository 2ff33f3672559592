use Rattle.std.proofs.Common.{◌≡◌, drop}
use Rattle.std.specs.List.{list_all}
use Rattle.mm_check.specs.Stated.{plain_typed}
use Rattle.mm_check.specs.AxiomTests.{is_typed_object}
use Rattle.mm_check.specs.declared.stated.Typed.{Typed}
use Rattle.mm_check.proofs.object_types.are_objects.Given as goal

abbrev pub invariant-loop-typed : goal.invariant-loop-typed
invariant-loop-typed l =
    list_all (λ (t : Typed). is_typed_object (plain_typed t)) (drop l.typed-index l.types)
    ≡ list_all (λ (t : Typed). is_typed_object (plain_typed t)) l.types
