use Rattle.std.proofs.Common.{◌≡◌, ◌++◌, map, take}
use Rattle.std.specs.List.{flat_map}
use Rattle.mm_header.specs.HeaderTable.{type_texts}
use Rattle.mm_header.specs.HeaderText.{type_line}
use Rattle.mm_header.proofs.text.push_types.Given as goal

abbrev pub invariant-loop-typed : goal.invariant-loop-typed
invariant-loop-typed l = l.to.items
    ≡ l.initial.to.items ++ flat_map type_line (map type_texts (take l.typed-index l.types))
