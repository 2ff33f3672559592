use Rattle.std.proofs.Common.{◌≡◌, ◌++◌, map, take}
use Rattle.std.specs.List.{flat_map}
use Rattle.mm_header.specs.HeaderTable.{pair_of}
use Rattle.mm_header.specs.HeaderText.{apart_line}
use Rattle.mm_header.proofs.text.push_pairs.Given as goal

abbrev pub invariant-loop-pair : goal.invariant-loop-pair
invariant-loop-pair l =
    l.to.items ≡ l.initial.to.items ++ flat_map apart_line (map pair_of (take l.pair-index l.pairs))
