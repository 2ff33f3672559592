-- A stack as contracts see it.
use Rattle.std.specs.Prelude.{ℕ, List, length}
use Rattle.mm_verify.specs.Cut.{cut, AreEnds}
use Rattle.mm_verify.specs.declared.lists.Lists.TheInside.{Inside}

abbrev pub entries_of : Inside → List (List ℕ)
entries_of s = cut s.symbols.items 0 s.ends.items

abbrev pub IsCut : Inside → Type 0
IsCut s = AreEnds (length s.symbols.items) 0 s.ends.items
