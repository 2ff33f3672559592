-- The entries on a stack, and the saved ones.
use Rattle.std.specs.Prelude.{ℕ, List, length}
use Rattle.mm_database.specs.Stack.{Saving, saving}
use Rattle.mm_verify.specs.Ranges.{pieces, AreRanges}
use Rattle.mm_verify.specs.declared.entries.Entries.TheInside.{Inside}

abbrev pub entries_of : Inside → Saving (List ℕ)
entries_of e = saving (pieces e.symbols.items e.stack.items) (pieces e.symbols.items e.saved.items)

pub record HaveRanges (e : Inside) : Type 0 where
  pub stack : AreRanges (length e.symbols.items) e.stack.items
  pub saved : AreRanges (length e.symbols.items) e.saved.items
