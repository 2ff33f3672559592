-- The entries of a stack.
use Rattle.std.specs.Prelude.{ℕ, List, length}
use Rattle.mm_verify.specs.Ranges.{pieces, AreRanges}
use Rattle.mm_verify.specs.declared.stack.Stack.TheInside.{Inside}

abbrev pub stack_of : Inside → List (List ℕ)
stack_of s = pieces s.symbols.now s.ranges.now

abbrev pub HasRanges : Inside → Type 0
HasRanges s = AreRanges (length s.symbols.now) s.ranges.now
