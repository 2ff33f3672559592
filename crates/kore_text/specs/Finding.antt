-- What the finder of faults says of each token that it looks at.
use Rattle.std.specs.Prelude.{◌≡◌, ◌<◌, ℕ, Option, Some, None}
use Rattle.kore_text.specs.declared.faults.TextFault.{TextFault}
use Rattle.kore_text.specs.declared.finder.Finder.{Finder}
use Rattle.kore_text.specs.declared.finder.Look.{Look}
use Rattle.kore_text.specs.declared.finder.Look.TheVariants as look
use Rattle.kore_text.specs.TokenStream.{end}
use Rattle.kore_text.specs.Table.{run}
use Rattle.kore_text.specs.Stacks.{stack}
use Rattle.kore_text.specs.Remaining.{left, size}

-- the first fault of what is left
abbrev pub fault_of : Finder → Option TextFault
fault_of f = run (left f.tokens) (Some f.depth) (stack f.expected)

abbrev pub Looks : Look → Finder → Finder → Type 0
Looks look.Good old new =
    (fault_of old ≡ fault_of new) × (size (left new.tokens) < size (left old.tokens))
Looks look.Fine old new = fault_of old ≡ None
Looks (look.Fault f) old new = fault_of old ≡ Some f

-- the result if the text ends at byte `at`
abbrev pub Ends : Look → ℕ → Finder → Type 0
Ends look.Good at f = ⊥
Ends look.Fine at f = run (end at) (Some f.depth) (stack f.expected) ≡ None
Ends (look.Fault e) at f = run (end at) (Some f.depth) (stack f.expected) ≡ Some e
