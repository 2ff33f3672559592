-- The entries that contracts see in a table.
use Rattle.std.specs.Prelude.{ℕ, List, map, string_bytes}
use Rattle.rule_core.specs.DistinctNames.{names_of, AreDistinct}
use Rattle.rule_core.specs.declared.table.Table.TheInside.{Inside}

-- the names, each with its value
abbrev pub entries_of : {V : Type 0} → Inside V → List (List ℕ × V)
entries_of t = map (λ e. (string_bytes e.0, e.1)) t.entries.entries

-- no name occurs twice
abbrev pub HasDistinctNames : {V : Type 0} → Inside V → Type 0
HasDistinctNames t = AreDistinct (names_of (entries_of t))
