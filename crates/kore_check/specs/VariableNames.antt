-- Variables as a rule names them.
use Rattle.std.specs.Prelude.{ℕ, List, map, string_bytes}
use Rattle.rule_core.specs.declared.rules.VarInfo.{VarInfo}

-- the names and sorts of variables, in the order of their numbers
abbrev pub named_sorts : List VarInfo → List (List ℕ × ℕ)
named_sorts vars = map (λ (v : VarInfo). (string_bytes v.name, v.sort.0)) vars
