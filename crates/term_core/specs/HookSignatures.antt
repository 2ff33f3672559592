-- What the table of hooks says of each hook, apart from its value.
use Rattle.std.specs.Prelude.{ℕ, List, Option, slice_get, option_map}
use Rattle.term_core.specs.HookValues.{Hook, Kind, argument_kinds, hooks, result_kind}

-- what the table says of a hook, apart from its value
pub record Signature : Type 0 where
  pub name : List ℕ
  pub arguments : List Kind
  pub result : Kind

abbrev pub signature : Hook → Signature
signature h = record {
  name = h.name;
  arguments = argument_kinds h.operation;
  result = result_kind h.operation;
}

-- the kinds of the arguments of the hook with this number, if there is one
abbrev pub hook_arguments : ℕ → Option (List Kind)
hook_arguments number =
    option_map (λ (h : Hook). argument_kinds h.operation) (slice_get hooks number)
