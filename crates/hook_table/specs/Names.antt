-- Hooks by name.
use Rattle.std.specs.Prelude.{◌≡◌, ℕ, List, length, map, Option, Some}
use Rattle.std.specs.List.{position, range_with_len}
use Rattle.std.specs.Str.{bytes_eq}
use Rattle.term_core.specs.HookValues.{Hook, hooks}

-- the number of the hook with this name: its index among the hooks; none if no hook has the name
abbrev pub hook_number : List ℕ → Option ℕ
hook_number name = position (λ (h : Hook). bytes_eq h.name name) hooks

-- The number of each hook's name is the hook's own index, so no two hooks have the same name.
abbrev pub NamesDiffer : Type 0
NamesDiffer = map (λ (h : Hook). hook_number h.name) hooks
    ≡ map (λ (n : ℕ). Some n) (range_with_len 0 (length hooks))
