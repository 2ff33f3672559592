-- The plain trails that represent those of the code.
use Rattle.std.specs.Prelude.{◌≡◌, ℕ, List, map, option_map}
use Rattle.std.specs.Global.{Vec}
use Rattle.std.specs.List.{list_any}
use Rattle.std.specs.Str.{bytes_eq}
use Rattle.term_core.specs.declared.ids.SortId.{SortId}
use Rattle.match_tree.specs.Trails.{Trail, was_tested}
use Rattle.match_tree.specs.declared.trails.Tested.{Tested}

abbrev pub sort_number : SortId → ℕ
sort_number s = s.0

abbrev pub plain_trail : List Tested → Trail
plain_trail trail =
    map (λ (e : Tested). (e.position.items, option_map sort_number e.source)) trail

-- these are the positions that were tested
abbrev pub HasTested : List (Vec ℕ) → Trail → Type 0
HasTested keys trail =
    (position : List ℕ) →
    list_any (λ (k : Vec ℕ). bytes_eq position k.items) keys ≡ was_tested trail position
