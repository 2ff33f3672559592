-- The places of variables among the mandatory hypotheses of an assertion.
use Rattle.std.specs.Prelude.{◌≡◌, ℕ, Bool, true, false, nat_eq, List, Option, Some, None}
use Rattle.std.specs.Prelude.{if◌then◌else◌, map}
use Rattle.std.specs.List.{position_from}
use Rattle.std.specs.Ordering.{nat_cmp}
use Rattle.std.specs.BTreeMap.{get, BTreeMap}
use Rattle.std.specs.Global.{Vec}
use Rattle.mm_frame.specs.Numbered.{NumberedHypothesis}
use Rattle.mm_frame.specs.PlainFrames.{types_number}
use Rattle.mm_verify.specs.declared.parts.Part.{Part}

-- the place of the first `$f` of a variable: none if the variable has no `$f`
abbrev pub place_of : List NumberedHypothesis → ℕ → Option ℕ
place_of hypotheses symbol = position_from (types_number symbol) 0 hypotheses

-- the place that a variable has already, or else this one if the variable is typed there
abbrev pub first_place : Option ℕ → Bool → ℕ → Option ℕ
first_place (Some place) typed i = Some place
first_place None true i = Some i
first_place None false i = None

-- there is a variable, and it is this symbol
abbrev pub is_this : ℕ → Option ℕ → Bool
is_this symbol None = false
is_this symbol (Some variable) = nat_eq variable symbol

abbrev pub symbol_of : Part → ℕ
symbol_of p = p.symbol

abbrev pub place_in : Part → Option ℕ
place_in p = if nat_eq p.place 4294967295 then None else Some p.place

-- each part has the place of its symbol
abbrev pub ArePlaced : List NumberedHypothesis → List Part → Type 0
ArePlaced hypotheses parts = map place_in parts ≡ map (place_of hypotheses) (map symbol_of parts)

-- the parts of a group, and their symbols
abbrev pub parts_of : Vec Part → List Part
parts_of group = group.items

abbrev pub symbols_in : Vec Part → List ℕ
symbols_in group = map symbol_of group.items

-- the table has the places of these hypotheses
abbrev pub IsTable : BTreeMap ℕ ℕ → List NumberedHypothesis → Type 0
IsTable places hypotheses = (symbol : ℕ) → get nat_cmp places symbol ≡ place_of hypotheses symbol
