-- Statements with the texts that entries give in the places of variables.
use Rattle.std.specs.Prelude.{ℕ, ◌<◌, Bool, true, false, ◌&&◌, ◌||◌, nat_eq, List, [], ◌∷◌}
use Rattle.std.specs.Prelude.{flat_map, slice_index_or, Option, Some, None, IfSome, All}
use Rattle.std.specs.List.{list_all}
use Rattle.std.specs.Global.{Vec}
use Rattle.mm_verify.specs.declared.parts.Part.{Part}
use Rattle.mm_verify.specs.declared.parts.Wanted.{Wanted}
use Rattle.mm_verify.specs.declared.parts.Wanted.TheVariants as wanted
use Rattle.mm_verify.specs.StatementView.{statement_parts}
use Rattle.mm_verify.specs.Resolved.{parts_in}
use Rattle.mm_verify.specs.Places.{symbol_of, place_in, parts_of}
use Rattle.mm_database.specs.Stack.{behind_first}
use Rattle.mm_database.specs.Proofs.{texts_apart}
use Rattle.mm_frame.specs.NumberedSteps.{NumberedPlace, same_numbers, begins_with, numbers_apart}

-- the text of the entry at a place: what stands after its typecode
abbrev pub text_at : List (List ℕ) → ℕ → List ℕ
text_at entries i = behind_first (slice_index_or entries i [])

-- the text of the entry at a place, if there is one
abbrev pub text_for : List (List ℕ) → Option ℕ → List ℕ
text_for entries None = []
text_for entries (Some i) = text_at entries i

-- the text of the entry at a place, or the symbol where there is none
abbrev pub placed_text : List (List ℕ) → ℕ → Option ℕ → List ℕ
placed_text entries symbol None = symbol ∷ []
placed_text entries symbol (Some place) = text_at entries place

abbrev pub part_text : List (List ℕ) → Part → List ℕ
part_text entries p = placed_text entries (symbol_of p) (place_in p)

abbrev pub filled : List (List ℕ) → List Part → List ℕ
filled entries parts = flat_map (part_text entries) parts

-- the place is one of so many
abbrev pub IsWithin : ℕ → Part → Type 0
IsWithin n p = IfSome (place_in p) (λ i. i < n)

abbrev pub AreWithin : ℕ → List Part → Type 0
AreWithin n parts = All (IsWithin n) parts

abbrev pub HasWithin : ℕ → Wanted → Type 0
HasWithin n w = AreWithin n (parts_in w)

abbrev pub GroupWithin : ℕ → Vec Part → Type 0
GroupWithin n group = AreWithin n (parts_of group)

-- an entry is what is wanted
abbrev pub is_wanted : List (List ℕ) → Wanted → List ℕ → Bool
is_wanted entries (wanted.Typed label typecode variable) entry = begins_with typecode entry
is_wanted entries (wanted.Stated label statement) entry =
    same_numbers entry (filled entries (statement_parts statement))

-- some entries, one by one, are what is wanted
abbrev pub are_wanted : List (List ℕ) → List Wanted → List (List ℕ) → Bool
are_wanted entries [] [] = true
are_wanted entries [] (e ∷ es) = false
are_wanted entries (w ∷ ws) [] = false
are_wanted entries (w ∷ ws) (e ∷ es) = is_wanted entries w e && are_wanted entries ws es

-- the texts of two places are kept apart
abbrev pub places_apart : NumberedPlace → List (List ℕ) → Option ℕ → Option ℕ → Bool
places_apart p entries None b = true
places_apart p entries (Some a) None = true
places_apart p entries (Some a) (Some b) =
    texts_apart (numbers_apart p) (text_at entries a) (text_at entries b)

-- two parts with different symbols are kept apart
abbrev pub are_parts_apart : NumberedPlace → List (List ℕ) → Part → Part → Bool
are_parts_apart p entries a b =
    nat_eq (symbol_of a) (symbol_of b) || places_apart p entries (place_in a) (place_in b)

abbrev pub is_group_apart : NumberedPlace → List (List ℕ) → List Part → Bool
is_group_apart p entries group = list_all (λ a. list_all (are_parts_apart p entries a) group) group

abbrev pub are_groups_apart : NumberedPlace → List (List ℕ) → List (Vec Part) → Bool
are_groups_apart p entries groups = list_all (λ g. is_group_apart p entries (parts_of g)) groups
