-- What is the only thing with a property.
use Rattle.std.specs.Prelude.{◌≡◌, ◌↔◌, Option, Some}

-- the only thing with the property, or None if nothing has it
abbrev pub IsOnly : {A : Type 0} → (A → Type 0) → Option A → Type 0
IsOnly {A} P found = (a : A) → P a ↔ (found ≡ Some a)
