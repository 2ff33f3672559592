-- Files in memory: how many of them a place needs, and how they change.
use Rattle.std.specs.Prelude.{ℕ, ◌+◌, if◌then◌else◌, List, [], ◌∷◌, ◌++◌, nat_eq, Option, Some}
use Rattle.std.specs.Prelude.{None}
use Rattle.std.specs.Cmp.Lexicographic.{pointwise}
use Rattle.desk_io.specs.declared.mem_desk.Place.{Place}

-- the least number of files such that this place is among them
abbrev pub files_needed : Option Place → ℕ
files_needed None = 0
files_needed (Some place) = place.file + 1

-- the files without the first one of that name
abbrev pub without : List (List ℕ × List ℕ) → List ℕ → List (List ℕ × List ℕ)
without [] name = []
without (file ∷ files) name =
    if pointwise nat_eq file.0 name then files else file ∷ without files name

-- the files, with these bytes appended to the first one
abbrev pub grown : List (List ℕ × List ℕ) → List ℕ → List (List ℕ × List ℕ)
grown [] bytes = []
grown (file ∷ files) bytes = (file.0, file.1 ++ bytes) ∷ files
