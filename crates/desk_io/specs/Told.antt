-- What a desk tells of its files. If it tells nothing, a clause on it says nothing.
use Rattle.std.specs.Prelude.{◌≡◌, ℕ, if◌then◌else◌, List, [], ◌∷◌, Option, Some, None, nat_eq}
use Rattle.std.specs.Cmp.Lexicographic.{pointwise}

-- The files, each as the bytes of its name and its content. The unread bytes of the opened file:
-- none if no file is open. The name of the created file, if one is created: it is the name of one
-- of the files, by its bytes.
pub record Told : Type 0 where
  pub files : List (List ℕ × List ℕ)
  pub unread : List ℕ
  pub created : Option (List ℕ)

-- the content of the first file of that name
abbrev pub file_of : List (List ℕ × List ℕ) → List ℕ → Option (List ℕ)
file_of [] name = None
file_of (file ∷ files) name =
    if pointwise nat_eq file.0 name then Some file.1 else file_of files name

-- there is a file of that name, with this content
abbrev pub Holds : Option Told → List ℕ → List ℕ → Type 0
Holds None name content = Unit {0}
Holds (Some told) name content = file_of told.files name ≡ Some content
