-- Files in memory: how far one of them is read, and which one is created. The created file is the
-- first.
use Rattle.std.specs.Prelude.{ℕ, ◌-◌, Bool, true, false, List, [], ◌∷◌, take, drop, map}
use Rattle.std.specs.Prelude.{slice_index_or, Option, Some, None, String, string_bytes}
use Rattle.std.specs.Global.{Vec, Global}
use Rattle.desk_io.specs.declared.mem_desk.Place.{Place}

-- the files, each as the bytes of its name and its content
abbrev pub named_bytes : List (String Global × Vec ℕ) → List (List ℕ × List ℕ)
named_bytes files = map (λ (f : String Global × Vec ℕ). (string_bytes f.0, f.1.items)) files

-- the content of the opened file, empty if none is open
abbrev pub content_of : List (List ℕ × List ℕ) → Option Place → List ℕ
content_of files None = []
content_of files (Some place) = (slice_index_or files place.file ([], [])).1

-- how many bytes of the opened file have been read
abbrev pub passed_of : Option Place → ℕ
passed_of None = 0
passed_of (Some place) = place.passed

-- how many bytes the opened file had when it was opened; a later write may add to it
abbrev pub end_of : Option Place → ℕ
end_of None = 0
end_of (Some place) = place.end

-- the unread bytes of the opened file
abbrev pub unread_part : List (List ℕ × List ℕ) → Option Place → List ℕ
unread_part files reading =
    take (end_of reading - passed_of reading) (drop (passed_of reading) (content_of files reading))

-- the name of the created file, if one is created
abbrev pub created_name : Bool → List (List ℕ × List ℕ) → Option (List ℕ)
created_name false files = None
created_name true [] = None
created_name true (file ∷ files) = Some file.0
