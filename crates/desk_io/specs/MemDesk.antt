-- What a desk in memory tells.
use Rattle.std.specs.Prelude.{ℕ, List, Option, Some}
use Rattle.desk_io.specs.Told.{Told}
use Rattle.desk_io.specs.Memory.{named_bytes, unread_part, created_name}
use Rattle.desk_io.specs.declared.mem_desk.MemDesk.{MemDesk}

-- its files, each as the bytes of its name and its content
abbrev pub files_of : MemDesk → List (List ℕ × List ℕ)
files_of desk = named_bytes desk.files.items

-- the unread bytes of the opened file
abbrev pub unread_of : MemDesk → List ℕ
unread_of desk = unread_part (files_of desk) desk.reading

-- the name of the created file
abbrev pub created_of : MemDesk → Option (List ℕ)
created_of desk = created_name desk.created (files_of desk)

abbrev pub told_of : MemDesk → Option Told
told_of desk =
    Some (record { files = files_of desk; unread = unread_of desk; created = created_of desk })
