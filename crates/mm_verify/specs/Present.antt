-- Whether the text of a part is empty.
use Rattle.std.specs.Prelude.{ℕ, ◌==◌, Bool, not, List, length}
use Rattle.mm_verify.specs.declared.parts.Part.{Part}
use Rattle.mm_verify.specs.Filling.{part_text}

-- the text that stands for a part is not empty
abbrev pub has_text : List (List ℕ) → Part → Bool
has_text entries p = not (length (part_text entries p) == 0)
