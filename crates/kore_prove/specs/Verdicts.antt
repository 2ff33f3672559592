-- The verdict on a database, its line, and what a call printed of it.
use Rattle.std.specs.Prelude.{◌≡◌, ℕ, List, [], ◌∷◌, ◌++◌, Option, codes, decimal}
use Rattle.mm_text.specs.declared.fault.MmFault.{MmFault}
use Rattle.mm_database.specs.Validity.{IsValid, IsFirstFault}
use Rattle.mm_database.specs.Assertions.{axiom_count, theorem_count}
use Rattle.desk_io.specs.Told.{Told}
use Rattle.desk_io.specs.Sent.{Appends}
use Rattle.kore_prove.specs.Limits.{HoldsWithin}
use Rattle.kore_prove.specs.VerifyWords.{IsVerify}
use Rattle.kore_prove.specs.Courses.{Call}

-- `valid A P`, followed by a newline
abbrev pub valid_line : ℕ → ℕ → List ℕ
valid_line axioms theorems =
    codes "valid " ++ (decimal axioms ++ (codes " " ++ (decimal theorems ++ 10 ∷ [])))

-- `invalid K at B`, followed by a newline
abbrev pub invalid_line : ℕ → ℕ → List ℕ
invalid_line kind byte =
    codes "invalid " ++ (decimal kind ++ (codes " at " ++ (decimal byte ++ 10 ∷ [])))

-- the greatest number of bytes of a database
abbrev pub database_limit : ℕ
database_limit = 268435456

-- The file is a valid database within the limit. The output grew by the line with its numbers of
-- `$a` and of `$p` statements, or by a part from its front: `Grew` is `Appends` or `AppendsFront`.
pub record SendsValid (Grew : Option (List ℕ) → Option (List ℕ) → List ℕ → Type 0)
    (told : Option Told) (file : List ℕ) (before after : Option (List ℕ)) : Type 0 where
  pub bytes : List ℕ
  pub held : HoldsWithin told file database_limit bytes
  pub valid : IsValid bytes
  pub line : Grew before after (valid_line (axiom_count bytes) (theorem_count bytes))

-- The file is within the limit and not a valid database. The output grew by the line with the kind
-- and the byte of its first fault, or by a part from its front.
pub record SendsInvalid (Grew : Option (List ℕ) → Option (List ℕ) → List ℕ → Type 0)
    (told : Option Told) (file : List ℕ) (before after : Option (List ℕ)) : Type 0 where
  pub bytes : List ℕ
  pub held : HoldsWithin told file database_limit bytes
  pub not_valid : IsValid bytes → ⊥
  pub fault : MmFault
  pub first : IsFirstFault bytes fault
  pub line : Grew before after (invalid_line fault.kind fault.at)

-- the whole line was printed
abbrev pub SaysValid : Option Told → List ℕ → Option (List ℕ) → Option (List ℕ) → Type 0
SaysValid = SendsValid Appends

abbrev pub SaysInvalid : Option Told → List ℕ → Option (List ℕ) → Option (List ℕ) → Type 0
SaysInvalid = SendsInvalid Appends

-- If the words ask to verify a database, the exit code 0 says that it is valid, and 12 that it is
-- not. In both cases the output has its line. If the desk does not tell its files, some bytes
-- within the limit have this verdict.
abbrev pub PrintsVerdict : Call → ℕ → Type 0
PrintsVerdict c code =
    (file : List ℕ) → IsVerify c.words file
    → (code ≡ 0 → SaysValid c.course.desk.told file c.course.out.bytes c.course.out'.bytes)
    × (code ≡ 12 → SaysInvalid c.course.desk.told file c.course.out.bytes c.course.out'.bytes)
