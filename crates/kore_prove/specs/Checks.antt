-- What a database justifies over the program of a definition, and what a call printed of it.
use Rattle.std.specs.Prelude.{◌≡◌, ℕ, List, [], ◌∷◌, ◌++◌, Option, codes, decimal}
use Rattle.desk_io.specs.Told.{Told}
use Rattle.desk_io.specs.Sent.{Appends}
use Rattle.mm_text.specs.Bytes.{Token}
use Rattle.mm_text.specs.declared.fault.MmFault.{MmFault}
use Rattle.mm_database.specs.Validity.{IsValid, IsFirstFault}
use Rattle.ml_pat.specs.Patterns.{Pattern}
use Rattle.rule_core.specs.Theories.{RewriteTheory}
use Rattle.mm_justify.specs.Justifying.{Justifies}
use Rattle.mm_check.specs.Offences.{IsFirstOffence, JustifiesNothing}
use Rattle.mm_check.specs.OffenceNumbers.{offence_number}
use Rattle.mm_check.specs.Derived.{IsDerivedFrom}
use Rattle.mm_check.specs.JustifiedLines.{justified_lines}
use Rattle.mm_check.specs.declared.ends.Offence.{Offence}
use Rattle.kore_prove.specs.Limits.{HoldsWithin}
use Rattle.kore_prove.specs.Files.{HoldsProgram}
use Rattle.kore_prove.specs.Verdicts.{database_limit, invalid_line}
use Rattle.kore_prove.specs.CheckWords.{CheckRequest, IsCheck}
use Rattle.kore_prove.specs.Courses.{Call}

-- `unjustified K at B`, followed by a newline
abbrev pub unjustified_line : ℕ → ℕ → List ℕ
unjustified_line number byte =
    codes "unjustified " ++ (decimal number ++ (codes " at " ++ (decimal byte ++ 10 ∷ [])))

-- the file of the definition was accepted and means this program, and the other file holds these
-- bytes, within the limit
pub record HoldsCheck (told : Option Told) (asked : CheckRequest) (theory : RewriteTheory)
    (bytes : List ℕ) : Type 0 where
  pub top : Option ℕ
  pub definition : HoldsProgram told asked.definition theory top
  pub database : HoldsWithin told asked.file database_limit bytes

-- The database justifies that one pattern reaches another. So this has a derivation from what the
-- program may assume. The output grew by the three lines that say so, or by a part from their
-- front: `Grew` is `Appends` or `AppendsFront`.
pub record SendsJustified (Grew : Option (List ℕ) → Option (List ℕ) → List ℕ → Type 0)
    (told : Option Told) (asked : CheckRequest) (before after : Option (List ℕ)) : Type 0 where
  pub theory : RewriteTheory
  pub bytes : List ℕ
  pub held : HoldsCheck told asked theory bytes
  pub names : List Token
  pub from : Pattern
  pub to : Pattern
  pub justifies : Justifies bytes theory names from to
  pub derived : IsDerivedFrom theory names from to
  pub lines : Grew before after (justified_lines names from to)

-- The database is valid and justifies nothing. The output grew by the line with the number of what
-- is wrong first and the byte of that statement, or by a part from its front.
pub record SendsUnjustified (Grew : Option (List ℕ) → Option (List ℕ) → List ℕ → Type 0)
    (told : Option Told) (asked : CheckRequest) (before after : Option (List ℕ)) : Type 0 where
  pub theory : RewriteTheory
  pub bytes : List ℕ
  pub held : HoldsCheck told asked theory bytes
  pub valid : IsValid bytes
  pub nothing : JustifiesNothing bytes theory
  pub offence : Offence
  pub at : ℕ
  pub first : IsFirstOffence theory bytes offence at
  pub line : Grew before after (unjustified_line (offence_number offence) at)

-- The bytes are not a valid database. The output grew by the line with the kind and the byte of the
-- first fault, or by a part from its front.
pub record SendsFault (Grew : Option (List ℕ) → Option (List ℕ) → List ℕ → Type 0)
    (told : Option Told) (asked : CheckRequest) (before after : Option (List ℕ)) : Type 0 where
  pub theory : RewriteTheory
  pub bytes : List ℕ
  pub held : HoldsCheck told asked theory bytes
  pub not_valid : IsValid bytes → ⊥
  pub fault : MmFault
  pub first : IsFirstFault bytes fault
  pub line : Grew before after (invalid_line fault.kind fault.at)

-- If the words ask for a check, the exit code 0 says that the database justifies what is printed,
-- 12 that it is not valid, and 13 that it is valid and justifies nothing. In each case the output
-- has the lines. If the desk does not tell its files, some definition and some bytes within their
-- limits are so.
abbrev pub PrintsCheck : Call → ℕ → Type 0
PrintsCheck c code =
    (asked : CheckRequest) → IsCheck c.words asked
    → (code ≡ 0
    → SendsJustified Appends c.course.desk.told asked c.course.out.bytes c.course.out'.bytes)
    × (code ≡ 12
    → SendsFault Appends c.course.desk.told asked c.course.out.bytes c.course.out'.bytes)
    × (code ≡ 13
    → SendsUnjustified Appends c.course.desk.told asked c.course.out.bytes c.course.out'.bytes)
