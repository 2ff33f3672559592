-- What a partly written text declares.
use Rattle.std.specs.Prelude.{◌≡◌, ℕ, true, List, []}
use Rattle.mm_text.specs.Statements.{statements_of}
use Rattle.mm_database.specs.Database.{Context, empty_context}
use Rattle.mm_database.specs.Validity.{HaveNoFault}
use Rattle.mm_text.specs.Written.{ends_white}

-- A text that has no fault, ends with white space and has no open block; and what it declares.
pub record DeclaresInText (bytes : List ℕ) (c : Context) : Type 0 where
  pub white : ends_white bytes ≡ true
  pub fine : HaveNoFault empty_context (statements_of bytes) c
  pub closed : c.blocks ≡ []
