-- Words that ask to check what a database justifies, as clap's definition of the command takes them.
use Rattle.std.specs.Prelude.{◌≡◌, ℕ, List, true, false, Some, codes}
use Rattle.command_words.specs.CommandLine.{check_app, value_of, is_named, are_bad}

-- a request for a check: the names of the files with the definition and the database
pub record CheckRequest : Type 0 where
  pub definition : List ℕ
  pub file : List ℕ

-- the words are good, and ask for this check
pub record IsCheck (words : List (List ℕ)) (asked : CheckRequest) : Type 0 where
  pub good : are_bad words ≡ false
  pub named : is_named (codes "check") words ≡ true
  pub definition_is : value_of check_app words (codes "def") ≡ Some asked.definition
  pub file_is : value_of check_app words (codes "file") ≡ Some asked.file

-- the words do not ask for a check
abbrev pub IsNoCheck : List (List ℕ) → Type 0
IsNoCheck words = (asked : CheckRequest) → IsCheck words asked → ⊥
