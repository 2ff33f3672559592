-- Words that ask to verify a database, as clap's definition of the command takes them.
use Rattle.std.specs.Prelude.{◌≡◌, ℕ, List, true, false, Some, codes}
use Rattle.command_words.specs.CommandLine.{verify_app, value_of, is_named, are_bad}

-- the words are good, and ask to verify the database in this file
pub record IsVerify (words : List (List ℕ)) (file : List ℕ) : Type 0 where
  pub good : are_bad words ≡ false
  pub named : is_named (codes "verify") words ≡ true
  pub file_is : value_of verify_app words (codes "file") ≡ Some file

-- the words do not ask to verify a database
abbrev pub IsNoVerify : List (List ℕ) → Type 0
IsNoVerify words = (file : List ℕ) → IsVerify words file → ⊥
