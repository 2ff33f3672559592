-- Words that no command takes.
use Rattle.std.specs.Prelude.{◌≡◌, ℕ, List, true}
use Rattle.command_words.specs.CommandLine.{are_bad}

-- no command takes the words
pub record AreBad (words : List (List ℕ)) : Type 0 where
  pub bad : are_bad words ≡ true
