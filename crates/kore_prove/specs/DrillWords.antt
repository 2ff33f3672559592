-- Words that ask for a drill, as clap's definition of the command takes them.
use Rattle.std.specs.Prelude.{◌≡◌, ℕ, List, true, false, Some, option_map, codes}
use Rattle.std.specs.Str.Parse.{digits_value}
use Rattle.command_words.specs.CommandLine.{drill_app, value_of, is_named, are_bad}

-- a request for a drill: the number of its steps, and the name of the file for the proof
pub record DrillRequest : Type 0 where
  pub steps : ℕ
  pub file : List ℕ

-- the words are good, and ask for this drill
pub record IsDrill (words : List (List ℕ)) (asked : DrillRequest) : Type 0 where
  pub good : are_bad words ≡ false
  pub named : is_named (codes "drill") words ≡ true
  pub steps_are : option_map (digits_value 10) (value_of drill_app words (codes "n"))
      ≡ Some asked.steps
  pub file_is : value_of drill_app words (codes "file") ≡ Some asked.file

-- the words do not ask for a drill
abbrev pub IsNoDrill : List (List ℕ) → Type 0
IsNoDrill words = (asked : DrillRequest) → IsDrill words asked → ⊥
