-- Words that ask for a run, as clap's definition of the command takes them.
use Rattle.std.specs.Prelude.{◌≡◌, ℕ, Bool, List, true, false, Option, Some, option_map, codes}
use Rattle.std.specs.Option.{option_map_or}
use Rattle.std.specs.Str.Parse.{digits_value}
use Rattle.command_words.specs.CommandLine.{run_app, value_of, is_set, usual_calls, is_named}
use Rattle.command_words.specs.CommandLine.{are_bad}

-- a request for a run: the names of the files with the definition and the term, the greatest
-- numbers of steps and of calls of functions, the names of the files for the proof and for the hints
-- of the steps, if these are wanted, and whether the proof is to show that a stuck run is stuck
pub record RunRequest : Type 0 where
  pub definition : List ℕ
  pub term : List ℕ
  pub limit : ℕ
  pub calls : ℕ
  pub proof : Option (List ℕ)
  pub hints : Option (List ℕ)
  pub stuck : Bool

-- the words are good, and ask for this run; if they state no number of calls, it is the usual one
pub record IsRun (words : List (List ℕ)) (asked : RunRequest) : Type 0 where
  pub good : are_bad words ≡ false
  pub named : is_named (codes "run") words ≡ true
  pub definition : value_of run_app words (codes "def") ≡ Some asked.definition
  pub term : value_of run_app words (codes "term") ≡ Some asked.term
  pub limit : option_map (digits_value 10) (value_of run_app words (codes "limit"))
      ≡ Some asked.limit
  pub calls : asked.calls
      ≡ option_map_or (digits_value 10) (value_of run_app words (codes "calls")) usual_calls
  pub proof : asked.proof ≡ value_of run_app words (codes "proof")
  pub hints : asked.hints ≡ value_of run_app words (codes "hints")
  pub stuck : asked.stuck ≡ is_set run_app words (codes "stuck")
