-- Words that ask for a proof of a path, as clap's definition of the command takes them.
use Rattle.std.specs.Prelude.{◌≡◌, ℕ, List, true, false, Some, codes}
use Rattle.std.specs.Option.{option_map_or}
use Rattle.std.specs.Str.Parse.{digits_value}
use Rattle.command_words.specs.CommandLine.{prove_app, value_of, usual_calls, is_named, are_bad}

-- a request for a proof of a path: the names of the files with the definition and the hints, the
-- name of the file for the proof, and the greatest number of calls of functions
pub record ProveRequest : Type 0 where
  pub definition : List ℕ
  pub hints : List ℕ
  pub proof : List ℕ
  pub calls : ℕ

-- the words are good, and ask for this proof; if they state no number of calls, it is the usual one
pub record IsProve (words : List (List ℕ)) (asked : ProveRequest) : Type 0 where
  pub good : are_bad words ≡ false
  pub named : is_named (codes "prove") words ≡ true
  pub definition_is : value_of prove_app words (codes "def") ≡ Some asked.definition
  pub hints_are : value_of prove_app words (codes "hints") ≡ Some asked.hints
  pub proof_is : value_of prove_app words (codes "proof") ≡ Some asked.proof
  pub calls_are : asked.calls
      ≡ option_map_or (digits_value 10) (value_of prove_app words (codes "calls")) usual_calls

-- the words do not ask for a proof of a path
abbrev pub IsNoProve : List (List ℕ) → Type 0
IsNoProve words = (asked : ProveRequest) → IsProve words asked → ⊥
