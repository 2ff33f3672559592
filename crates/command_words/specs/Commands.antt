-- What good words ask for.
use Rattle.std.specs.Prelude.{◌≡◌, ◌≤◌, List, true, Some, option_map, option_copied, codes}
use Rattle.std.specs.Option.{option_map_or}
use Rattle.std.specs.Str.Parse.{digits_value}
use Rattle.clap.specs.Walk.{Text}
use Rattle.command_words.specs.declared.commands.RunWords.{RunWords}
use Rattle.command_words.specs.declared.commands.CheckWords.{CheckWords}
use Rattle.command_words.specs.declared.commands.ProveWords.{ProveWords}
use Rattle.command_words.specs.declared.commands.DrillWords.{DrillWords}
use Rattle.command_words.specs.declared.commands.Command.{Command}
use Rattle.command_words.specs.declared.commands.Command.TheVariants as command
use Rattle.command_words.specs.CommandLine.{run_app, verify_app, check_app, prove_app, drill_app}
use Rattle.command_words.specs.CommandLine.{value_of, is_set, usual_calls, most_drilled, is_named}

-- to run a term: the values of the arguments, and the usual number of calls if the words state none
pub record GivesRun (words : List Text) (r : RunWords) : Type 0 where
  pub named : is_named (codes "run") words ≡ true
  pub definition : value_of run_app words (codes "def") ≡ Some r.definition.now
  pub term : value_of run_app words (codes "term") ≡ Some r.term.now
  pub limit : option_map (digits_value 10) (value_of run_app words (codes "limit")) ≡ Some r.limit
  pub calls : r.calls
      ≡ option_map_or (digits_value 10) (value_of run_app words (codes "calls")) usual_calls
  pub proof : option_copied r.proof ≡ value_of run_app words (codes "proof")
  pub hints : option_copied r.hints ≡ value_of run_app words (codes "hints")
  pub stuck : r.stuck ≡ is_set run_app words (codes "stuck")

-- to verify the database in this file
pub record GivesFile (words : List Text) (file : Text) : Type 0 where
  pub named : is_named (codes "verify") words ≡ true
  pub file_is : value_of verify_app words (codes "file") ≡ Some file

-- to check what the database in a file justifies, over the program of a definition
pub record GivesCheck (words : List Text) (c : CheckWords) : Type 0 where
  pub named : is_named (codes "check") words ≡ true
  pub definition : value_of check_app words (codes "def") ≡ Some c.definition.now
  pub file : value_of check_app words (codes "file") ≡ Some c.file.now

-- to prove the steps of a hint file: the values of the arguments, and the usual number of calls if
-- the words state none
pub record GivesProve (words : List Text) (p : ProveWords) : Type 0 where
  pub named : is_named (codes "prove") words ≡ true
  pub definition : value_of prove_app words (codes "def") ≡ Some p.definition.now
  pub hints : value_of prove_app words (codes "hints") ≡ Some p.hints.now
  pub proof : value_of prove_app words (codes "proof") ≡ Some p.proof.now
  pub calls : p.calls
      ≡ option_map_or (digits_value 10) (value_of prove_app words (codes "calls")) usual_calls

-- to drill the program: the number of steps, and the file for the proof
pub record GivesDrill (words : List Text) (d : DrillWords) : Type 0 where
  pub named : is_named (codes "drill") words ≡ true
  pub steps : option_map (digits_value 10) (value_of drill_app words (codes "n")) ≡ Some d.steps
  pub some_steps : 1 ≤ d.steps
  pub few_steps : d.steps ≤ most_drilled
  pub file : value_of drill_app words (codes "file") ≡ Some d.file.now

abbrev pub Gives : List Text → Command → Type 0
Gives words (command.Run r) = GivesRun words r
Gives words (command.Verify file) = GivesFile words file.now
Gives words (command.Check c) = GivesCheck words c
Gives words (command.Prove p) = GivesProve words p
Gives words (command.Drill d) = GivesDrill words d
