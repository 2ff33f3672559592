-- What the commands of the code ask for.
use Rattle.std.specs.Prelude.{◌≡◌, ℕ, ◌⊎◌, ◌≤◌, IsFalse, List, Some, None, option_copied}
use Rattle.command_words.specs.CommandLine.{most_drilled}
use Rattle.command_words.specs.declared.commands.RunWords.{RunWords}
use Rattle.command_words.specs.declared.commands.CheckWords.{CheckWords}
use Rattle.command_words.specs.declared.commands.ProveWords.{ProveWords}
use Rattle.command_words.specs.declared.commands.DrillWords.{DrillWords}
use Rattle.command_words.specs.declared.commands.Command.{Command}
use Rattle.command_words.specs.declared.commands.Command.TheVariants as command
use Rattle.kore_prove.specs.CheckWords.{CheckRequest, IsCheck}
use Rattle.kore_prove.specs.ProveWords.{ProveRequest, IsProve}
use Rattle.kore_prove.specs.DrillWords.{DrillRequest, IsDrill}
use Rattle.kore_prove.specs.RunWords.{RunRequest, IsRun}
use Rattle.kore_prove.specs.VerifyWords.{IsVerify}
use Rattle.kore_prove.specs.declared.running.Bounds.{Bounds}

-- the run of the request
abbrev pub request : RunWords → RunRequest
request r = record {
  definition = r.definition.now;
  term = r.term.now;
  limit = r.limit;
  calls = r.calls;
  proof = option_copied r.proof;
  hints = option_copied r.hints;
  stuck = r.stuck;
}

-- how far the run may go
abbrev pub bounds_of : RunRequest → Bounds
bounds_of asked = record { limit = asked.limit; calls = asked.calls }

-- the check of the request
abbrev pub check_request : CheckWords → CheckRequest
check_request c = record { definition = c.definition.now; file = c.file.now }

-- the proof of a path of the request
abbrev pub prove_request : ProveWords → ProveRequest
prove_request p = record {
  definition = p.definition.now;
  hints = p.hints.now;
  proof = p.proof.now;
  calls = p.calls;
}

-- the drill of the request
abbrev pub drill_request : DrillWords → DrillRequest
drill_request d = record { steps = d.steps; file = d.file.now }

-- the proof and the hints of a run go to two files; what a proof shows at its end is wanted only
-- where a proof is wanted
pub record HasGoodFiles (asked : RunRequest) : Type 0 where
  pub two : (file : List ℕ) → asked.proof ≡ Some file → asked.hints ≡ Some file → ⊥
  pub shown_there : asked.proof ≡ None → IsFalse asked.stuck

-- the words ask for this; the steps of a drill are within its limit
abbrev pub AsksFor : List (List ℕ) → Command → Type 0
AsksFor words (command.Run r) = IsRun words (request r) × HasGoodFiles (request r)
AsksFor words (command.Verify file) = IsVerify words file.now
AsksFor words (command.Check c) = IsCheck words (check_request c)
AsksFor words (command.Prove p) = IsProve words (prove_request p)
AsksFor words (command.Drill d) = IsDrill words (drill_request d) × (d.steps ≤ most_drilled)

-- the file is the one for the proof, which is wanted
abbrev pub IsWanted : RunRequest → List ℕ → Type 0
IsWanted asked file = asked.proof ≡ Some file

-- the same, or the one for the hints
abbrev pub IsWrittenBy : RunRequest → List ℕ → Type 0
IsWrittenBy asked file = (asked.proof ≡ Some file) ⊎ (asked.hints ≡ Some file)

-- the file is the one for the proof of the path
abbrev pub IsPathFile : ProveRequest → List ℕ → Type 0
IsPathFile asked file = Some asked.proof ≡ Some file

-- the file is the one for the proof of the drill
abbrev pub IsDrillFile : DrillRequest → List ℕ → Type 0
IsDrillFile asked file = Some asked.file ≡ Some file
