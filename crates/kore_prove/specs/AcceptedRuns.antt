-- The run for the files of a desk.
use Rattle.std.specs.Prelude.{Option}
use Rattle.desk_io.specs.Told.{Told}
use Rattle.term_core.specs.Patterns.{Pattern}
use Rattle.rule_core.specs.Theories.{RewriteTheory}
use Rattle.rule_core.specs.Runs.{Run, IsRunOf}
use Rattle.kore_prove.specs.RunWords.{RunRequest}
use Rattle.kore_prove.specs.Files.{HoldsRun}

-- The files of the request mean this program and this initial term. This is the run of the program
-- from that term, up to the limit of steps and the limit of calls.
pub record IsRunOfFiles (told : Option Told) (asked : RunRequest) (theory : RewriteTheory)
    (start : Pattern) (run : Run)
    : Type 0 where
  pub files : HoldsRun asked told theory start
  pub is_run : IsRunOf theory asked.limit asked.calls start run
