-- How the ends of the code are runs of the definition.
use Rattle.rule_core.specs.Theories.{RewriteTheory}
use Rattle.rule_core.specs.RunView.{cause_of}
use Rattle.rule_core.specs.Runs.{Run, stuck, limited, stopped, unstarted}
use Rattle.rewriter.specs.Configurations.{IsConfiguration}
use Rattle.run_loop.specs.declared.ends.RunEnd.{RunEnd}
use Rattle.run_loop.specs.declared.ends.RunEnd.TheVariants as end

-- the run that has this end
abbrev pub plain_run : RunEnd → Run
plain_run (end.Stuck n t) = stuck n t
plain_run (end.Limit n t) = limited n t
plain_run (end.Blocked n why t) = stopped n (cause_of why) t
plain_run (end.Unstarted why) = unstarted (cause_of why)

-- the last configuration of the run, if there is one, is a term of the rules' sort
abbrev pub IsSortedEnd : RewriteTheory → Run → Type 0
IsSortedEnd theory (stuck n t) = IsConfiguration theory t
IsSortedEnd theory (limited n t) = IsConfiguration theory t
IsSortedEnd theory (stopped n cause t) = IsConfiguration theory t
IsSortedEnd theory (unstarted cause) = Unit {0}
