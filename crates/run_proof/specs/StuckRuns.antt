-- How many rules the proof of a run shows not to apply at its end, if that is wanted.
use Rattle.std.specs.Prelude.{◌≡◌, ℕ, Bool, IsTrue, length, Option, Some, None}
use Rattle.rule_core.specs.AcSymbols.{IsAcFree}
use Rattle.rule_core.specs.Runs.{Run, stuck, limited, stopped, unstarted}
use Rattle.rule_core.specs.Theories.{RewriteTheory}

-- no rule applies at the end of the run
abbrev pub IsStuck : Run → Type 0
IsStuck (stuck n t) = Unit {0}
IsStuck (limited n t) = ⊥
IsStuck (stopped n cause t) = ⊥
IsStuck (unstarted cause) = ⊥

-- this can be shown where no constructor is AC
abbrev pub CanShow : RewriteTheory → Run → Type 0
CanShow theory run = IsStuck run × IsAcFree theory.sig

-- how many rules are shown unmet, if that is wanted: all of them where it can be shown, and else none
abbrev pub IsShown : Bool → RewriteTheory → Run → Option ℕ → Type 0
IsShown wanted theory run (Some k) =
    IsTrue wanted × CanShow theory run × (k ≡ length theory.rules)
IsShown wanted theory run None = IsTrue wanted → CanShow theory run → ⊥
