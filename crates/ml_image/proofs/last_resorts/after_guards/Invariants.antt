use Rattle.std.proofs.Common.{◌≡◌, map, drop}
use Rattle.rule_core.specs.ProgramView.{guard_of}
use Rattle.ml_image.specs.HasImages.{after_guards}
use Rattle.ml_image.proofs.last_resorts.after_guards.Given as goal

abbrev pub invariant-loop-guard : goal.invariant-loop-guard
invariant-loop-guard l =
    after_guards l.next (map guard_of (drop l.guard-index l.guards))
    ≡ after_guards l.first (map guard_of l.guards)
