use Rattle.std.proofs.Common.{◌≡◌, ◌-◌}
use Rattle.stuck_prove.proofs.SettingLaws.{down_to}
use Rattle.stuck_prove.proofs.settings.setting_of.Given as goal

abbrev pub invariant-loop-x : goal.invariant-loop-x
invariant-loop-x l = l.variables.items ≡ down_to (l.count - l.x) l.x
