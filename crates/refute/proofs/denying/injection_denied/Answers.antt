use Rattle.refute.proofs.Growing.{setting_grown}
use Rattle.refute.proofs.denying.injection_denied.Goals as goal

pub above_injection-requires-clause-setting : goal.above_injection-requires-clause-setting
above_injection-requires-clause-setting c =
    setting_grown c.args.cx.now c.as_unequal.new.cx c.args.setting.now c.in_ok-differ.ensures.grown
    c.requires.setting
