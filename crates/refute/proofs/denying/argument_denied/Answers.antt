use Rattle.std.proofs.lemmas.Option.{slice_get_within}
use Rattle.refute.proofs.Applications.{read_there}
use Rattle.refute.proofs.Growing.{setting_grown}
use Rattle.refute.proofs.denying.argument_denied.Goals as goal

pub above_argument-requires-clause-setting : goal.above_argument-requires-clause-setting
above_argument-requires-clause-setting c =
    setting_grown c.args.cx.now c.as_disjoint.new.cx c.args.setting.now c.in_ok-none.ensures.grown
    c.requires.setting

pub above_argument-requires-clause-denies : goal.above_argument-requires-clause-denies
above_argument-requires-clause-denies c = (
  c.index-args-i.result,
  c.index-wholes-i.result,
  read_there c.args.args.now c.args.i c.index-args-i.result
      (slice_get_within c.args.args.now c.args.i c.requires.denies.0 c.requires.denies.2)
      c.index-args-i.is,
  read_there c.args.wholes.now c.args.i c.index-wholes-i.result
      (slice_get_within c.args.wholes.now c.args.i c.requires.denies.1 c.requires.denies.3)
      c.index-wholes-i.is,
  c.in_ok-none.ensures.denies,
)
