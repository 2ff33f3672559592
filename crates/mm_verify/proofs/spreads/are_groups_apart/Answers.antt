use Rattle.std.proofs.Common.{◌≡◌, refl, drop, length, arith}
use Rattle.std.proofs.lemmas.List.{length-drop}
use Rattle.mm_verify.proofs.spreads.are_groups_apart.Goals as goal

pub loop-group-init : goal.loop-group-init
loop-group-init g c =
    let p = g.P.Place.place c.args.place.now in
    let entries = drop c.args.base c.args.stack.now in
    let size : length entries ≡ c.saturating_sub.result =
    omega (
      arith,
      length-drop c.args.base c.args.stack.now,
      c.saturating_sub.ensures,
      c.len.ensures,
    ) in
    record {
      known = c.in_ok-clear.ensures p entries size c.requires.noted;
      all = refl;
    }
