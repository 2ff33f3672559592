use Rattle.std.specs.Prelude.{◌≡◌, true, take}
use Rattle.std.specs.List.{list_all}
use Rattle.mm_verify.specs.Pairs.{is_variable_apart}
use Rattle.mm_verify.proofs.spreads.is_variable_apart.Given as goal

abbrev pub invariant-loop-y : goal.invariant-loop-y
invariant-loop-y g l =
    list_all (is_variable_apart (g.P.Place.place l.place) l.x) (take l.y-index l.ys) ≡ true
