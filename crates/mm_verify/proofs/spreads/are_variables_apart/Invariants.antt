use Rattle.std.specs.Prelude.{◌≡◌, true, take}
use Rattle.std.specs.List.{list_all}
use Rattle.mm_verify.specs.Pairs.{is_variable_apart}
use Rattle.mm_verify.proofs.spreads.are_variables_apart.Given as goal

abbrev pub invariant-loop-x : goal.invariant-loop-x
invariant-loop-x g l =
    list_all (λ x. list_all (is_variable_apart (g.P.Place.place l.place) x) l.ys)
    (take l.x-index l.xs) ≡ true
