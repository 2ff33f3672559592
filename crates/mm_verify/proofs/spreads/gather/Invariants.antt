use Rattle.std.proofs.Common.{◌≡◌, ◌++◌, drop}
use Rattle.std.specs.Prelude.{filter}
use Rattle.mm_verify.proofs.spreads.gather.Given as goal

abbrev pub invariant-loop-symbol : goal.invariant-loop-symbol
invariant-loop-symbol g l =
    l.to.items ++ filter (g.P.Place.place l.place).is_variable (drop l.symbol-index l.text)
    ≡ filter (g.P.Place.place l.place).is_variable l.text
