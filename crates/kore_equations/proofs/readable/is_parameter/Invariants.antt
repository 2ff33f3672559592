use Rattle.std.proofs.Common.{◌≡◌, drop}
use Rattle.std.specs.List.{list_any}
use Rattle.std.specs.Str.{bytes_eq}
use Rattle.kore_equations.proofs.readable.is_parameter.Given as goal

abbrev pub invariant-loop-param : goal.invariant-loop-param
invariant-loop-param l =
    list_any (bytes_eq l.name) (drop l.param-index l.params) ≡ list_any (bytes_eq l.name) l.params
