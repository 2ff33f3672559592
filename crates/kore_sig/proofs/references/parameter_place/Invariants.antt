use Rattle.std.proofs.Common.{◌≡◌, drop}
use Rattle.std.specs.List.{position_from}
use Rattle.std.specs.Str.{bytes_eq}
use Rattle.std.proofs.Common.{List, ℕ}
use Rattle.kore_sig.proofs.references.parameter_place.Given as goal

abbrev pub invariant-loop-i : goal.invariant-loop-i
invariant-loop-i l =
    position_from (λ (p : List ℕ). bytes_eq l.name p) l.i (drop l.i l.params)
    ≡ position_from (λ (p : List ℕ). bytes_eq l.name p) 0 l.params
