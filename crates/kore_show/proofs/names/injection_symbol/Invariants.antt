use Rattle.std.proofs.Common.{◌≡◌, drop}
use Rattle.kore_show.specs.KorePatterns.{injection_name}
use Rattle.kore_show.proofs.names.injection_symbol.Given as goal

abbrev pub invariant-loop-n : goal.invariant-loop-n
invariant-loop-n l = injection_name (drop l.n l.symbols) ≡ injection_name l.symbols
