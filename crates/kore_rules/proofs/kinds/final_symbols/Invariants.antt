use Rattle.std.proofs.Common.{take}
use Rattle.std.specs.List.{AllZip}
use Rattle.kore_rules.specs.ScalarSorts.{IsFinal}
use Rattle.kore_rules.proofs.kinds.final_symbols.Given as goal

abbrev pub invariant-loop-number : goal.invariant-loop-number
invariant-loop-number l =
    AllZip (IsFinal l.sig l.with_terms l.unreadable) (take l.number l.sig.symbols) l.symbols
