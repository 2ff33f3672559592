use Rattle.std.proofs.Common.{◌≡◌, ℕ, List, drop}
use Rattle.std.specs.List.{position_from}
use Rattle.rule_core.specs.declared.signature.SymInfo.{SymInfo}
use Rattle.ml_image.specs.Images.{injection_symbol}
use Rattle.rule_core.specs.KindTests.{is_injection}
use Rattle.ml_image.proofs.images.injection_symbol.Given as goal

abbrev pub invariant-loop-symbol : goal.invariant-loop-symbol
invariant-loop-symbol l =
    position_from (λ (e : List ℕ × SymInfo). is_injection e.1.kind) l.symbol
    (drop l.symbol l.sig.symbols) ≡ injection_symbol l.sig
