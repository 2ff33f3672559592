-- Whether a symbol is an injection, as the code tests it.
use Rattle.std.specs.Prelude.{◌≡◌, ℕ, Bool, List, slice_get, Some}
use Rattle.rule_core.specs.declared.signature.Signature.{Signature}
use Rattle.rule_core.specs.declared.signature.SymInfo.{SymInfo}
use Rattle.rule_core.specs.KindTests.{is_injection}

-- whether the symbol with this number is an injection
abbrev pub IsInjectionAt : Signature → ℕ → Bool → Type 0
IsInjectionAt sig i injects =
    (e : List ℕ × SymInfo) → slice_get sig.symbols i ≡ Some e → injects ≡ is_injection e.1.kind
