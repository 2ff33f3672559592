-- The injection symbol, if there is one.
use Rattle.std.specs.Prelude.{◌≢◌, ℕ, Option, Some, None}
use Rattle.term_core.specs.declared.ids.SymId.{SymId}
use Rattle.rule_core.specs.Sorting.{IsSymbol}
use Rattle.rule_core.specs.Evaluation.{IsInjectionSymbol}
use Rattle.rule_core.specs.declared.signature.Signature.{Signature}
use Rattle.rule_core.specs.declared.signature.SymInfo.{SymInfo}
use Rattle.rule_core.specs.declared.signature.SymKind.TheVariants.{Injection}

abbrev pub Injects : Signature → Option SymId → Type 0
Injects sig None = (f : ℕ) (info : SymInfo) → IsSymbol sig f info → info.kind ≢ Injection
Injects sig (Some f) = IsInjectionSymbol sig f.0
