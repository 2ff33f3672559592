-- Constructors that are associative, commutative or idempotent, or have a unit.
use Rattle.std.specs.Prelude.{◌≡◌, ℕ, IsTrue}
use Rattle.rule_core.specs.declared.signature.Signature.{Signature}
use Rattle.rule_core.specs.declared.signature.SortKind.TheVariants as kind
use Rattle.rule_core.specs.declared.signature.SymInfo.{SymInfo}
use Rattle.rule_core.specs.declared.signature.SymKind.TheVariants.{Ctor}
use Rattle.rule_core.specs.Sorting.{IsSymbol}

-- the symbol with this number is a constructor that is associative, commutative or idempotent, or
-- has a unit
abbrev pub IsAcConstructor : Signature → ℕ → Type 0
IsAcConstructor sig f = (info : SymInfo) × IsSymbol sig f info × (info.kind ≡ Ctor) × IsTrue info.ac

-- no symbol is such a constructor
abbrev pub IsAcFree : Signature → Type 0
IsAcFree sig = (f : ℕ) → IsAcConstructor sig f → ⊥
