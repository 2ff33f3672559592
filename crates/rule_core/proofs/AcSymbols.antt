-- Whether a look-up in the table of symbols finds a constructor that is associative, commutative or
-- idempotent, or has a unit.
use Rattle.std.proofs.Common.{◌≡◌, ◌<◌, ℕ, List, length, Option, Some, None, option_map, slice_get}
use Rattle.std.proofs.Common.{sym, ◌∙◌, ap}
use Rattle.std.specs.Prelude.{IsTrue}
use Rattle.std.proofs.lemmas.Option.{slice_get_within}
use Rattle.rule_core.specs.Sorting.{IsSymbol}
use Rattle.rule_core.specs.AcSymbols.{IsAcConstructor}
use Rattle.rule_core.specs.declared.signature.Signature.{Signature}
use Rattle.rule_core.specs.declared.signature.SymInfo.{SymInfo}
use Rattle.rule_core.specs.declared.signature.SymKind.TheVariants.{Ctor}

named : (entry : Option (List ℕ × SymInfo)) (info : SymInfo)
    → Some info ≡ option_map (λ (e : List ℕ × SymInfo). e.1) entry
    → (name : List ℕ) × (entry ≡ Some (name, info))
named None info is = absurd (cc)
named (Some (name, other)) info is =
    (name, let same : info ≡ other = cc in ap (λ (i : SymInfo). Some (name, i)) (sym same))

-- the entry in which a value was found
pub symbol_found : (sig : Signature) (f : ℕ) (info : SymInfo)
    → Some info ≡ option_map (λ (e : List ℕ × SymInfo). e.1) (slice_get sig.symbols f)
    → IsSymbol sig f info
symbol_found sig f info is = named (slice_get sig.symbols f) info is

-- a symbol has only one declaration
pub symbol_same : (sig : Signature) (f : ℕ) (info other : SymInfo)
    → Some info ≡ option_map (λ (e : List ℕ × SymInfo). e.1) (slice_get sig.symbols f)
    → IsSymbol sig f other → info ≡ other
symbol_same sig f info other is (name, there) =
    let both : Some info ≡ Some other =
    is ∙ ap (λ o. option_map (λ (e : List ℕ × SymInfo). e.1) o) there in
    cc

pub ac_found : (sig : Signature) (f : ℕ) (info : SymInfo)
    → Some info ≡ option_map (λ (e : List ℕ × SymInfo). e.1) (slice_get sig.symbols f)
    → info.kind ≡ Ctor → IsTrue info.ac → IsAcConstructor sig f
ac_found sig f info is kind holds = (info, symbol_found sig f info is, kind, holds)

pub ac_within : (sig : Signature) (f : ℕ) → IsAcConstructor sig f → f < length sig.symbols
ac_within sig f (info, (name, there), kind, holds) =
    slice_get_within sig.symbols f (name, info) there
