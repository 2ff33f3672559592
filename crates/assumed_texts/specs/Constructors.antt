-- Constructors in patterns, and how the code has them.
use Rattle.std.specs.Prelude.{◌≡◌, ℕ, List, Option, Some, option_map}
use Rattle.mm_text.specs.Bytes.{Token}
use Rattle.ml_pat.specs.Patterns.{Pattern, constant}
use Rattle.term_core.specs.declared.ids.SymId.{SymId}
use Rattle.rule_core.specs.Sorting.{IsSymbol}
use Rattle.rule_core.specs.declared.signature.Signature.{Signature}
use Rattle.rule_core.specs.declared.signature.SymInfo.{SymInfo}
use Rattle.rule_core.specs.declared.signature.SymKind.TheVariants.{Ctor}
use Rattle.ml_image.specs.Images.{symbol_image}
use Rattle.ml_image.specs.OwnAxioms.{sort_numbered}
use Rattle.assumed_texts.specs.Shapes.{first_constant}

-- the symbol is applied first in the pattern
abbrev pub Leads : Signature → List Token → ℕ → Pattern → Type 0
Leads sig names f p =
    (c : ℕ) × (first_constant p ≡ Some c) × (symbol_image sig names f ≡ Some (constant c))

abbrev pub IsCtor : Signature → ℕ → Type 0
IsCtor sig f = (info : SymInfo) × IsSymbol sig f info × (info.kind ≡ Ctor)

abbrev pub symbol_number : Option SymId → Option ℕ
symbol_number r = option_map (λ (f : SymId). f.0) r

-- both results have the same sort
abbrev pub HaveOneSort : SymInfo → SymInfo → Type 0
HaveOneSort one other =
    (sort : ℕ) × (one.result ≡ sort_numbered sort) × (other.result ≡ sort_numbered sort)
