-- Values and their images, and how the values of the code are seen.
use Rattle.std.specs.Prelude.{◌≡◌, ℕ, List, Option, Some, option_map, slice_get}
use Rattle.ml_pat.specs.Patterns.{Pattern}
use Rattle.term_core.specs.Terms.{DomainValue}
use Rattle.term_core.specs.Patterns.{domain_value}
use Rattle.term_core.specs.ValueTexts.{value_text}
use Rattle.term_core.specs.Values.{value_of}
use Rattle.term_core.specs.declared.values.Value.{Value}
use Rattle.rule_core.specs.Sorting.{HasValue, IsValueOf}
use Rattle.rule_core.specs.declared.signature.Signature.{Signature}
use Rattle.rule_core.specs.declared.signature.SortInfo.{SortInfo}
use Rattle.rule_core.specs.declared.signature.SortKind.{SortKind}
use Rattle.ml_image.specs.Images.{image_of}
use Rattle.true_facts.specs.declared.values.Typed.{Typed}

-- the pattern is the image of this value of this sort
abbrev pub IsValueAt : Signature → List (List ℕ) → Pattern → ℕ × DomainValue → Type 0
IsValueAt sig names p x =
    HasValue sig x.0 x.1 × (image_of sig names (domain_value x.0 x.1) ≡ Some p)

-- the sort with this number is of this kind
abbrev pub IsKindAt : Signature → ℕ → SortKind → Type 0
IsKindAt sig s kind =
    (name : List ℕ) × (info : SortInfo) × (slice_get sig.sorts s ≡ Some (name, info))
    × (info.kind ≡ kind)

-- the value of a sort of this kind with this text
abbrev pub HasValueText : SortKind → List ℕ → DomainValue → Type 0
HasValueText k bytes v = IsValueOf k v × (value_text v ≡ bytes)

abbrev pub value_found : Option Value → Option DomainValue
value_found r = option_map value_of r

abbrev pub typed_value : Typed → ℕ × DomainValue
typed_value t = (t.sort.0, value_of t.value)

abbrev pub typed_found : Option Typed → Option (ℕ × DomainValue)
typed_found r = option_map typed_value r
