-- What tests require of their programs.
use Rattle.std.specs.Prelude.{◌≡◌, ℕ, List, slice_get, Some}
use Rattle.rule_core.specs.declared.signature.Signature.{Signature}
use Rattle.rule_core.specs.declared.signature.SortInfo.{SortInfo}
use Rattle.rule_core.specs.declared.signature.SortKind.TheVariants as kind

-- sort 0 is the sort of whole numbers
abbrev pub HasIntegers : Signature → Type 0
HasIntegers sig =
    (name : List ℕ) × (info : SortInfo) × (slice_get sig.sorts 0 ≡ Some (name, info))
    × (info.kind ≡ kind.Int)
