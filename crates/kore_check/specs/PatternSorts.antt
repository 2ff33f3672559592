-- The sorts of patterns (Kore language document, "Well-formed patterns"). Only the head of a
-- pattern decides its sort.
use Rattle.std.specs.Prelude.{◌==◌, ℕ, List, [], ◌∷◌, length, slice_get, Option, Some, None}
use Rattle.std.specs.Prelude.{option_map, if◌then◌else◌}
use Rattle.std.specs.Option.{option_and_then}
use Rattle.kore_text.specs.Trees.{SortTree}
use Rattle.rule_core.specs.Named.{number_of_name}
use Rattle.rule_core.specs.Sorting.{sort_at}
use Rattle.rule_core.specs.declared.signature.Signature.{Signature}
use Rattle.rule_core.specs.declared.signature.SortInfo.{SortInfo}
use Rattle.rule_core.specs.declared.signature.SortKind.{SortKind}
use Rattle.rule_core.specs.declared.signature.SymInfo.{SymInfo}
use Rattle.rule_core.specs.declared.signature.SortRef.{SortRef}
use Rattle.rule_core.specs.declared.signature.SortRef.TheVariants.{Param, Sort}
use Rattle.kore_sig.specs.SortReferences.{sort_number}
use Rattle.kore_check.specs.Folds.{Unfolded, named_variable, written_value, applied_symbol}
use Rattle.kore_check.specs.Folds.{both_of, other_form}

-- the kind of the declared sort with this number
abbrev pub sort_kind : Signature → ℕ → Option SortKind
sort_kind sig s = option_map (λ (e : List ℕ × SortInfo). e.1.kind) (slice_get sig.sorts s)

-- the declaration of the symbol with this number
abbrev pub symbol_info : Signature → ℕ → Option SymInfo
symbol_info sig f = option_map (λ (e : List ℕ × SymInfo). e.1) (slice_get sig.symbols f)

-- the declaration of the symbol with this name
abbrev pub symbol_named : Signature → List ℕ → Option SymInfo
symbol_named sig name = option_and_then (symbol_info sig) (number_of_name sig.symbols name)

-- the number before the others; None if one of them is missing
abbrev pub number_then : Option ℕ → Option (List ℕ) → Option (List ℕ)
number_then None ns = None
number_then (Some n) None = None
number_then (Some n) (Some ns) = Some (n ∷ ns)

-- the numbers of sorts; None if one of them is not declared
abbrev pub sort_numbers : Signature → List SortTree → Option (List ℕ)
sort_numbers sig [] = Some []
sort_numbers sig (s ∷ ss) = number_then (sort_number sig.sorts s) (sort_numbers sig ss)

-- The sort of a symbol with these sort arguments. It has one if their number is the declared one
-- and all of them are declared sorts.
abbrev pub result_sort : Option SymInfo → List SortTree → Option (List ℕ) → Option ℕ
result_sort None ss ns = None
result_sort (Some info) ss None = None
result_sort (Some info) ss (Some ns) =
    if length ss == info.params then sort_at ns info.result else None

abbrev pub sort_of_pattern : Signature → Unfolded → Option ℕ
sort_of_pattern sig (named_variable at name s) = sort_number sig.sorts s
sort_of_pattern sig (written_value at s text byte) = sort_number sig.sorts s
sort_of_pattern sig (applied_symbol at byte name ss ps) =
    result_sort (symbol_named sig name) ss (sort_numbers sig ss)
sort_of_pattern sig (both_of at s p q) = sort_number sig.sorts s
sort_of_pattern sig (other_form at) = None

-- the sort that an argument must have; a parameter of the symbol is the sort argument with its
-- number
abbrev pub wanted_sort : Signature → List SortTree → SortRef → Option ℕ
wanted_sort sig ss (Param i) = option_and_then (sort_number sig.sorts) (slice_get ss i)
wanted_sort sig ss (Sort s) = Some s.0

-- the declared sorts of the arguments of a symbol
abbrev pub places_of : Option SymInfo → List SortRef
places_of None = []
places_of (Some info) = info.args.items
