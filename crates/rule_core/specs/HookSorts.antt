-- The sorts of whole numbers and of truth values, and the declarations that fit a hook.
use Rattle.std.specs.Prelude.{◌≡◌, ℕ, List, [], ◌∷◌, slice_get, Some}
use Rattle.term_core.specs.HookValues.{Hook, Kind, integers, truths, hooks, argument_kinds}
use Rattle.term_core.specs.HookValues.{result_kind}
use Rattle.rule_core.specs.Subsorts.{IsBelow}
use Rattle.rule_core.specs.Sorting.{IsSymbol}
use Rattle.rule_core.specs.declared.signature.Signature.{Signature}
use Rattle.rule_core.specs.declared.signature.SortInfo.{SortInfo}
use Rattle.rule_core.specs.declared.signature.SortKind.TheVariants as kind
use Rattle.rule_core.specs.declared.signature.SymInfo.{SymInfo}
use Rattle.rule_core.specs.declared.signature.SymKind.TheVariants.{Ctor}
use Rattle.rule_core.specs.declared.signature.SortRef.{SortRef}
use Rattle.rule_core.specs.declared.signature.SortRef.TheVariants.{Sort}

-- the sort is of this kind, by its hook
abbrev pub IsOfKind : Kind → SortInfo → Type 0
IsOfKind integers info = info.kind ≡ kind.Int
IsOfKind truths info = info.kind ≡ kind.Bool

-- a sort of whole numbers or of truth values whose only terms are values: no constructor has it as
-- its result sort, and no sort is below it
pub record IsSortOf (sig : Signature) (k : Kind) (sort : ℕ) : Type 0 where
  pub name : List ℕ
  pub info : SortInfo
  pub there : slice_get sig.sorts sort ≡ Some (name, info)
  pub of_kind : IsOfKind k info
  pub no_constructor : (f : ℕ) (made : SymInfo) → IsSymbol sig f made → made.kind ≡ Ctor →
      (made.result ≡ Sort (record { 0 = sort }) → ⊥)
  pub lowest : (a : ℕ) → IsBelow sig.subsorts a sort → ⊥

-- the reference of a declaration is to such a sort
abbrev pub RefersTo : Signature → Kind → SortRef → Type 0
RefersTo sig k of = (sort : ℕ) × (of ≡ Sort (record { 0 = sort })) × IsSortOf sig k sort

-- the references are to such sorts, in order
abbrev pub ReferTo : Signature → List Kind → List SortRef → Type 0
ReferTo sig [] [] = Unit {0}
ReferTo sig (k ∷ ks) (of ∷ refs) = RefersTo sig k of × ReferTo sig ks refs
ReferTo _ _ _ = ⊥

-- the declaration has the sorts of the hook with this number
pub record FitsHook (sig : Signature) (row : ℕ) (info : SymInfo) : Type 0 where
  pub hook : Hook
  pub there : slice_get hooks row ≡ Some hook
  pub plain : info.params ≡ 0
  pub arguments : ReferTo sig (argument_kinds hook.operation) info.args.items
  pub result : RefersTo sig (result_kind hook.operation) info.result
