-- Functions with hooks at values, and how the values of the code are seen.
use Rattle.std.specs.Prelude.{◌≡◌, ℕ, List, Option, Some, Ok, option_map}
use Rattle.ml_pat.specs.Patterns.{Pattern}
use Rattle.term_core.specs.Terms.{DomainValue}
use Rattle.term_core.specs.Values.{scalar_value}
use Rattle.term_core.specs.HookValues.{hook_value}
use Rattle.term_core.specs.declared.ids.HookNo.{HookNo}
use Rattle.term_core.specs.declared.values.Scalar.{Scalar}
use Rattle.rule_core.specs.declared.signature.Signature.{Signature}
use Rattle.rule_core.specs.declared.signature.SymInfo.{SymInfo}
use Rattle.rule_core.specs.declared.signature.SymKind.TheVariants.{Hooked}
use Rattle.ml_image.specs.Images.{symbol_image}
use Rattle.ml_image.specs.OwnAxioms.{Declares}
use Rattle.true_facts.specs.Values.{IsValueAt}
use Rattle.true_facts.specs.declared.hook_facts.Sorted.{Sorted}

-- the pattern is the image of this whole number or truth value of this sort
abbrev pub IsNumberAt : Signature → List (List ℕ) → Pattern → ℕ × Scalar → Type 0
IsNumberAt sig names p x = IsValueAt sig names p (x.0, scalar_value x.1)

abbrev pub number_found : Option Sorted → Option (ℕ × Scalar)
number_found r = option_map (λ (n : Sorted). (n.sort.0, n.scalar)) r

-- the pattern is the constant of a function from these sorts to this one, which has the hook with
-- this number
abbrev pub IsHooked : Signature → List (List ℕ) → Pattern → List ℕ → ℕ → ℕ → Type 0
IsHooked sig names p sorts sort row =
    (f : ℕ) × (info : SymInfo) × (symbol_image sig names f ≡ Some p)
    × Declares sig f info sorts sort × (info.kind ≡ Hooked (record { 0 = row }))

abbrev pub hook_found : Option HookNo → Option ℕ
hook_found r = option_map (λ (h : HookNo). h.0) r

-- the same, where the hook has this value at these
abbrev pub IsComputed : Signature → List (List ℕ) → Pattern → List ℕ → List DomainValue → ℕ
    → DomainValue → Type 0
IsComputed sig names p sorts vs sort v =
    (row : ℕ) × IsHooked sig names p sorts sort row × (hook_value row vs ≡ Some (Ok v))
