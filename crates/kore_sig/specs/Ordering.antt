-- The pairs of sorts of declarations.
use Rattle.std.specs.Prelude.{ℕ, List, ◌++◌, flat_map, filter_map, Option}
use Rattle.std.specs.List.{AllZip}
use Rattle.rule_core.specs.Subsorts.{HasNoCycle}
use Rattle.rule_core.specs.declared.signature.SortInfo.{SortInfo}
use Rattle.kore_text.specs.Trees.{Declaration}
use Rattle.kore_sig.specs.Declarations.{axiom_declared, SubsortPair, pairs_of_axiom}
use Rattle.kore_sig.specs.FirstFault.{Fault, ByNumber, IsFirstBy, IsFirstOfSequence}
use Rattle.kore_sig.specs.SignatureFaults.{HasPairFault, pairs_after}
use Rattle.kore_sig.specs.Signatures.{IsPairOf}

abbrev pub pairs_in : List Declaration → List SubsortPair
pairs_in ds = flat_map pairs_of_axiom (filter_map axiom_declared ds)

-- the first fault of these pairs, if those pairs come before them
abbrev pub FirstFrom : List (List ℕ × SortInfo) → List (ℕ × ℕ) → List SubsortPair → Option Fault
    → Type 0
FirstFrom sorts before pairs r =
    IsFirstOfSequence (λ before p. IsFirstBy ByNumber (HasPairFault sorts before p))
    (pairs_after sorts) before pairs r

-- these pairs were added, and had no fault
pub record Passes (sorts : List (List ℕ × SortInfo)) (before behind : List (ℕ × ℕ))
    (pairs : List SubsortPair) :
    Type 0 where
  pub first : (rest : List SubsortPair) (r : Option Fault) → FirstFrom sorts behind rest r →
      FirstFrom sorts before (pairs ++ rest) r
  pub numbers : (earlier : List SubsortPair) → AllZip (IsPairOf sorts) earlier before →
      AllZip (IsPairOf sorts) (earlier ++ pairs) behind
  pub no_cycle : HasNoCycle before → HasNoCycle behind
