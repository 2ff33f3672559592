-- True facts about built-in values, functions and injections. Each reader of a proof can check them
-- by computation.
use Rattle.std.specs.Prelude.{◌≡◌, ℕ, List, [], ◌∷◌, Some, Ok}
use Rattle.term_core.specs.Terms.{DomainValue}
use Rattle.term_core.specs.Patterns.{Pattern, Patterns, variable, domain_value, injection, call}
use Rattle.term_core.specs.Patterns.{no_pattern, more_patterns}
use Rattle.term_core.specs.HookValues.{hook_value}
use Rattle.rule_core.specs.Subsorts.{IsBelow}
use Rattle.rule_core.specs.Sorting.{HasValue}
use Rattle.rule_core.specs.declared.signature.Signature.{Signature}
use Rattle.rule_core.specs.declared.signature.SymInfo.{SymInfo}
use Rattle.rule_core.specs.declared.signature.SymKind.TheVariants.{Hooked}
use Rattle.ml_image.specs.Sentences.{Sentence, term, not, implies, equals, functional, for_all}
use Rattle.ml_image.specs.OwnAxioms.{Declares}
use Rattle.ml_image.specs.Sides.{AreApart}

-- A domain value of a sort is one element of the sort.
pub record SaysValue (sig : Signature) (s : ℕ) (v : DomainValue) (p : Sentence) : Type 0 where
  pub has : HasValue sig s v
  pub says : p ≡ functional (term (domain_value s v)) s

-- values of these sorts, in order
abbrev pub HaveValues : Signature → List ℕ → List DomainValue → Type 0
HaveValues sig [] [] = Unit {0}
HaveValues sig [] (v ∷ vs) = ⊥
HaveValues sig (s ∷ ss) [] = ⊥
HaveValues sig (s ∷ ss) (v ∷ vs) = HasValue sig s v × HaveValues sig ss vs

abbrev pub value_patterns : List ℕ → List DomainValue → Patterns
value_patterns [] vs = no_pattern
value_patterns (s ∷ ss) [] = no_pattern
value_patterns (s ∷ ss) (v ∷ vs) = more_patterns (domain_value s v) (value_patterns ss vs)

-- A function with a hook, applied to values, equals the value of the hook, in its result sort.
pub record SaysHook (sig : Signature) (f : ℕ) (vs : List DomainValue) (p : Sentence) : Type 0 where
  pub info : SymInfo
  pub sorts : List ℕ
  pub sort : ℕ
  pub declared : Declares sig f info sorts sort
  pub row : ℕ
  pub hooked : info.kind ≡ Hooked (record { 0 = row })
  pub arguments : HaveValues sig sorts vs
  pub value : DomainValue
  pub answers : hook_value row vs ≡ Some (Ok value)
  pub has : HasValue sig sort value
  pub says : p
      ≡ equals (term (call f [] (value_patterns sorts vs))) (term (domain_value sort value))

-- Two patterns that have no common instance, since one is a value or an injection, are not equal.
pub record SaysUnequal (sig : Signature) (left right : Pattern) (p : Sentence) : Type 0 where
  pub sorts : List ℕ
  pub apart : AreApart sig left right sorts
  pub says : p ≡ for_all 0 sorts (not (equals (term left) (term right)))

-- Equal injections, of one sort into another, are of equal elements.
pub record SaysInjective (sig : Signature) (a b : ℕ) (p : Sentence) : Type 0 where
  pub lower : IsBelow sig.subsorts a b
  pub says : p ≡ for_all 0 (a ∷ a ∷ [])
      (implies
      (equals (term (injection a b (variable 0))) (term (injection a b (variable 1))))
      (equals (term (variable 0)) (term (variable 1))))

pub data IsTrueFact (sig : Signature) (p : Sentence) : Type 0 where
  of_value : (s : ℕ) (v : DomainValue) → SaysValue sig s v p → IsTrueFact sig p
  of_hook : (f : ℕ) (vs : List DomainValue) → SaysHook sig f vs p → IsTrueFact sig p
  of_unequal : (left right : Pattern) → SaysUnequal sig left right p → IsTrueFact sig p
  of_injective : (a b : ℕ) → SaysInjective sig a b p → IsTrueFact sig p
