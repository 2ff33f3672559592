-- A pattern is bound by others if it adds no variable to theirs.
use Rattle.std.proofs.Common.{◌≡◌, ◌<◌, ℕ, List, [], length, Bool, true, false, refl, sym, ◌∙◌, ap, arith}
use Rattle.std.specs.Prelude.{Some, None}
use Rattle.term_core.specs.RulePatterns.{plain_pattern}
use Rattle.term_core.specs.declared.rule_patterns.RulePat.{RulePat}
use Rattle.rule_core.specs.declared.signature.Signature.{Signature}
use Rattle.kore_check.specs.Folds.{Unfolded, Unfoldeds}
use Rattle.kore_check.specs.PatternFaults.{pattern_faults}
use Rattle.kore_check.specs.PatternMeanings.{with_variables, with_all_variables, Means}
use Rattle.kore_axioms.specs.Uses.{is_bound_by}
use Rattle.kore_axioms.proofs.BoundLaws.{bound_same, unbound_more}
use Rattle.kore_equations.specs.BuiltEquations.{IsMeantBound}

-- the old variables, and then the new ones
pub record AreAdded (sig : Signature) (qs : Unfoldeds) (u : Unfolded) (old new : List (List ℕ × ℕ)) :
    Type 0 where
  pub of : old ≡ with_all_variables sig [] qs
  pub more : new ≡ with_variables sig old u

added : (sig : Signature) (qs : Unfoldeds) (u : Unfolded) (old new : List (List ℕ × ℕ))
    → AreAdded sig qs u old new → new ≡ with_variables sig (with_all_variables sig [] qs) u
added sig qs u old new a =
    a.more ∙ ap (λ (vs : List (List ℕ × ℕ)). with_variables sig vs u) a.of

pub bound_meaning : (sig : Signature) (qs : Unfoldeds) (u : Unfolded) (old new : List (List ℕ × ℕ))
    (made : RulePat) → pattern_faults sig u ≡ [] → AreAdded sig qs u old new
    → length new ≡ length old → Means sig new u (plain_pattern made)
    → IsMeantBound sig qs u new (Some made)
bound_meaning sig qs u old new made clear a same means = by_case (is_bound_by qs u) refl where
  by_case : (b : Bool) → is_bound_by qs u ≡ b → IsMeantBound sig qs u new (Some made)
  by_case true is = (is, added sig qs u old new a ∙ bound_same sig qs u is, means)
  by_case false is =
      let more : length (with_all_variables sig [] qs)
      < length (with_variables sig (with_all_variables sig [] qs) u) =
      unbound_more sig qs u clear is in
      let one : length new ≡ length (with_variables sig (with_all_variables sig [] qs) u) =
      ap length (added sig qs u old new a) in
      let two : length old ≡ length (with_all_variables sig [] qs) = ap length a.of in
      absurd (omega (arith, more, one, two, same))

pub unbound_meaning : (sig : Signature) (qs : Unfoldeds) (u : Unfolded)
    (old new : List (List ℕ × ℕ)) → AreAdded sig qs u old new → (length new ≡ length old → ⊥)
    → IsMeantBound sig qs u new None
unbound_meaning sig qs u old new a other = by_case (is_bound_by qs u) refl where
  by_case : (b : Bool) → is_bound_by qs u ≡ b → is_bound_by qs u ≡ false
  by_case false is = is
  by_case true is =
      absurd (other (ap length (added sig qs u old new a ∙ bound_same sig qs u is ∙ sym a.of)))
