-- How many variables there are decides whether the variables of a rule are bound.
use Rattle.std.proofs.Common.{◌≡◌, ◌<◌, ◌≤◌, ℕ, Bool, true, false, ◌&&◌, List, [], length, nat_eq}
use Rattle.std.proofs.Common.{Option, Some, None, refl, ap, sym, ◌∙◌, arith}
use Rattle.std.proofs.lemmas.Bool.{eqb-true, eq-eqb, false≢true}
use Rattle.kore_text.specs.Trees.{PatternTree}
use Rattle.rule_core.proofs.Belows.{both_true}
use Rattle.rule_core.specs.declared.signature.Signature.{Signature}
use Rattle.kore_check.specs.Folds.{Unfoldeds, unfolded}
use Rattle.kore_check.specs.PatternFaults.{pattern_faults}
use Rattle.kore_check.specs.PatternMeanings.{with_variables, with_all_variables}
use Rattle.kore_axioms.specs.NamedRules.{with_some_variables}
use Rattle.kore_axioms.specs.RuleFaults.{is_bound}
use Rattle.kore_axioms.specs.Uses.{is_bound_by}
use Rattle.kore_axioms.proofs.BoundLaws.{bound_same, unbound_more, not_less}

abbrev Clear : Signature → Option PatternTree → Type 0
Clear sig test = (p : PatternTree) → test ≡ Some p → pattern_faults sig (unfolded p) ≡ []

abbrev of : Signature → Unfoldeds → List (List ℕ × ℕ)
of sig qs = with_all_variables sig [] qs

-- a pattern whose variables are bound adds none
bound_some : (sig : Signature) (qs : Unfoldeds) (test : Option PatternTree)
    → is_bound qs test ≡ true → with_some_variables sig (of sig qs) test ≡ of sig qs
bound_some sig qs None h = refl
bound_some sig qs (Some p) h = bound_same sig qs (unfolded p) h

unbound_some : (sig : Signature) (qs : Unfoldeds) (test : Option PatternTree) → Clear sig test
    → is_bound qs test ≡ false
    → length (of sig qs) < length (with_some_variables sig (of sig qs) test)
unbound_some sig qs None clear h = absurd (false≢true (sym h))
unbound_some sig qs (Some p) clear h = unbound_more sig qs (unfolded p) (clear p refl) h

-- all variables of a rule; those of its left side come first
abbrev all_of : Signature → Unfoldeds → Option PatternTree → PatternTree → List (List ℕ × ℕ)
all_of sig qs test right =
    with_variables sig (with_some_variables sig (of sig qs) test) (unfolded right)

same_all : (sig : Signature) (qs : Unfoldeds) (test : Option PatternTree) (right : PatternTree)
    → is_bound qs test ≡ true → is_bound_by qs (unfolded right) ≡ true
    → all_of sig qs test right ≡ of sig qs
same_all sig qs test right h k =
    ap (λ (vs : List (List ℕ × ℕ)). with_variables sig vs (unfolded right))
    (bound_some sig qs test h) ∙ bound_same sig qs (unfolded right) k

differ : (m n : ℕ) → n < m → nat_eq m n ≡ false
differ m n lt = by_case (nat_eq m n) refl where
  by_case : (b : Bool) → nat_eq m n ≡ b → nat_eq m n ≡ false
  by_case false e = e
  by_case true e = absurd (let same : m ≡ n = eqb-true m n e in omega (arith, same, lt))

pub bound_counted : (sig : Signature) (qs : Unfoldeds) (test : Option PatternTree)
    (right : PatternTree) → Clear sig test → pattern_faults sig (unfolded right) ≡ []
    → nat_eq (length (all_of sig qs test right)) (length (of sig qs))
    ≡ (is_bound qs test && is_bound qs (Some right))
bound_counted sig qs test right clear fine =
    by_case (is_bound qs test) (is_bound_by qs (unfolded right)) refl refl
  where
    by_case : (a b : Bool) → is_bound qs test ≡ a → is_bound_by qs (unfolded right) ≡ b
        → nat_eq (length (all_of sig qs test right)) (length (of sig qs))
        ≡ (is_bound qs test && is_bound_by qs (unfolded right))
    by_case true true h k =
        eq-eqb (length (all_of sig qs test right)) (length (of sig qs))
        (ap length (same_all sig qs test right h k))
        ∙ sym (ap (λ (x : Bool). x && is_bound_by qs (unfolded right)) h ∙ k)
    by_case true false h k =
        let longer : length (of sig qs) < length (with_variables sig (of sig qs) (unfolded right)) =
        unbound_more sig qs (unfolded right) fine k in
        let same : length (all_of sig qs test right) ≡ length
        (with_variables sig (of sig qs) (unfolded right)) =
        ap (λ (vs : List (List ℕ × ℕ)). length (with_variables sig vs (unfolded right)))
        (bound_some sig qs test h) in
        differ _ _ (omega (arith, longer, same))
        ∙ sym (ap (λ (x : Bool). x && is_bound_by qs (unfolded right)) h ∙ k)
    by_case false b h k =
        let longer : length (of sig qs) < length (with_some_variables sig (of sig qs) test) =
        unbound_some sig qs test clear h in
        let more : length (with_some_variables sig (of sig qs) test) ≤ length
        (all_of sig qs test right) =
        not_less sig (with_some_variables sig (of sig qs) test) (unfolded right) in
        differ _ _ (omega (arith, longer, more))
        ∙ sym (ap (λ (x : Bool). x && is_bound_by qs (unfolded right)) h)

-- if no variable was added, the variables are always those of the left side
pub bound_all : (sig : Signature) (qs : Unfoldeds) (test : Option PatternTree) (right : PatternTree)
    → Clear sig test → pattern_faults sig (unfolded right) ≡ []
    → nat_eq (length (all_of sig qs test right)) (length (of sig qs)) ≡ true
    → (with_some_variables sig (of sig qs) test ≡ of sig qs)
    × (all_of sig qs test right ≡ of sig qs)
bound_all sig qs test right clear fine e =
    let both = both_true _ _ (sym (bound_counted sig qs test right clear fine) ∙ e) in
    (bound_some sig qs test both.0, same_all sig qs test right both.0 both.1)
