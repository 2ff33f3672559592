-- A term has the forms of rule patterns, and no variable.
use Rattle.std.proofs.Common.{◌≡◌, ℕ, Bool, true, false, List, [], ◌∷◌, ◌++◌}
use Rattle.std.proofs.Common.{refl, ap, ◌∙◌}
use Rattle.kore_text.specs.Trees.{SortTree, PatternTree, element_variable, set_variable, string}
use Rattle.kore_text.specs.Trees.{symbol_applied, connected, binder_applied, value_written, folded}
use Rattle.kore_text.specs.Trees.{PatternTrees, no_patterns, pattern_then, listed_sorts}
use Rattle.rule_core.specs.declared.signature.Signature.{Signature}
use Rattle.kore_check.specs.Folds.{Unfolded, named_variable, written_value, applied_symbol}
use Rattle.kore_check.specs.Folds.{both_of, other_form, Unfoldeds, no_more, and_more, standing_at}
use Rattle.kore_check.specs.Folds.{applied_to_two, folded_left, folded_right, unfolded}
use Rattle.kore_check.specs.Folds.{all_unfolded, inner_fold}
use Rattle.kore_check.specs.Applicative.{IsApplicative, AreApplicative}
use Rattle.kore_check.specs.PatternMeanings.{with_variables, with_all_variables}
use Rattle.kore_rules.specs.GroundTerms.{ground_faults, all_ground_faults, folded_ground_faults}

first_nil : {X : Type 0} (xs ys : List X) → xs ++ ys ≡ [] → xs ≡ []
first_nil [] ys e = refl
first_nil (x ∷ xs) ys e = absurd (let never : ⊥ = cc in never)

rest_nil : {X : Type 0} (xs ys : List X) → xs ++ ys ≡ [] → ys ≡ []
rest_nil [] ys e = e
rest_nil (x ∷ xs) ys e = absurd (let never : ⊥ = cc in never)

-- the pattern has the forms of rule patterns, and adds no variable
record IsClosed (u : Unfolded) : Type 0 where
  pub form : IsApplicative u
  pub none : (sig : Signature) (vars : List (List ℕ × ℕ)) → with_variables sig vars u ≡ vars

abbrev AreClosed : Unfoldeds → Type 0
AreClosed no_more = Unit {0}
AreClosed (and_more u us) = IsClosed u × AreClosed us

forms : (us : Unfoldeds) → AreClosed us → AreApplicative us
forms no_more h = tt
forms (and_more u us) h = (h.0.form, forms us h.1)

nones : (us : Unfoldeds) → AreClosed us → (sig : Signature) (vars : List (List ℕ × ℕ))
    → with_all_variables sig vars us ≡ vars
nones no_more h sig vars = refl
nones (and_more u us) h sig vars =
    ap (λ (vs : List (List ℕ × ℕ)). with_all_variables sig vs us) (h.0.none sig vars)
    ∙ nones us h.1 sig vars

applied_closed : (at byte : ℕ) (name : List ℕ) (ss : List SortTree) (us : Unfoldeds) → AreClosed us
    → IsClosed (applied_symbol at byte name ss us)
applied_closed at byte name ss us h = record { form = forms us h; none = nones us h }

left_closed : (byte : ℕ) (name : List ℕ) (ss : List SortTree) (u : Unfolded) (us : Unfoldeds)
    → IsClosed u → AreClosed us → IsClosed (folded_left byte name ss u us)
left_closed byte name ss u no_more one all = one
left_closed byte name ss u (and_more v us) one all =
    left_closed byte name ss (applied_to_two byte name ss u v) us
    (applied_closed byte byte name ss (and_more u (and_more v no_more)) (one, (all.0, tt)))
    all.1

right_closed : (byte : ℕ) (name : List ℕ) (ss : List SortTree) (u : Unfolded) (us : Unfoldeds)
    → IsClosed u → AreClosed us → IsClosed (folded_right byte name ss u us)
right_closed byte name ss u no_more one all = one
right_closed byte name ss u (and_more v us) one all =
    applied_closed byte byte name ss
    (and_more u (and_more (folded_right byte name ss v us) no_more))
    (one, (right_closed byte name ss v us all.0 all.1, tt))

standing_closed : (at : ℕ) (u : Unfolded) → IsClosed u → IsClosed (standing_at at u)
standing_closed at (named_variable there name s) h = record { form = h.form; none = h.none }
standing_closed at (written_value there s text byte) h = record { form = h.form; none = h.none }
standing_closed at (applied_symbol there byte name ss us) h = record {
  form = h.form;
  none = h.none;
}
standing_closed at (both_of there s p q) h = record { form = h.form; none = h.none }
standing_closed at (other_form there) h = record { form = h.form; none = h.none }

mutual
  ground_closed : (p : PatternTree) → ground_faults p ≡ [] → IsClosed (unfolded p)
  ground_closed (element_variable at name s) e = absurd (let never : ⊥ = cc in never)
  ground_closed (set_variable at name s) e = absurd (let never : ⊥ = cc in never)
  ground_closed (string at text) e = absurd (let never : ⊥ = cc in never)
  ground_closed (symbol_applied at name ss ps) e =
      applied_closed at at name (listed_sorts ss) (all_unfolded ps) (all_closed ps e)
  ground_closed (connected at op ss ps) e = absurd (let never : ⊥ = cc in never)
  ground_closed (binder_applied at b ss x p) e = absurd (let never : ⊥ = cc in never)
  ground_closed (value_written at s text byte) e = record { form = tt; none = λ sig vars. refl }
  ground_closed (folded at left p) e =
      standing_closed at (inner_fold left p) (inner_closed left p e)

  all_closed : (ps : PatternTrees) → all_ground_faults ps ≡ [] → AreClosed (all_unfolded ps)
  all_closed no_patterns e = tt
  all_closed (pattern_then p ps) e = (
    ground_closed p (first_nil (ground_faults p) (all_ground_faults ps) e),
    all_closed ps (rest_nil (ground_faults p) (all_ground_faults ps) e),
  )

  inner_closed : (left : Bool) (p : PatternTree) → folded_ground_faults p ≡ []
      → IsClosed (inner_fold left p)
  inner_closed left (element_variable at name s) e = absurd (let never : ⊥ = cc in never)
  inner_closed left (set_variable at name s) e = absurd (let never : ⊥ = cc in never)
  inner_closed left (string at text) e = absurd (let never : ⊥ = cc in never)
  inner_closed left (symbol_applied at name ss no_patterns) e = absurd (let never : ⊥ = cc in never)
  inner_closed true (symbol_applied at name ss (pattern_then p ps)) e =
      let all = all_closed (pattern_then p ps) e in
      left_closed at name (listed_sorts ss) (unfolded p) (all_unfolded ps) all.0 all.1
  inner_closed false (symbol_applied at name ss (pattern_then p ps)) e =
      let all = all_closed (pattern_then p ps) e in
      right_closed at name (listed_sorts ss) (unfolded p) (all_unfolded ps) all.0 all.1
  inner_closed left (connected at op ss no_patterns) e = absurd (let never : ⊥ = cc in never)
  inner_closed left (connected at op ss (pattern_then p no_patterns)) e =
      let all = all_closed (pattern_then p no_patterns) e in all.0
  inner_closed left (connected at op ss (pattern_then p (pattern_then q ps))) e =
      absurd (let never : ⊥ = cc in never)
  inner_closed left (binder_applied at b ss x p) e = absurd (let never : ⊥ = cc in never)
  inner_closed left (value_written at s text byte) e = absurd (let never : ⊥ = cc in never)
  inner_closed left (folded at other p) e = absurd (let never : ⊥ = cc in never)

pub ground_form : (p : PatternTree) → ground_faults p ≡ [] → IsApplicative (unfolded p)
ground_form p e = (ground_closed p e).form

pub ground_variables : (p : PatternTree) → ground_faults p ≡ []
    → (sig : Signature) (vars : List (List ℕ × ℕ)) → with_variables sig vars (unfolded p) ≡ vars
ground_variables p e sig vars = (ground_closed p e).none sig vars
