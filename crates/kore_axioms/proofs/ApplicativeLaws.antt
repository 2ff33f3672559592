-- A pattern without other forms and binders is made of variables, applications, domain values and
-- folds. In a left side there may also be `\and`s that give names.
use Rattle.std.proofs.Common.{◌≡◌, ℕ, Bool, true, false, ◌||◌, ◌&&◌, List, [], ◌∷◌, Option, Some}
use Rattle.std.proofs.Common.{None, refl, sym, ap, ◌∙◌, ◌⊎◌, inl, inr}
use Rattle.std.specs.Prelude.{◌≢◌, not}
use Rattle.std.proofs.lemmas.Bool.{false≢true}
use Rattle.kore_text.specs.declared.names.Op.{Op}
use Rattle.kore_text.specs.declared.names.Op.TheVariants as op
use Rattle.kore_text.specs.Trees.{SortTree, listed_sorts, PatternTree, element_variable, set_variable, string}
use Rattle.kore_text.specs.Trees.{symbol_applied, connected, binder_applied, value_written, folded}
use Rattle.kore_text.specs.Trees.{PatternTrees, no_patterns, pattern_then, listed_patterns}
use Rattle.kore_check.specs.Folds.{Unfolded, Unfoldeds, no_more, and_more, named_variable}
use Rattle.kore_check.specs.Folds.{written_value, applied_symbol, both_of, other_form}
use Rattle.kore_check.specs.Folds.{standing_at, applied_to_two, folded_left, folded_right}
use Rattle.kore_check.specs.Folds.{fold_of, connective_of, connective_fold}
use Rattle.kore_check.specs.Folds.{unfolded, inner_fold, all_unfolded}
use Rattle.kore_check.specs.Applicative.{IsApplicative, AreApplicative, is_variable}
use Rattle.kore_check.specs.Variables.{variable_of}
use Rattle.kore_axioms.specs.LeftNames.{only_variable, given_name, is_written_once, is_bad_and}
use Rattle.kore_axioms.specs.LeftNames.{has_bad_and, have_bad_and, fold_has_bad_and}
use Rattle.kore_shapes.specs.Forms.{others, all_forms, covers, has_form}
use Rattle.kore_shapes.specs.Forms.{have_form, fold_has_form, is_one, is_none, has_binder}
use Rattle.kore_shapes.specs.Forms.{have_binder}

pub neither : (a b : Bool) → (a || b) ≡ false → (a ≡ false) × (b ≡ false)
neither true b h = absurd (false≢true (sym h))
neither false b h = (refl, h)

standing : (at : ℕ) (u : Unfolded) → IsApplicative u → IsApplicative (standing_at at u)
standing at (named_variable a n s) is = is
standing at (written_value a s t b) is = is
standing at (applied_symbol a b n ss ps) is = is
standing at (both_of a s p q) is = is
standing at (other_form a) is = is

left_is : (byte : ℕ) (name : List ℕ) (ss : List SortTree) (p : Unfolded) (ps : Unfoldeds)
    → IsApplicative p → AreApplicative ps → IsApplicative (folded_left byte name ss p ps)
left_is byte name ss p no_more is are = is
left_is byte name ss p (and_more q qs) is are =
    left_is byte name ss (applied_to_two byte name ss p q) qs (is, (are.0, tt)) are.1

right_is : (byte : ℕ) (name : List ℕ) (ss : List SortTree) (p : Unfolded) (ps : Unfoldeds)
    → IsApplicative p → AreApplicative ps → IsApplicative (folded_right byte name ss p ps)
right_is byte name ss p no_more is are = is
right_is byte name ss p (and_more q qs) is are = (is, (right_is byte name ss q qs are.0 are.1, tt))

fold_is : (left : Bool) (byte : ℕ) (name : List ℕ) (ss : List SortTree) (ps : PatternTrees)
    → is_none (listed_patterns ps) ≡ false → AreApplicative (all_unfolded ps)
    → IsApplicative (fold_of left byte name ss (all_unfolded ps))
fold_is left byte name ss no_patterns some are = absurd (false≢true (sym some))
fold_is true byte name ss (pattern_then p ps) some are =
    left_is byte name ss (unfolded p) (all_unfolded ps) are.0 are.1
fold_is false byte name ss (pattern_then p ps) some are =
    right_is byte name ss (unfolded p) (all_unfolded ps) are.0 are.1

only_is : (at : ℕ) (o : Op) (ss : List SortTree) (ps : PatternTrees)
    → (not (is_one (listed_patterns ps)) && true) ≡ false → AreApplicative (all_unfolded ps)
    → IsApplicative (connective_fold at o ss (all_unfolded ps))
only_is at o ss no_patterns one are = absurd (false≢true (sym one))
only_is at o ss (pattern_then p no_patterns) one are = are.0
only_is at o ss (pattern_then p (pattern_then q ps)) one are = absurd (false≢true (sym one))

mutual
  pub applicative : (p : PatternTree) → has_form all_forms p ≡ false → has_binder p ≡ false
      → IsApplicative (unfolded p)
  applicative (element_variable at n s) h b = tt
  applicative (set_variable at n s) h b = absurd (false≢true (sym b))
  applicative (string at text) h b = absurd (false≢true (sym h))
  applicative (symbol_applied at n ss ps) h b = all_applicative ps h b
  applicative (connected at op ss ps) h b =
      absurd (false≢true (sym (neither true (have_form all_forms ps) h).0))
  applicative (binder_applied at c ss x p) h b = absurd (false≢true (sym b))
  applicative (value_written at s text byte) h b = tt
  applicative (folded at left p) h b = standing at (inner_fold left p) (fold_applicative left p h b)

  pub all_applicative : (ps : PatternTrees) → have_form all_forms ps ≡ false
      → have_binder ps ≡ false → AreApplicative (all_unfolded ps)
  all_applicative no_patterns h b = tt
  all_applicative (pattern_then p ps) h b =
      let forms = neither _ _ h in
      let binders = neither _ _ b in
      (applicative p forms.0 binders.0, all_applicative ps forms.1 binders.1)

  fold_applicative : (left : Bool) (p : PatternTree) → fold_has_form all_forms p ≡ false
      → has_binder p ≡ false → IsApplicative (inner_fold left p)
  fold_applicative left (element_variable at n s) h b = absurd (false≢true (sym h))
  fold_applicative left (set_variable at n s) h b = absurd (false≢true (sym h))
  fold_applicative left (string at text) h b = absurd (false≢true (sym h))
  fold_applicative left (symbol_applied at n ss ps) h b =
      let both = neither _ _ h in
      fold_is left at n _ ps both.0 (all_applicative ps both.1 b)
  fold_applicative left (connected at op ss ps) h b =
      let both = neither _ _ h in
      only_is at op (listed_sorts ss) ps both.0 (all_applicative ps both.1 b)
  fold_applicative left (binder_applied at c ss x p) h b = absurd (false≢true (sym h))
  fold_applicative left (value_written at s text byte) h b = absurd (false≢true (sym h))
  fold_applicative left (folded at other p) h b = absurd (false≢true (sym h))

-- ---- left sides, in which an `\and` may give a name

-- the pattern is applicative, and each name is written once in these patterns
abbrev mutual
  pub IsSide : List PatternTree → Unfolded → Type 0
  IsSide whole (named_variable at n s) = Unit {0}
  IsSide whole (written_value at s text byte) = Unit {0}
  IsSide whole (applied_symbol at byte n ss ps) = AreSides whole ps
  IsSide whole (both_of at s p q) =
      (is_written_once whole (only_variable (variable_of p) (variable_of q)) ≡ true)
      × IsSide whole p × IsSide whole q
  IsSide whole (other_form at) = ⊥

  pub AreSides : List PatternTree → Unfoldeds → Type 0
  AreSides whole no_more = Unit {0}
  AreSides whole (and_more p ps) = IsSide whole p × AreSides whole ps

-- a pattern is a variable or is none
variable_or_none : (p : Unfolded)
    → ((v : List ℕ × SortTree) × (variable_of p ≡ Some v) × (is_variable p ≡ true))
    ⊎ ((variable_of p ≡ None) × (is_variable p ≡ false))
variable_or_none (named_variable at n s) = inl ((n, s), refl, refl)
variable_or_none (written_value at s text byte) = inr (refl, refl)
variable_or_none (applied_symbol at byte n ss ps) = inr (refl, refl)
variable_or_none (both_of at s p q) = inr (refl, refl)
variable_or_none (other_form at) = inr (refl, refl)

some_name : (whole : List PatternTree) (v w : Option (List ℕ × SortTree))
    → is_written_once whole (only_variable v w) ≡ true → only_variable v w ≡ None → ⊥
some_name whole v w good none = false≢true (sym (ap (is_written_once whole) none) ∙ good)

-- exactly one of the two patterns is a variable
named_apart : (whole : List PatternTree) (p q : Unfolded)
    → is_written_once whole (only_variable (variable_of p) (variable_of q)) ≡ true
    → is_variable p ≢ is_variable q
named_apart whole p q good same = by_case (variable_or_none p) (variable_or_none q) where
  none : only_variable (variable_of p) (variable_of q) ≡ None → ⊥
  none e = some_name whole (variable_of p) (variable_of q) good e

  by_case : (((v : List ℕ × SortTree) × (variable_of p ≡ Some v) × (is_variable p ≡ true))
      ⊎ ((variable_of p ≡ None) × (is_variable p ≡ false)))
      → (((v : List ℕ × SortTree) × (variable_of q ≡ Some v) × (is_variable q ≡ true))
      ⊎ ((variable_of q ≡ None) × (is_variable q ≡ false))) → ⊥
  by_case (inl v) (inl w) =
      none (ap (λ o. only_variable o (variable_of q)) v.1 ∙ ap (only_variable (Some v.0)) w.1)
  by_case (inl v) (inr w) = false≢true (sym w.1 ∙ sym same ∙ v.2)
  by_case (inr v) (inl w) = false≢true (sym v.1 ∙ same ∙ w.2)
  by_case (inr v) (inr w) =
      none (ap (λ o. only_variable o (variable_of q)) v.0 ∙ ap (only_variable None) w.0)

mutual
  pub side_applicative : (whole : List PatternTree) (u : Unfolded) → IsSide whole u
      → IsApplicative u
  side_applicative whole (named_variable at n s) is = tt
  side_applicative whole (written_value at s text byte) is = tt
  side_applicative whole (applied_symbol at byte n ss ps) is = sides_applicative whole ps is
  side_applicative whole (both_of at s p q) is = (
    named_apart whole p q is.0,
    side_applicative whole p is.1,
    side_applicative whole q is.2,
  )
  side_applicative whole (other_form at) is = is

  pub sides_applicative : (whole : List PatternTree) (us : Unfoldeds) → AreSides whole us
      → AreApplicative us
  sides_applicative whole no_more are = tt
  sides_applicative whole (and_more p ps) are =
      (side_applicative whole p are.0, sides_applicative whole ps are.1)

side_standing : (whole : List PatternTree) (at : ℕ) (u : Unfolded) → IsSide whole u
    → IsSide whole (standing_at at u)
side_standing whole at (named_variable a n s) is = is
side_standing whole at (written_value a s t b) is = is
side_standing whole at (applied_symbol a b n ss ps) is = is
side_standing whole at (both_of a s p q) is = is
side_standing whole at (other_form a) is = is

left_side : (whole : List PatternTree) (byte : ℕ) (name : List ℕ) (ss : List SortTree)
    (p : Unfolded) (ps : Unfoldeds) → IsSide whole p → AreSides whole ps
    → IsSide whole (folded_left byte name ss p ps)
left_side whole byte name ss p no_more is are = is
left_side whole byte name ss p (and_more q qs) is are =
    left_side whole byte name ss (applied_to_two byte name ss p q) qs (is, (are.0, tt)) are.1

right_side : (whole : List PatternTree) (byte : ℕ) (name : List ℕ) (ss : List SortTree)
    (p : Unfolded) (ps : Unfoldeds) → IsSide whole p → AreSides whole ps
    → IsSide whole (folded_right byte name ss p ps)
right_side whole byte name ss p no_more is are = is
right_side whole byte name ss p (and_more q qs) is are =
    (is, (right_side whole byte name ss q qs are.0 are.1, tt))

fold_side : (whole : List PatternTree) (left : Bool) (byte : ℕ) (name : List ℕ)
    (ss : List SortTree) (ps : PatternTrees) → is_none (listed_patterns ps) ≡ false
    → AreSides whole (all_unfolded ps)
    → IsSide whole (fold_of left byte name ss (all_unfolded ps))
fold_side whole left byte name ss no_patterns some are = absurd (false≢true (sym some))
fold_side whole true byte name ss (pattern_then p ps) some are =
    left_side whole byte name ss (unfolded p) (all_unfolded ps) are.0 are.1
fold_side whole false byte name ss (pattern_then p ps) some are =
    right_side whole byte name ss (unfolded p) (all_unfolded ps) are.0 are.1

not_false : (b : Bool) → not b ≡ false → b ≡ true
not_false true h = refl
not_false false h = sym h

and_is : (whole : List PatternTree) (at : ℕ) (ss : List SortTree) (us : Unfoldeds)
    → not (is_written_once whole (given_name ss us)) ≡ false → AreSides whole us
    → IsSide whole (connective_of at op.And ss us)
and_is whole at [] us good are = absurd (false≢true (sym good))
and_is whole at (s ∷ []) no_more good are = absurd (false≢true (sym good))
and_is whole at (s ∷ []) (and_more p no_more) good are = absurd (false≢true (sym good))
and_is whole at (s ∷ []) (and_more p (and_more q no_more)) good are =
    (not_false _ good, are.0, are.1.0)
and_is whole at (s ∷ []) (and_more p (and_more q (and_more r us))) good are =
    absurd (false≢true (sym good))
and_is whole at (s ∷ (t ∷ ss)) us good are = absurd (false≢true (sym good))

-- a connective that is no other form and no bad `\and`
connective_is : (whole : List PatternTree) (at : ℕ) (o : Op) (ss : List SortTree) (us : Unfoldeds)
    → covers others o ≡ false → is_bad_and whole o ss us ≡ false → AreSides whole us
    → IsSide whole (connective_of at o ss us)
connective_is whole at op.And ss us h k are = and_is whole at ss us k are
connective_is whole at op.Top ss us h k are = absurd (false≢true (sym h))
connective_is whole at op.Bottom ss us h k are = absurd (false≢true (sym h))
connective_is whole at op.Not ss us h k are = absurd (false≢true (sym h))
connective_is whole at op.Next ss us h k are = absurd (false≢true (sym h))
connective_is whole at op.Or ss us h k are = absurd (false≢true (sym h))
connective_is whole at op.Implies ss us h k are = absurd (false≢true (sym h))
connective_is whole at op.Iff ss us h k are = absurd (false≢true (sym h))
connective_is whole at op.Rewrites ss us h k are = absurd (false≢true (sym h))
connective_is whole at op.Ceil ss us h k are = absurd (false≢true (sym h))
connective_is whole at op.Floor ss us h k are = absurd (false≢true (sym h))
connective_is whole at op.Equals ss us h k are = absurd (false≢true (sym h))
connective_is whole at op.Member ss us h k are = absurd (false≢true (sym h))

folded_connective : (whole : List PatternTree) (at : ℕ) (o : Op) (ss : List SortTree)
    (ps : PatternTrees) → (not (is_one (listed_patterns ps)) && covers others o) ≡ false
    → (not (is_one (listed_patterns ps)) && is_bad_and whole o ss (all_unfolded ps)) ≡ false
    → AreSides whole (all_unfolded ps)
    → IsSide whole (connective_fold at o ss (all_unfolded ps))
folded_connective whole at o ss no_patterns h k are = connective_is whole at o ss no_more h k are
folded_connective whole at o ss (pattern_then p no_patterns) h k are = are.0
folded_connective whole at o ss (pattern_then p (pattern_then q ps)) h k are =
    connective_is whole at o ss (all_unfolded (pattern_then p (pattern_then q ps))) h k are

mutual
  pub left_is_side : (whole : List PatternTree) (p : PatternTree) → has_form others p ≡ false
      → has_bad_and whole p ≡ false → has_binder p ≡ false → IsSide whole (unfolded p)
  left_is_side whole (element_variable at n s) h k b = tt
  left_is_side whole (set_variable at n s) h k b = absurd (false≢true (sym b))
  left_is_side whole (string at text) h k b = absurd (false≢true (sym h))
  left_is_side whole (symbol_applied at n ss ps) h k b = all_are_sides whole ps h k b
  left_is_side whole (connected at o ss ps) h k b =
      let forms = neither _ _ h in
      let names = neither _ _ k in
      connective_is whole at o (listed_sorts ss) (all_unfolded ps) forms.0 names.0
      (all_are_sides whole ps forms.1 names.1 b)
  left_is_side whole (binder_applied at c ss x p) h k b = absurd (false≢true (sym b))
  left_is_side whole (value_written at s text byte) h k b = tt
  left_is_side whole (folded at left p) h k b =
      side_standing whole at (inner_fold left p) (fold_is_side whole left p h k b)

  pub all_are_sides : (whole : List PatternTree) (ps : PatternTrees) → have_form others ps ≡ false
      → have_bad_and whole ps ≡ false → have_binder ps ≡ false → AreSides whole (all_unfolded ps)
  all_are_sides whole no_patterns h k b = tt
  all_are_sides whole (pattern_then p ps) h k b =
      let forms = neither _ _ h in
      let names = neither _ _ k in
      let binders = neither _ _ b in (
        left_is_side whole p forms.0 names.0 binders.0,
        all_are_sides whole ps forms.1 names.1 binders.1,
      )

  fold_is_side : (whole : List PatternTree) (left : Bool) (p : PatternTree)
      → fold_has_form others p ≡ false → fold_has_bad_and whole p ≡ false
      → has_binder p ≡ false → IsSide whole (inner_fold left p)
  fold_is_side whole left (element_variable at n s) h k b = absurd (false≢true (sym h))
  fold_is_side whole left (set_variable at n s) h k b = absurd (false≢true (sym h))
  fold_is_side whole left (string at text) h k b = absurd (false≢true (sym h))
  fold_is_side whole left (symbol_applied at n ss ps) h k b =
      let both = neither _ _ h in
      fold_side whole left at n _ ps both.0 (all_are_sides whole ps both.1 k b)
  fold_is_side whole left (connected at o ss ps) h k b =
      let forms = neither _ _ h in
      let names = neither _ _ k in
      folded_connective whole at o (listed_sorts ss) ps forms.0 names.0
      (all_are_sides whole ps forms.1 names.1 b)
  fold_is_side whole left (binder_applied at c ss x p) h k b = absurd (false≢true (sym h))
  fold_is_side whole left (value_written at s text byte) h k b = absurd (false≢true (sym h))
  fold_is_side whole left (folded at other p) h k b = absurd (false≢true (sym h))
