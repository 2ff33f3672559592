-- If an axiom has no binder, its parts have none.
use Rattle.std.proofs.Common.{◌≡◌, Bool, true, false, ◌&&◌, List, [], ◌∷◌, Option, Some, None, cond}
use Rattle.std.proofs.Common.{refl, sym, subst}
use Rattle.std.proofs.lemmas.Bool.{false≢true}
use Rattle.kore_text.specs.Trees.{SortTree, listed_sorts, PatternTree, element_variable}
use Rattle.kore_text.specs.Trees.{set_variable, string, symbol_applied, connected, binder_applied}
use Rattle.kore_text.specs.Trees.{value_written, folded, PatternTrees, no_patterns, pattern_then}
use Rattle.kore_text.specs.Trees.{listed_patterns}
use Rattle.kore_text.specs.declared.names.Op.{Op}
use Rattle.kore_text.specs.declared.names.Op.TheVariants.{Top, Bottom, Not, Next, And, Or, Implies}
use Rattle.kore_text.specs.declared.names.Op.TheVariants.{Iff, Rewrites, Ceil, Floor, Equals}
use Rattle.kore_text.specs.declared.names.Op.TheVariants.{Member}
use Rattle.kore_shapes.specs.SameSorts.{same_sort}
use Rattle.kore_shapes.specs.Forms.{has_binder, have_binder}
use Rattle.kore_shapes.specs.Shapes.{Rewriting, rewriting, rewriting_of, Side, alone, beside}
use Rattle.kore_shapes.specs.Shapes.{without, misshapen, side, joined_side, picked, found_part}
use Rattle.kore_shapes.specs.Shapes.{main_part, Condition, always, tests, ill, condition_of}
use Rattle.kore_shapes.specs.Shapes.{condition_with, given_condition, is_true_of, heads_condition}
use Rattle.kore_shapes.specs.Shapes.{is_top}
use Rattle.rule_core.specs.declared.signature.Signature.{Signature}
use Rattle.kore_axioms.specs.Conditions.{is_bool, over_bool, tested_pattern}
use Rattle.kore_axioms.specs.RuleParts.{RuleParts, rule_parts, left_of, right_of}
use Rattle.kore_axioms.proofs.ApplicativeLaws.{neither}

abbrev pub NoneBinds : Option PatternTree → Type 0
NoneBinds o = (p : PatternTree) → o ≡ Some p → has_binder p ≡ false

-- no pattern of the list has a binder
abbrev pub AllBindNone : List PatternTree → Type 0
AllBindNone [] = Unit {0}
AllBindNone (p ∷ ps) = (has_binder p ≡ false) × AllBindNone ps

pub each_binds_none : (ps : PatternTrees) → have_binder ps ≡ false
    → AllBindNone (listed_patterns ps)
each_binds_none no_patterns h = tt
each_binds_none (pattern_then p ps) h =
    let both = neither _ _ h in (both.0, each_binds_none ps both.1)

-- ---- the two patterns of a rewriting

abbrev BothBindNone : Rewriting → Type 0
BothBindNone w = (has_binder w.before ≡ false) × (has_binder w.after ≡ false)

rewriting_binds : (op : Op) (ss : List SortTree) (ps : List PatternTree) (w : Rewriting)
    → rewriting_of op ss ps ≡ Some w → AllBindNone ps → BothBindNone w
rewriting_binds Rewrites (s ∷ []) (a ∷ (b ∷ [])) w e all =
    subst BothBindNone (let same : record { sort = s; before = a; after = b } ≡ w = cc in same)
    (all.0, all.1.0)
rewriting_binds Rewrites [] ps w e all = absurd (let never : ⊥ = cc in never)
rewriting_binds Rewrites (s ∷ (t ∷ ss)) ps w e all = absurd (let never : ⊥ = cc in never)
rewriting_binds Rewrites (s ∷ []) [] w e all = absurd (let never : ⊥ = cc in never)
rewriting_binds Rewrites (s ∷ []) (a ∷ []) w e all = absurd (let never : ⊥ = cc in never)
rewriting_binds Rewrites (s ∷ []) (a ∷ (b ∷ (c ∷ ps))) w e all =
    absurd (let never : ⊥ = cc in never)
rewriting_binds Top ss ps w e all = absurd (let never : ⊥ = cc in never)
rewriting_binds Bottom ss ps w e all = absurd (let never : ⊥ = cc in never)
rewriting_binds Not ss ps w e all = absurd (let never : ⊥ = cc in never)
rewriting_binds Next ss ps w e all = absurd (let never : ⊥ = cc in never)
rewriting_binds And ss ps w e all = absurd (let never : ⊥ = cc in never)
rewriting_binds Or ss ps w e all = absurd (let never : ⊥ = cc in never)
rewriting_binds Implies ss ps w e all = absurd (let never : ⊥ = cc in never)
rewriting_binds Iff ss ps w e all = absurd (let never : ⊥ = cc in never)
rewriting_binds Ceil ss ps w e all = absurd (let never : ⊥ = cc in never)
rewriting_binds Floor ss ps w e all = absurd (let never : ⊥ = cc in never)
rewriting_binds Equals ss ps w e all = absurd (let never : ⊥ = cc in never)
rewriting_binds Member ss ps w e all = absurd (let never : ⊥ = cc in never)

pub rewriting_binds_none : (p : PatternTree) (w : Rewriting) → rewriting p ≡ Some w
    → has_binder p ≡ false → BothBindNone w
rewriting_binds_none (element_variable at n s) w e h = absurd (let never : ⊥ = cc in never)
rewriting_binds_none (set_variable at n s) w e h = absurd (let never : ⊥ = cc in never)
rewriting_binds_none (string at text) w e h = absurd (let never : ⊥ = cc in never)
rewriting_binds_none (symbol_applied at n ss ps) w e h = absurd (let never : ⊥ = cc in never)
rewriting_binds_none (connected at op ss ps) w e h =
    rewriting_binds op (listed_sorts ss) (listed_patterns ps) w e (each_binds_none ps h)
rewriting_binds_none (binder_applied at b ss x p) w e h = absurd (false≢true (sym h))
rewriting_binds_none (value_written at s text place) w e h = absurd (let never : ⊥ = cc in never)
rewriting_binds_none (folded at left p) w e h = absurd (let never : ⊥ = cc in never)

-- ---- the patterns of a side

abbrev SideBindsNone : Side → Type 0
SideBindsNone (alone p) = has_binder p ≡ false
SideBindsNone (beside p q) = (has_binder p ≡ false) × (has_binder q ≡ false)
SideBindsNone without = Unit {0}
SideBindsNone misshapen = Unit {0}

picked_binds : (test : PatternTree → Bool) (p q : PatternTree) → has_binder p ≡ false
    → has_binder q ≡ false → SideBindsNone (picked test p q)
picked_binds test p q h k = by_case (test p) (test q) where
  by_case : (a b : Bool) → SideBindsNone (cond a (beside p q) (cond b (beside q p) without))
  by_case true b = (h, k)
  by_case false true = (k, h)
  by_case false false = tt

joined_binds : (test : PatternTree → Bool) (s : SortTree) (ts : List SortTree)
    (ps : List PatternTree) → AllBindNone ps → SideBindsNone (joined_side test s ts ps)
joined_binds test s [] ps all = tt
joined_binds test s (t ∷ (u ∷ ts)) ps all = tt
joined_binds test s (t ∷ []) [] all = tt
joined_binds test s (t ∷ []) (p ∷ []) all = tt
joined_binds test s (t ∷ []) (p ∷ (q ∷ (r ∷ ps))) all = tt
joined_binds test s (t ∷ []) (p ∷ (q ∷ [])) all = by_case (same_sort s t) where
  by_case : (b : Bool) → SideBindsNone (cond b (picked test p q) misshapen)
  by_case true = picked_binds test p q all.0 all.1.0
  by_case false = tt

pub side_binds_none : (test : PatternTree → Bool) (s : SortTree) (p : PatternTree)
    → has_binder p ≡ false → SideBindsNone (side test s p)
side_binds_none test s (connected at And ts ps) h =
    joined_binds test s (listed_sorts ts) (listed_patterns ps) (each_binds_none ps h)
side_binds_none test s (connected at Top ts ps) h = h
side_binds_none test s (connected at Bottom ts ps) h = h
side_binds_none test s (connected at Not ts ps) h = h
side_binds_none test s (connected at Next ts ps) h = h
side_binds_none test s (connected at Or ts ps) h = h
side_binds_none test s (connected at Implies ts ps) h = h
side_binds_none test s (connected at Iff ts ps) h = h
side_binds_none test s (connected at Rewrites ts ps) h = h
side_binds_none test s (connected at Ceil ts ps) h = h
side_binds_none test s (connected at Floor ts ps) h = h
side_binds_none test s (connected at Equals ts ps) h = h
side_binds_none test s (connected at Member ts ps) h = h
side_binds_none test s (element_variable at n t) h = h
side_binds_none test s (set_variable at n t) h = h
side_binds_none test s (string at text) h = h
side_binds_none test s (symbol_applied at n ss ps) h = h
side_binds_none test s (binder_applied at b ss x p) h = h
side_binds_none test s (value_written at t text place) h = h
side_binds_none test s (folded at left p) h = h

pub main_binds_none : (s : Side) → SideBindsNone s → NoneBinds (main_part s)
main_binds_none (alone p) h =
    λ q e. subst (λ (x : PatternTree). has_binder x ≡ false) (let same : p ≡ q = cc in same) h
main_binds_none (beside p r) h =
    λ q e. subst (λ (x : PatternTree). has_binder x ≡ false) (let same : r ≡ q = cc in same) h.1
main_binds_none without h = λ q e. absurd (let never : ⊥ = cc in never)
main_binds_none misshapen h = λ q e. absurd (let never : ⊥ = cc in never)

pub found_binds_none : (s : Side) → SideBindsNone s → NoneBinds (found_part s)
found_binds_none (alone p) h = λ q e. absurd (let never : ⊥ = cc in never)
found_binds_none (beside p r) h =
    λ q e. subst (λ (x : PatternTree). has_binder x ≡ false) (let same : p ≡ q = cc in same) h.0
found_binds_none without h = λ q e. absurd (let never : ⊥ = cc in never)
found_binds_none misshapen h = λ q e. absurd (let never : ⊥ = cc in never)

-- ---- the pattern that a condition tests

abbrev ConditionBindsNone : Condition → Type 0
ConditionBindsNone always = Unit {0}
ConditionBindsNone (tests t b) = has_binder b ≡ false
ConditionBindsNone ill = Unit {0}

condition_binds : (s : SortTree) (op : Op) (ts : List SortTree) (ps : List PatternTree)
    → AllBindNone ps → ConditionBindsNone (condition_with s op ts ps)
condition_binds s Top [] ps all = tt
condition_binds s Top (t ∷ (u ∷ ts)) ps all = tt
condition_binds s Top (t ∷ []) (p ∷ ps) all = tt
condition_binds s Top (t ∷ []) [] all = by_case (same_sort s t) where
  by_case : (b : Bool) → ConditionBindsNone (cond b always ill)
  by_case true = tt
  by_case false = tt
condition_binds s Equals [] ps all = tt
condition_binds s Equals (t ∷ []) ps all = tt
condition_binds s Equals (t ∷ (u ∷ (v ∷ ts))) ps all = tt
condition_binds s Equals (t ∷ (u ∷ [])) [] all = tt
condition_binds s Equals (t ∷ (u ∷ [])) (p ∷ []) all = tt
condition_binds s Equals (t ∷ (u ∷ [])) (p ∷ (q ∷ (r ∷ ps))) all = tt
condition_binds s Equals (t ∷ (u ∷ [])) (p ∷ (q ∷ [])) all =
    by_case (same_sort s u && is_true_of t q)
  where
    by_case : (b : Bool) → ConditionBindsNone (cond b (tests t p) ill)
    by_case true = all.0
    by_case false = tt
condition_binds s Bottom ts ps all = tt
condition_binds s Not ts ps all = tt
condition_binds s Next ts ps all = tt
condition_binds s And ts ps all = tt
condition_binds s Or ts ps all = tt
condition_binds s Implies ts ps all = tt
condition_binds s Iff ts ps all = tt
condition_binds s Rewrites ts ps all = tt
condition_binds s Ceil ts ps all = tt
condition_binds s Floor ts ps all = tt
condition_binds s Member ts ps all = tt

condition_of_binds : (s : SortTree) (p : PatternTree) → has_binder p ≡ false
    → ConditionBindsNone (condition_of s p)
condition_of_binds s (element_variable at n t) h = tt
condition_of_binds s (set_variable at n t) h = tt
condition_of_binds s (string at text) h = tt
condition_of_binds s (symbol_applied at n ss ps) h = tt
condition_of_binds s (connected at op ts ps) h =
    condition_binds s op (listed_sorts ts) (listed_patterns ps) (each_binds_none ps h)
condition_of_binds s (binder_applied at b ss x p) h = tt
condition_of_binds s (value_written at t text place) h = tt
condition_of_binds s (folded at left p) h = tt

given_binds : (s : SortTree) (o : Option PatternTree) → NoneBinds o
    → ConditionBindsNone (given_condition s o)
given_binds s None none = tt
given_binds s (Some p) none = condition_of_binds s p (none p refl)

over_binds : (sig : Signature) (c : Condition) → ConditionBindsNone c
    → ConditionBindsNone (over_bool sig c)
over_binds sig always h = tt
over_binds sig ill h = tt
over_binds sig (tests t b) h = by_case (is_bool sig t) where
  by_case : (x : Bool) → ConditionBindsNone (cond x (tests t b) ill)
  by_case true = h
  by_case false = tt

tested_binds : (c : Condition) → ConditionBindsNone c → NoneBinds (tested_pattern c)
tested_binds always h = λ q e. absurd (let never : ⊥ = cc in never)
tested_binds (tests t b) h =
    λ q e. subst (λ (x : PatternTree). has_binder x ≡ false) (let same : b ≡ q = cc in same) h
tested_binds ill h = λ q e. absurd (let never : ⊥ = cc in never)

-- the pattern that a condition over sorts of truth values tests
pub test_binds_none : (sig : Signature) (s : SortTree) (o : Option PatternTree) → NoneBinds o
    → NoneBinds (tested_pattern (over_bool sig (given_condition s o)))
test_binds_none sig s o none = tested_binds _ (over_binds sig _ (given_binds s o none))

-- ---- the parts of a rule

pub record PartsBindNone (w : RuleParts) : Type 0 where
  pub left : NoneBinds (left_of w)
  pub right : NoneBinds (right_of w)
  pub test : NoneBinds (tested_pattern w.condition)

pub parts_bind_none : (sig : Signature) (p : PatternTree) (v : Rewriting) → rewriting p ≡ Some v
    → has_binder p ≡ false → PartsBindNone (rule_parts sig v)
parts_bind_none sig p v e h =
    let both = rewriting_binds_none p v e h in
    let before = side_binds_none heads_condition v.sort v.before both.0 in
    let after = side_binds_none is_top v.sort v.after both.1 in
    record {
      left = main_binds_none (side heads_condition v.sort v.before) before;
      right = main_binds_none (side is_top v.sort v.after) after;
      test =
          test_binds_none sig v.sort _
          (found_binds_none (side heads_condition v.sort v.before) before);
    }
