-- How many variables a pattern of the text has. Numbering a pattern adds at most as many. The parts
-- of a rule and of an equation have at most as many as their axiom.
use Rattle.std.proofs.Common.{◌≡◌, ◌≤◌, ℕ, ◌+◌, Bool, true, false, ◌&&◌, List, [], ◌∷◌, ◌++◌}
use Rattle.std.proofs.Common.{length, Option, Some, None, ◌⊎◌, inl, inr, cond, refl, ap, sym, subst}
use Rattle.std.proofs.Common.{arith}
use Rattle.std.specs.Prelude.{option_map, is_some, if◌then◌else◌}
use Rattle.std.specs.Option.{option_and_then}
use Rattle.std.proofs.lemmas.Bool.{false≢true}
use Rattle.std.proofs.lemmas.List.{length-append}
use Rattle.kore_text.specs.Trees.{SortTree, listed_sorts, PatternTree, element_variable}
use Rattle.kore_text.specs.Trees.{set_variable, string, symbol_applied, connected, binder_applied}
use Rattle.kore_text.specs.Trees.{value_written, folded, PatternTrees, no_patterns, pattern_then}
use Rattle.kore_text.specs.Trees.{pattern_trees, listed_patterns}
use Rattle.kore_text.specs.declared.names.Op.{Op}
use Rattle.kore_text.specs.declared.names.Op.TheVariants.{Top, Bottom, Not, Next, And, Or, Implies}
use Rattle.kore_text.specs.declared.names.Op.TheVariants.{Iff, Rewrites, Ceil, Floor, Equals}
use Rattle.kore_text.specs.declared.names.Op.TheVariants.{Member}
use Rattle.rule_core.proofs.Belows.{both_true}
use Rattle.rule_core.specs.declared.signature.Signature.{Signature}
use Rattle.kore_sig.specs.SortReferences.{sort_number}
use Rattle.kore_check.specs.Folds.{Unfolded, named_variable, written_value, applied_symbol}
use Rattle.kore_check.specs.Folds.{both_of, other_form, Unfoldeds, no_more, and_more, standing_at}
use Rattle.kore_check.specs.Folds.{applied_to_two, folded_left, folded_right, fold_of}
use Rattle.kore_check.specs.Folds.{connective_of, connective_fold}
use Rattle.kore_check.proofs.Connectives.{IsConnective, connective_case}
use Rattle.kore_check.specs.Folds.{unfolded, inner_fold, all_unfolded}
use Rattle.kore_check.specs.PatternMeanings.{variable_number, with_variable, with_variables}
use Rattle.kore_check.specs.PatternMeanings.{with_all_variables}
use Rattle.kore_shapes.specs.SameSorts.{same_sort}
use Rattle.kore_shapes.specs.Shapes.{Rewriting, rewriting, rewriting_of, Side, alone, beside}
use Rattle.kore_shapes.specs.Shapes.{without, misshapen, side, joined_side, picked, main_part}
use Rattle.kore_shapes.specs.Statements.{StatedEquation, stated_call, symbol_called}
use Rattle.kore_shapes.specs.Statements.{equality_of_call, equality_with, equality, guarded}
use Rattle.kore_shapes.specs.Statements.{statement_with, stated_equation}
use Rattle.kore_shapes.specs.EquationForms.{EquationParts, conjuncts_with, conjuncts, is_top_of}
use Rattle.kore_shapes.specs.EquationForms.{right_side, is_member, member_with, member_pattern}
use Rattle.kore_shapes.specs.EquationForms.{entry, members, stands_alone, occur_nowhere_else}
use Rattle.kore_shapes.specs.EquationForms.{direct_parts, kompiled, parts_under, parts_with}
use Rattle.kore_shapes.specs.EquationForms.{equation_parts}
use Rattle.kore_equations.specs.ReadableSides.{all_read}

-- the number of places of the pattern where an element variable occurs
abbrev mutual
  pub variable_count : PatternTree → ℕ
  variable_count (element_variable at n s) = 1
  variable_count (set_variable at n s) = 0
  variable_count (string at text) = 0
  variable_count (symbol_applied at n ss ps) = variables_count ps
  variable_count (connected at op ss ps) = variables_count ps
  variable_count (binder_applied at b ss x p) = variable_count x + variable_count p
  variable_count (value_written at s text place) = 0
  variable_count (folded at left p) = variable_count p

  pub variables_count : PatternTrees → ℕ
  variables_count no_patterns = 0
  variables_count (pattern_then p ps) = variable_count p + variables_count ps

-- the same for a list of patterns
abbrev pub listed_count : List PatternTree → ℕ
listed_count [] = 0
listed_count (p ∷ ps) = variable_count p + listed_count ps

pub as_listed : (ps : PatternTrees) → variables_count ps ≡ listed_count (listed_patterns ps)
as_listed no_patterns = refl
as_listed (pattern_then p ps) = ap (λ (n : ℕ). variable_count p + n) (as_listed ps)

as_trees : (ps : List PatternTree) → variables_count (pattern_trees ps) ≡ listed_count ps
as_trees [] = refl
as_trees (p ∷ ps) = ap (λ (n : ℕ). variable_count p + n) (as_trees ps)

-- ---- patterns with their folds expanded

abbrev mutual
  pub read_count : Unfolded → ℕ
  read_count (named_variable at n s) = 1
  read_count (written_value at s text byte) = 0
  read_count (applied_symbol at byte n ss us) = all_read_count us
  read_count (both_of at s u w) = read_count u + read_count w
  read_count (other_form at) = 0

  all_read_count : Unfoldeds → ℕ
  all_read_count no_more = 0
  all_read_count (and_more u us) = read_count u + all_read_count us

one_added : (vars : List (List ℕ × ℕ)) (name : List ℕ) (o : Option ℕ)
    → length (with_variable vars name o) ≤ length vars + 1
one_added vars name None = omega arith
one_added vars name (Some s) = by_case (is_some (variable_number vars name s)) where
  by_case : (b : Bool) → length (if b then vars else vars ++ (name, s) ∷ []) ≤ length vars + 1
  by_case true = omega arith
  by_case false =
      let long : length (vars ++ (name, s) ∷ []) ≡ length vars + 1 =
      length-append vars ((name, s) ∷ []) in
      omega (arith, long)

-- numbering a pattern adds at most as many variables as it has
mutual
  added : (sig : Signature) (vars : List (List ℕ × ℕ)) (u : Unfolded)
      → length (with_variables sig vars u) ≤ length vars + read_count u
  added sig vars (named_variable at n t) = one_added vars n (sort_number sig.sorts t)
  added sig vars (written_value at t text byte) = omega arith
  added sig vars (applied_symbol at byte n ss us) = all_added sig vars us
  added sig vars (both_of at s u w) =
      let first = added sig vars u in
      let second = added sig (with_variables sig vars u) w in
      omega (arith, first, second)
  added sig vars (other_form at) = omega arith

  all_added : (sig : Signature) (vars : List (List ℕ × ℕ)) (us : Unfoldeds)
      → length (with_all_variables sig vars us) ≤ length vars + all_read_count us
  all_added sig vars no_more = omega arith
  all_added sig vars (and_more u us) =
      let first = added sig vars u in
      let rest = all_added sig (with_variables sig vars u) us in
      omega (arith, first, rest)

left_count : (byte : ℕ) (n : List ℕ) (ss : List SortTree) (u : Unfolded) (us : Unfoldeds)
    → read_count (folded_left byte n ss u us) ≡ read_count u + all_read_count us
left_count byte n ss u no_more = omega arith
left_count byte n ss u (and_more v us) =
    let rest = left_count byte n ss (applied_to_two byte n ss u v) us in omega (arith, rest)

right_count : (byte : ℕ) (n : List ℕ) (ss : List SortTree) (u : Unfolded) (us : Unfoldeds)
    → read_count (folded_right byte n ss u us) ≡ read_count u + all_read_count us
right_count byte n ss u no_more = omega arith
right_count byte n ss u (and_more v us) =
    let rest = right_count byte n ss v us in omega (arith, rest)

fold_count : (left : Bool) (byte : ℕ) (n : List ℕ) (ss : List SortTree) (us : Unfoldeds)
    → read_count (fold_of left byte n ss us) ≤ all_read_count us
fold_count left byte n ss no_more = omega arith
fold_count true byte n ss (and_more u us) =
    let same = left_count byte n ss u us in omega (arith, same)
fold_count false byte n ss (and_more u us) =
    let same = right_count byte n ss u us in omega (arith, same)

standing_count : (at : ℕ) (u : Unfolded) → read_count (standing_at at u) ≡ read_count u
standing_count at (named_variable there n s) = refl
standing_count at (written_value there s text byte) = refl
standing_count at (applied_symbol there byte n ss us) = refl
standing_count at (both_of there s u w) = refl
standing_count at (other_form there) = refl

connective_count : (at : ℕ) (op : Op) (ss : List SortTree) (us : Unfoldeds)
    → read_count (connective_of at op ss us) ≤ all_read_count us
connective_count at op ss us = by_case (connective_case at op ss us) where
  by_case : IsConnective at op ss us → read_count (connective_of at op ss us) ≤ all_read_count us
  by_case (inl both) =
      let here : read_count (connective_of at op ss us) ≡ read_count both.1 + read_count both.2 =
      ap read_count both.4 in
      let all : all_read_count us ≡ read_count both.1 + (read_count both.2 + 0) =
      ap all_read_count both.3 in
      omega (arith, here, all)
  by_case (inr other) =
      let none : read_count (connective_of at op ss us) ≡ 0 = ap read_count other in
      omega (arith, none)

folded_count : (at : ℕ) (op : Op) (ss : List SortTree) (us : Unfoldeds)
    → read_count (connective_fold at op ss us) ≤ all_read_count us
folded_count at op ss no_more = connective_count at op ss no_more
folded_count at op ss (and_more u no_more) = omega arith
folded_count at op ss (and_more u (and_more v us)) =
    connective_count at op ss (and_more u (and_more v us))

mutual
  pub unfolded_count : (p : PatternTree) → read_count (unfolded p) ≤ variable_count p
  unfolded_count (element_variable at n s) = omega arith
  unfolded_count (set_variable at n s) = omega arith
  unfolded_count (string at text) = omega arith
  unfolded_count (symbol_applied at n ss ps) = all_unfolded_count ps
  unfolded_count (connected at op ss ps) =
      let here = connective_count at op (listed_sorts ss) (all_unfolded ps) in
      let all = all_unfolded_count ps in omega (arith, here, all)
  unfolded_count (binder_applied at b ss x p) = omega arith
  unfolded_count (value_written at s text place) = omega arith
  unfolded_count (folded at left p) =
      let same = standing_count at (inner_fold left p) in
      let inner = inner_count left p in omega (arith, same, inner)

  inner_count : (left : Bool) (p : PatternTree) → read_count (inner_fold left p) ≤ variable_count p
  inner_count left (element_variable at n s) = omega arith
  inner_count left (set_variable at n s) = omega arith
  inner_count left (string at text) = omega arith
  inner_count left (symbol_applied at n ss ps) =
      let fold = fold_count left at n (listed_sorts ss) (all_unfolded ps) in
      let all = all_unfolded_count ps in omega (arith, fold, all)
  inner_count left (connected at op ss ps) =
      let here = folded_count at op (listed_sorts ss) (all_unfolded ps) in
      let all = all_unfolded_count ps in omega (arith, here, all)
  inner_count left (binder_applied at b ss x p) = omega arith
  inner_count left (value_written at s text place) = omega arith
  inner_count left (folded at other p) = omega arith

  all_unfolded_count : (ps : PatternTrees) → all_read_count (all_unfolded ps) ≤ variables_count ps
  all_unfolded_count no_patterns = omega arith
  all_unfolded_count (pattern_then p ps) =
      let first = unfolded_count p in
      let rest = all_unfolded_count ps in omega (arith, first, rest)

-- a pattern has at most as many variables as places of variables, and so have patterns in a list
pub few_variables : (sig : Signature) (p : PatternTree)
    → length (with_variables sig [] (unfolded p)) ≤ variable_count p
few_variables sig p =
    let most = added sig [] (unfolded p) in
    let same = unfolded_count p in omega (arith, most, same)

pub all_few_variables : (sig : Signature) (ps : List PatternTree)
    → length (with_all_variables sig [] (all_read ps)) ≤ listed_count ps
all_few_variables sig ps =
    let most = all_added sig [] (all_read ps) in
    let same = all_unfolded_count (pattern_trees ps) in
    let listed = as_trees ps in omega (arith, most, same, listed)

-- ---- the left side of a rule

rewriting_count : (op : Op) (ss : List SortTree) (ps : List PatternTree) (w : Rewriting)
    → rewriting_of op ss ps ≡ Some w → variable_count w.before ≤ listed_count ps
rewriting_count Rewrites (s ∷ []) (a ∷ (b ∷ [])) w e =
    let same : record { sort = s; before = a; after = b } ≡ w = cc in
    subst (λ (v : Rewriting). variable_count v.before ≤ listed_count (a ∷ (b ∷ []))) same
    (omega arith)
rewriting_count Rewrites [] ps w e = absurd (let never : ⊥ = cc in never)
rewriting_count Rewrites (s ∷ (t ∷ ss)) ps w e = absurd (let never : ⊥ = cc in never)
rewriting_count Rewrites (s ∷ []) [] w e = absurd (let never : ⊥ = cc in never)
rewriting_count Rewrites (s ∷ []) (a ∷ []) w e = absurd (let never : ⊥ = cc in never)
rewriting_count Rewrites (s ∷ []) (a ∷ (b ∷ (c ∷ ps))) w e = absurd (let never : ⊥ = cc in never)
rewriting_count Top ss ps w e = absurd (let never : ⊥ = cc in never)
rewriting_count Bottom ss ps w e = absurd (let never : ⊥ = cc in never)
rewriting_count Not ss ps w e = absurd (let never : ⊥ = cc in never)
rewriting_count Next ss ps w e = absurd (let never : ⊥ = cc in never)
rewriting_count And ss ps w e = absurd (let never : ⊥ = cc in never)
rewriting_count Or ss ps w e = absurd (let never : ⊥ = cc in never)
rewriting_count Implies ss ps w e = absurd (let never : ⊥ = cc in never)
rewriting_count Iff ss ps w e = absurd (let never : ⊥ = cc in never)
rewriting_count Ceil ss ps w e = absurd (let never : ⊥ = cc in never)
rewriting_count Floor ss ps w e = absurd (let never : ⊥ = cc in never)
rewriting_count Equals ss ps w e = absurd (let never : ⊥ = cc in never)
rewriting_count Member ss ps w e = absurd (let never : ⊥ = cc in never)

pub before_count : (p : PatternTree) (w : Rewriting) → rewriting p ≡ Some w
    → variable_count w.before ≤ variable_count p
before_count (element_variable at n s) w e = absurd (let never : ⊥ = cc in never)
before_count (set_variable at n s) w e = absurd (let never : ⊥ = cc in never)
before_count (string at text) w e = absurd (let never : ⊥ = cc in never)
before_count (symbol_applied at n ss ps) w e = absurd (let never : ⊥ = cc in never)
before_count (connected at op ss ps) w e =
    let most = rewriting_count op (listed_sorts ss) (listed_patterns ps) w e in
    let same = as_listed ps in omega (arith, most, same)
before_count (binder_applied at b ss x p) w e = absurd (let never : ⊥ = cc in never)
before_count (value_written at s text place) w e = absurd (let never : ⊥ = cc in never)
before_count (folded at left p) w e = absurd (let never : ⊥ = cc in never)

-- the pattern that is found in a side has at most n variables
abbrev IsSideWithin : ℕ → Side → Type 0
IsSideWithin n (alone p) = variable_count p ≤ n
IsSideWithin n (beside p q) = variable_count q ≤ n
IsSideWithin n without = Unit {0}
IsSideWithin n misshapen = Unit {0}

picked_count : (n : ℕ) (test : PatternTree → Bool) (p q : PatternTree) → variable_count p ≤ n
    → variable_count q ≤ n → IsSideWithin n (picked test p q)
picked_count n test p q a b = by_case (test p) (test q) where
  by_case : (s t : Bool) → IsSideWithin n (cond s (beside p q) (cond t (beside q p) without))
  by_case true t = b
  by_case false true = a
  by_case false false = tt

joined_count : (test : PatternTree → Bool) (s : SortTree) (ts : List SortTree)
    (ps : List PatternTree) → IsSideWithin (listed_count ps) (joined_side test s ts ps)
joined_count test s [] ps = tt
joined_count test s (t ∷ (u ∷ ts)) ps = tt
joined_count test s (t ∷ []) [] = tt
joined_count test s (t ∷ []) (p ∷ []) = tt
joined_count test s (t ∷ []) (p ∷ (q ∷ (r ∷ ps))) = tt
joined_count test s (t ∷ []) (p ∷ (q ∷ [])) = by_case (same_sort s t) where
  by_case : (b : Bool)
      → IsSideWithin (listed_count (p ∷ (q ∷ []))) (cond b (picked test p q) misshapen)
  by_case true = picked_count (listed_count (p ∷ (q ∷ []))) test p q (omega arith) (omega arith)
  by_case false = tt

pub side_count : (test : PatternTree → Bool) (s : SortTree) (p : PatternTree)
    → IsSideWithin (variable_count p) (side test s p)
side_count test s (connected at And ts ps) =
    subst (λ (n : ℕ). IsSideWithin n (joined_side test s (listed_sorts ts) (listed_patterns ps)))
    (sym (as_listed ps)) (joined_count test s (listed_sorts ts) (listed_patterns ps))
side_count test s (connected at Top ts ps) = omega arith
side_count test s (connected at Bottom ts ps) = omega arith
side_count test s (connected at Not ts ps) = omega arith
side_count test s (connected at Next ts ps) = omega arith
side_count test s (connected at Or ts ps) = omega arith
side_count test s (connected at Implies ts ps) = omega arith
side_count test s (connected at Iff ts ps) = omega arith
side_count test s (connected at Rewrites ts ps) = omega arith
side_count test s (connected at Ceil ts ps) = omega arith
side_count test s (connected at Floor ts ps) = omega arith
side_count test s (connected at Equals ts ps) = omega arith
side_count test s (connected at Member ts ps) = omega arith
side_count test s (element_variable at n t) = omega arith
side_count test s (set_variable at n t) = omega arith
side_count test s (string at text) = omega arith
side_count test s (symbol_applied at n ss ps) = omega arith
side_count test s (binder_applied at b ss x p) = omega arith
side_count test s (value_written at t text place) = omega arith
side_count test s (folded at left p) = omega arith

pub main_count : (n : ℕ) (s : Side) (p : PatternTree) → IsSideWithin n s → main_part s ≡ Some p
    → variable_count p ≤ n
main_count n (alone q) p h e =
    subst (λ (x : PatternTree). variable_count x ≤ n) (let same : q ≡ p = cc in same) h
main_count n (beside r q) p h e =
    subst (λ (x : PatternTree). variable_count x ≤ n) (let same : q ≡ p = cc in same) h
main_count n without p h e = absurd (let never : ⊥ = cc in never)
main_count n misshapen p h e = absurd (let never : ⊥ = cc in never)

-- ---- the statement of an equation

pub mapped_there : {X Y : Type 0} (f : X → Y) (o : Option X) (y : Y) → option_map f o ≡ Some y
    → (x : X) × (o ≡ Some x) × (f x ≡ y)
mapped_there f None y e = absurd (let never : ⊥ = cc in never)
mapped_there f (Some x) y e = (x, refl, (let same : f x ≡ y = cc in same))

pub then_there : {X Y : Type 0} (f : X → Option Y) (o : Option X) (y : Y) → option_and_then f o ≡ Some y
    → (x : X) × (o ≡ Some x) × (f x ≡ Some y)
then_there f None y e = absurd (let never : ⊥ = cc in never)
then_there f (Some x) y e = (x, refl, e)

-- the guard has at most n variables, and so have the arguments together
pub record IsStatementWithin (n : ℕ) (e : StatedEquation) : Type 0 where
  pub guard : (g : PatternTree) → e.guard ≡ Some g → variable_count g ≤ n
  pub arguments : listed_count e.arguments ≤ n

wider : (n m : ℕ) (e : StatedEquation) → n ≤ m → IsStatementWithin n e → IsStatementWithin m e
wider n m e le h = record {
  guard = λ g is. let most = h.guard g is in omega (arith, most, le);
  arguments = let most = h.arguments in omega (arith, most, le);
}

call_count : (f : List ℕ) (ss : List SortTree) (ps : List PatternTree)
    (call : List ℕ × List PatternTree) → stated_call f ss ps ≡ Some call
    → listed_count call.1 ≤ listed_count ps
call_count f [] ps call e =
    subst (λ (qs : List PatternTree). listed_count qs ≤ listed_count ps)
    (let same : ps ≡ call.1 = cc in same) (omega arith)
call_count f (s ∷ ss) ps call e = absurd (let never : ⊥ = cc in never)

called_count : (p : PatternTree) (call : List ℕ × List PatternTree) → symbol_called p ≡ Some call
    → listed_count call.1 ≤ variable_count p
called_count (element_variable at n s) call e = absurd (let never : ⊥ = cc in never)
called_count (set_variable at n s) call e = absurd (let never : ⊥ = cc in never)
called_count (string at text) call e = absurd (let never : ⊥ = cc in never)
called_count (symbol_applied at n ss ps) call e =
    let most = call_count n (listed_sorts ss) (listed_patterns ps) call e in
    let same = as_listed ps in omega (arith, most, same)
called_count (connected at op ss ps) call e = absurd (let never : ⊥ = cc in never)
called_count (binder_applied at b ss x p) call e = absurd (let never : ⊥ = cc in never)
called_count (value_written at s text place) call e = absurd (let never : ⊥ = cc in never)
called_count (folded at left p) call e = absurd (let never : ⊥ = cc in never)

stated_count : (n : ℕ) (s r : SortTree) (l d : PatternTree) (e : StatedEquation)
    → option_map (equality_of_call s r d) (symbol_called l) ≡ Some e → variable_count l ≤ n
    → IsStatementWithin n e
stated_count n s r l d e is le =
    let found = mapped_there (equality_of_call s r d) (symbol_called l) e is in
    let most = called_count l found.0 found.1 in
    subst (IsStatementWithin n) found.2 (record {
      guard =
          λ g none. absurd (let never : ⊥ = cc in never);
      arguments = omega (arith, most, le);
    })

equality_with_count : (op : Op) (ss : List SortTree) (ps : List PatternTree) (e : StatedEquation)
    → equality_with op ss ps ≡ Some e → IsStatementWithin (listed_count ps) e
equality_with_count Equals (s ∷ (r ∷ [])) (l ∷ (d ∷ [])) e is =
    stated_count (listed_count (l ∷ (d ∷ []))) s r l d e is (omega arith)
equality_with_count Equals [] ps e is = absurd (let never : ⊥ = cc in never)
equality_with_count Equals (s ∷ []) ps e is = absurd (let never : ⊥ = cc in never)
equality_with_count Equals (s ∷ (r ∷ (t ∷ ss))) ps e is = absurd (let never : ⊥ = cc in never)
equality_with_count Equals (s ∷ (r ∷ [])) [] e is = absurd (let never : ⊥ = cc in never)
equality_with_count Equals (s ∷ (r ∷ [])) (l ∷ []) e is = absurd (let never : ⊥ = cc in never)
equality_with_count Equals (s ∷ (r ∷ [])) (l ∷ (d ∷ (p ∷ ps))) e is =
    absurd (let never : ⊥ = cc in never)
equality_with_count Top ss ps e is = absurd (let never : ⊥ = cc in never)
equality_with_count Bottom ss ps e is = absurd (let never : ⊥ = cc in never)
equality_with_count Not ss ps e is = absurd (let never : ⊥ = cc in never)
equality_with_count Next ss ps e is = absurd (let never : ⊥ = cc in never)
equality_with_count And ss ps e is = absurd (let never : ⊥ = cc in never)
equality_with_count Or ss ps e is = absurd (let never : ⊥ = cc in never)
equality_with_count Implies ss ps e is = absurd (let never : ⊥ = cc in never)
equality_with_count Iff ss ps e is = absurd (let never : ⊥ = cc in never)
equality_with_count Rewrites ss ps e is = absurd (let never : ⊥ = cc in never)
equality_with_count Ceil ss ps e is = absurd (let never : ⊥ = cc in never)
equality_with_count Floor ss ps e is = absurd (let never : ⊥ = cc in never)
equality_with_count Member ss ps e is = absurd (let never : ⊥ = cc in never)

equality_count : (p : PatternTree) (e : StatedEquation) → equality p ≡ Some e
    → IsStatementWithin (variable_count p) e
equality_count (element_variable at n s) e is = absurd (let never : ⊥ = cc in never)
equality_count (set_variable at n s) e is = absurd (let never : ⊥ = cc in never)
equality_count (string at text) e is = absurd (let never : ⊥ = cc in never)
equality_count (symbol_applied at n ss ps) e is = absurd (let never : ⊥ = cc in never)
equality_count (connected at op ss ps) e is =
    subst (λ (n : ℕ). IsStatementWithin n e) (sym (as_listed ps))
    (equality_with_count op (listed_sorts ss) (listed_patterns ps) e is)
equality_count (binder_applied at b ss x p) e is = absurd (let never : ⊥ = cc in never)
equality_count (value_written at s text place) e is = absurd (let never : ⊥ = cc in never)
equality_count (folded at left p) e is = absurd (let never : ⊥ = cc in never)

guarded_count : (n : ℕ) (r : SortTree) (g : PatternTree) (d e : StatedEquation) → guarded r g d
    ≡ Some e
    → variable_count g ≤ n → IsStatementWithin n d → IsStatementWithin n e
guarded_count n r g d e is le h = by_case (same_sort r d.over) is where
  by_case : (t : Bool) → cond t (Some (record d { guard = Some g })) None ≡ Some e
      → IsStatementWithin n e
  by_case false is = absurd (let never : ⊥ = cc in never)
  by_case true is =
      subst (IsStatementWithin n) (let same : record d { guard = Some g } ≡ e = cc in same)
      (record {
        guard =
            λ p some. subst (λ (q : PatternTree). variable_count q ≤ n)
            (let same : g ≡ p = cc in same) le;
        arguments = h.arguments;
      })

statement_with_count : (op : Op) (ss : List SortTree) (ps : List PatternTree) (e : StatedEquation)
    → statement_with op ss ps ≡ Some e → IsStatementWithin (listed_count ps) e
statement_with_count Implies (r ∷ []) (g ∷ (d ∷ [])) e is =
    let found = then_there (guarded r g) (equality d) e is in
    guarded_count (listed_count (g ∷ (d ∷ []))) r g found.0 e found.2 (omega arith)
    (wider (variable_count d) (listed_count (g ∷ (d ∷ []))) found.0 (omega arith)
    (equality_count d found.0 found.1))
statement_with_count Implies [] ps e is = absurd (let never : ⊥ = cc in never)
statement_with_count Implies (s ∷ (r ∷ ss)) ps e is = absurd (let never : ⊥ = cc in never)
statement_with_count Implies (s ∷ []) [] e is = absurd (let never : ⊥ = cc in never)
statement_with_count Implies (s ∷ []) (l ∷ []) e is = absurd (let never : ⊥ = cc in never)
statement_with_count Implies (s ∷ []) (l ∷ (d ∷ (p ∷ ps))) e is =
    absurd (let never : ⊥ = cc in never)
statement_with_count Top ss ps e is = equality_with_count Top ss ps e is
statement_with_count Bottom ss ps e is = equality_with_count Bottom ss ps e is
statement_with_count Not ss ps e is = equality_with_count Not ss ps e is
statement_with_count Next ss ps e is = equality_with_count Next ss ps e is
statement_with_count And ss ps e is = equality_with_count And ss ps e is
statement_with_count Or ss ps e is = equality_with_count Or ss ps e is
statement_with_count Iff ss ps e is = equality_with_count Iff ss ps e is
statement_with_count Rewrites ss ps e is = equality_with_count Rewrites ss ps e is
statement_with_count Ceil ss ps e is = equality_with_count Ceil ss ps e is
statement_with_count Floor ss ps e is = equality_with_count Floor ss ps e is
statement_with_count Equals ss ps e is = equality_with_count Equals ss ps e is
statement_with_count Member ss ps e is = equality_with_count Member ss ps e is

pub statement_count : (p : PatternTree) (e : StatedEquation) → stated_equation p ≡ Some e
    → IsStatementWithin (variable_count p) e
statement_count (element_variable at n s) e is = absurd (let never : ⊥ = cc in never)
statement_count (set_variable at n s) e is = absurd (let never : ⊥ = cc in never)
statement_count (string at text) e is = absurd (let never : ⊥ = cc in never)
statement_count (symbol_applied at n ss ps) e is = absurd (let never : ⊥ = cc in never)
statement_count (connected at op ss ps) e is =
    subst (λ (n : ℕ). IsStatementWithin n e) (sym (as_listed ps))
    (statement_with_count op (listed_sorts ss) (listed_patterns ps) e is)
statement_count (binder_applied at b ss x p) e is = absurd (let never : ⊥ = cc in never)
statement_count (value_written at s text place) e is = absurd (let never : ⊥ = cc in never)
statement_count (folded at left p) e is = absurd (let never : ⊥ = cc in never)

-- ---- conjunctions and members

conjuncts_with_count : (s : SortTree) (op : Op) (ts : List SortTree) (ps : List PatternTree)
    (both : PatternTree × PatternTree) → conjuncts_with s op ts ps ≡ Some both
    → variable_count both.0 + variable_count both.1 ≤ listed_count ps
conjuncts_with_count s And (t ∷ []) (p ∷ (q ∷ [])) both is = by_case (same_sort s t) is where
  by_case : (x : Bool) → cond x (Some (p, q)) None ≡ Some both
      → variable_count both.0 + variable_count both.1 ≤ listed_count (p ∷ (q ∷ []))
  by_case false is = absurd (let never : ⊥ = cc in never)
  by_case true is =
      subst (λ (b : PatternTree × PatternTree).
      variable_count b.0 + variable_count b.1 ≤ listed_count (p ∷ (q ∷ [])))
      (let same : (p, q) ≡ both = cc in same) (omega arith)
conjuncts_with_count s And [] ps both is = absurd (let never : ⊥ = cc in never)
conjuncts_with_count s And (t ∷ (r ∷ ss)) ps both is = absurd (let never : ⊥ = cc in never)
conjuncts_with_count s And (t ∷ []) [] both is = absurd (let never : ⊥ = cc in never)
conjuncts_with_count s And (t ∷ []) (l ∷ []) both is = absurd (let never : ⊥ = cc in never)
conjuncts_with_count s And (t ∷ []) (l ∷ (d ∷ (p ∷ ps))) both is =
    absurd (let never : ⊥ = cc in never)
conjuncts_with_count s Top ts ps both is = absurd (let never : ⊥ = cc in never)
conjuncts_with_count s Bottom ts ps both is = absurd (let never : ⊥ = cc in never)
conjuncts_with_count s Not ts ps both is = absurd (let never : ⊥ = cc in never)
conjuncts_with_count s Next ts ps both is = absurd (let never : ⊥ = cc in never)
conjuncts_with_count s Or ts ps both is = absurd (let never : ⊥ = cc in never)
conjuncts_with_count s Implies ts ps both is = absurd (let never : ⊥ = cc in never)
conjuncts_with_count s Iff ts ps both is = absurd (let never : ⊥ = cc in never)
conjuncts_with_count s Rewrites ts ps both is = absurd (let never : ⊥ = cc in never)
conjuncts_with_count s Ceil ts ps both is = absurd (let never : ⊥ = cc in never)
conjuncts_with_count s Floor ts ps both is = absurd (let never : ⊥ = cc in never)
conjuncts_with_count s Equals ts ps both is = absurd (let never : ⊥ = cc in never)
conjuncts_with_count s Member ts ps both is = absurd (let never : ⊥ = cc in never)

pub conjuncts_count : (s : SortTree) (p : PatternTree) (both : PatternTree × PatternTree)
    → conjuncts s p ≡ Some both → variable_count both.0 + variable_count both.1 ≤ variable_count p
conjuncts_count s (element_variable at n t) both is = absurd (let never : ⊥ = cc in never)
conjuncts_count s (set_variable at n t) both is = absurd (let never : ⊥ = cc in never)
conjuncts_count s (string at text) both is = absurd (let never : ⊥ = cc in never)
conjuncts_count s (symbol_applied at n ss ps) both is = absurd (let never : ⊥ = cc in never)
conjuncts_count s (connected at op ss ps) both is =
    let most = conjuncts_with_count s op (listed_sorts ss) (listed_patterns ps) both is in
    let same = as_listed ps in omega (arith, most, same)
conjuncts_count s (binder_applied at b ss x p) both is = absurd (let never : ⊥ = cc in never)
conjuncts_count s (value_written at t text place) both is = absurd (let never : ⊥ = cc in never)
conjuncts_count s (folded at left p) both is = absurd (let never : ⊥ = cc in never)

member_with_count : (r : SortTree) (x : PatternTree) (op : Op) (ss : List SortTree)
    (ps : List PatternTree) (p : PatternTree) → member_with r x op ss ps ≡ Some p
    → variable_count p ≤ listed_count ps
member_with_count r x Member (s ∷ (t ∷ [])) (y ∷ (q ∷ [])) p is =
    by_case (same_sort r t && is_member s x y) is
  where
    by_case : (b : Bool) → cond b (Some q) None ≡ Some p
        → variable_count p ≤ listed_count (y ∷ (q ∷ []))
    by_case false is = absurd (let never : ⊥ = cc in never)
    by_case true is =
        subst (λ (z : PatternTree). variable_count z ≤ listed_count (y ∷ (q ∷ [])))
        (let same : q ≡ p = cc in same) (omega arith)
member_with_count r x Member [] ps p is = absurd (let never : ⊥ = cc in never)
member_with_count r x Member (s ∷ []) ps p is = absurd (let never : ⊥ = cc in never)
member_with_count r x Member (s ∷ (t ∷ (u ∷ ss))) ps p is = absurd (let never : ⊥ = cc in never)
member_with_count r x Member (s ∷ (t ∷ [])) [] p is = absurd (let never : ⊥ = cc in never)
member_with_count r x Member (s ∷ (t ∷ [])) (y ∷ []) p is = absurd (let never : ⊥ = cc in never)
member_with_count r x Member (s ∷ (t ∷ [])) (y ∷ (q ∷ (z ∷ ps))) p is =
    absurd (let never : ⊥ = cc in never)
member_with_count r x Top ss ps p is = absurd (let never : ⊥ = cc in never)
member_with_count r x Bottom ss ps p is = absurd (let never : ⊥ = cc in never)
member_with_count r x Not ss ps p is = absurd (let never : ⊥ = cc in never)
member_with_count r x Next ss ps p is = absurd (let never : ⊥ = cc in never)
member_with_count r x And ss ps p is = absurd (let never : ⊥ = cc in never)
member_with_count r x Or ss ps p is = absurd (let never : ⊥ = cc in never)
member_with_count r x Implies ss ps p is = absurd (let never : ⊥ = cc in never)
member_with_count r x Iff ss ps p is = absurd (let never : ⊥ = cc in never)
member_with_count r x Rewrites ss ps p is = absurd (let never : ⊥ = cc in never)
member_with_count r x Ceil ss ps p is = absurd (let never : ⊥ = cc in never)
member_with_count r x Floor ss ps p is = absurd (let never : ⊥ = cc in never)
member_with_count r x Equals ss ps p is = absurd (let never : ⊥ = cc in never)

member_count : (r : SortTree) (x m p : PatternTree) → member_pattern r x m ≡ Some p
    → variable_count p ≤ variable_count m
member_count r x (element_variable at n s) p is = absurd (let never : ⊥ = cc in never)
member_count r x (set_variable at n s) p is = absurd (let never : ⊥ = cc in never)
member_count r x (string at text) p is = absurd (let never : ⊥ = cc in never)
member_count r x (symbol_applied at n ss ps) p is = absurd (let never : ⊥ = cc in never)
member_count r x (connected at op ss ps) p is =
    let most = member_with_count r x op (listed_sorts ss) (listed_patterns ps) p is in
    let same = as_listed ps in omega (arith, most, same)
member_count r x (binder_applied at b ss y q) p is = absurd (let never : ⊥ = cc in never)
member_count r x (value_written at s text place) p is = absurd (let never : ⊥ = cc in never)
member_count r x (folded at left q) p is = absurd (let never : ⊥ = cc in never)

entry_count : (r : SortTree) (x g : PatternTree) (both : PatternTree × PatternTree)
    → entry r x g ≡ Some both → variable_count both.0 + variable_count both.1 ≤ variable_count g
entry_count r x g both is =
    let parts =
    then_there (λ (b : PatternTree × PatternTree).
    option_map (λ (p : PatternTree). (p, b.1)) (member_pattern r x b.0)) (conjuncts r g) both
    is in
    let found =
    mapped_there (λ (p : PatternTree). (p, parts.0.1)) (member_pattern r x parts.0.0) both parts.2
    in
    let first = member_count r x parts.0.0 found.0 found.1 in
    let most = conjuncts_count r g parts.0 parts.1 in
    subst (λ (b : PatternTree × PatternTree).
    variable_count b.0 + variable_count b.1 ≤ variable_count g) found.2
    (omega (arith, first, most))

-- the members of a guard have at most as many variables as the guard, and there is one for each
-- variable
pub members_count : (r : SortTree) (xs : List PatternTree) (g : PatternTree) (ps : List PatternTree)
    → members r xs g ≡ Some ps → (listed_count ps ≤ variable_count g) × (length ps ≡ length xs)
members_count r [] g ps is = by_case (is_top_of r g) is where
  by_case : (b : Bool) → cond b (Some []) None ≡ Some ps
      → (listed_count ps ≤ variable_count g) × (length ps ≡ length {A = PatternTree} [])
  by_case false is = absurd (let never : ⊥ = cc in never)
  by_case true is =
      subst (λ (qs : List PatternTree).
      (listed_count qs ≤ variable_count g) × (length qs ≡ length {A = PatternTree} []))
      (let same : [] ≡ ps = cc in same) (omega arith, refl)
members_count r (x ∷ xs) g ps is =
    let first =
    then_there (λ (e : PatternTree × PatternTree).
    option_map (λ (qs : List PatternTree). e.0 ∷ qs) (members r xs e.1)) (entry r x g)
    ps is in
    let rest =
    mapped_there (λ (qs : List PatternTree). first.0.0 ∷ qs) (members r xs first.0.1) ps
    first.2 in
    let most = entry_count r x g first.0 first.1 in
    let later = members_count r xs first.0.1 rest.0 rest.1 in
    let counted = later.0 in
    let long = later.1 in
    subst (λ (qs : List PatternTree).
    (listed_count qs ≤ variable_count g) × (length qs ≡ length (x ∷ xs))) rest.2
    (omega (arith, most, counted), omega (arith, long))

-- a variable that occurs in no other place counts as one variable
alone_count : (p : PatternTree) (others : List PatternTree) → stands_alone p others ≡ true
    → variable_count p ≡ 1
alone_count (element_variable at n s) others h = refl
alone_count (set_variable at n s) others h = absurd (false≢true h)
alone_count (string at text) others h = absurd (false≢true h)
alone_count (symbol_applied at n ss ps) others h = absurd (false≢true h)
alone_count (connected at op ss ps) others h = absurd (false≢true h)
alone_count (binder_applied at b ss x p) others h = absurd (false≢true h)
alone_count (value_written at s text place) others h = absurd (false≢true h)
alone_count (folded at left p) others h = absurd (false≢true h)

pub apart_count : (xs others : List PatternTree) → occur_nowhere_else xs others ≡ true
    → length xs ≤ listed_count xs
apart_count [] others h = omega arith
apart_count (x ∷ xs) others h =
    let both =
    both_true (stands_alone x xs && stands_alone x others) (occur_nowhere_else xs others) h in
    let one = alone_count x xs (both_true (stands_alone x xs) (stands_alone x others) both.0).0 in
    let rest = apart_count xs others both.1 in omega (arith, one, rest)

-- ---- the parts of an equation

-- the patterns have at most n variables together, and there are no parameters or one for each
-- pattern
pub record ArePartsWithin (n : ℕ) (q : EquationParts) : Type 0 where
  pub patterns : listed_count q.patterns ≤ n
  pub parameters : length q.parameters ≤ n
  pub form : (length q.parameters ≡ 0) ⊎ (length q.parameters ≡ length q.patterns)

direct_count : (n : ℕ) (e : StatedEquation) (c : Option PatternTree) (q : EquationParts)
    → Some (direct_parts e c) ≡ Some q → IsStatementWithin n e → ArePartsWithin n q
direct_count n e c q is h =
    subst (ArePartsWithin n) (let same : direct_parts e c ≡ q = cc in same)
    (record { patterns = h.arguments; parameters = omega arith; form = inl refl })

kompiled_count : (n : ℕ) (e : StatedEquation) (c : PatternTree) (ps : List PatternTree)
    (q : EquationParts) → kompiled e c ps ≡ Some q → listed_count ps ≤ n
    → length ps ≡ length e.arguments → IsStatementWithin n e → ArePartsWithin n q
kompiled_count n e c ps q is most long h =
    by_case (occur_nowhere_else e.arguments (c ∷ (e.value ∷ ps))) refl is
  where
    by_case : (t : Bool) → occur_nowhere_else e.arguments (c ∷ (e.value ∷ ps)) ≡ t
        → cond t (Some (record {
          parameters = e.arguments;
          patterns = ps;
          condition = Some c;
          right = right_side e.sort e.value;
        })) None ≡ Some q → ArePartsWithin n q
    by_case false apart is = absurd (let never : ⊥ = cc in never)
    by_case true apart is =
        let each = apart_count e.arguments (c ∷ (e.value ∷ ps)) apart in
        let all = h.arguments in
        subst (ArePartsWithin n) (let same : record {
          parameters = e.arguments;
          patterns = ps;
          condition = Some c;
          right = right_side e.sort e.value;
        } ≡ q =
        cc in
        same)
        (record { patterns = most; parameters = omega (arith, each, all); form = inr (sym long) })

under_count : (n : ℕ) (e : StatedEquation) (g : PatternTree) (o : Option (PatternTree
    × PatternTree))
    (q : EquationParts) → parts_under e g o ≡ Some q
    → ((both : PatternTree × PatternTree) → o ≡ Some both → variable_count both.1 ≤ n)
    → IsStatementWithin n e → ArePartsWithin n q
under_count n e g None q is known h = direct_count n e (Some g) q is h
under_count n e g (Some both) q is known h =
    let found = then_there (kompiled e both.0) (members e.over e.arguments both.1) q is in
    let counted = members_count e.over e.arguments both.1 found.0 found.1 in
    let least = counted.0 in
    let le = known both refl in
    kompiled_count n e both.0 found.0 q found.2 (omega (arith, least, le)) counted.1 h

with_count : (n : ℕ) (e : StatedEquation) (o : Option PatternTree) (q : EquationParts) → e.guard ≡ o
    → parts_with e o ≡ Some q → IsStatementWithin n e → ArePartsWithin n q
with_count n e None q same is h = direct_count n e None q is h
with_count n e (Some g) q same is h =
    under_count n e g (conjuncts e.over g) q is
    (λ both found. let most = conjuncts_count e.over g both found in
    let le = h.guard g same in omega (arith, most, le)) h

pub parts_count : (n : ℕ) (e : StatedEquation) (q : EquationParts) → equation_parts e ≡ Some q
    → IsStatementWithin n e → ArePartsWithin n q
parts_count n e q is h = with_count n e e.guard q refl is h
