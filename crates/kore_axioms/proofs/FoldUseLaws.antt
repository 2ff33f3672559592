-- The symbols of what a fold stands for.
use Rattle.std.proofs.Common.{◌≡◌, ℕ, Bool, true, false, ◌||◌, ◌&&◌, List, [], ◌∷◌, map, refl, ap}
use Rattle.std.proofs.Common.{sym, ◌∙◌, Vec, Global}
use Rattle.kore_text.specs.Trees.{SortTree, sort_trees, listed_sorts, PatternTree, pattern_trees}
use Rattle.kore_ast.specs.declared.tree.Sort.{Sort}
use Rattle.kore_ast.specs.declared.tree.Pat.{Pat}
use Rattle.kore_ast.specs.declared.tree.PatForm.TheVariants as form
use Rattle.kore_ast.specs.Plain.{plain_sort, pattern_tree}
use Rattle.kore_check.specs.Folds.{Unfolded, Unfoldeds, no_more, and_more, named_variable}
use Rattle.kore_check.specs.Folds.{written_value, applied_symbol, both_of, other_form, standing_at}
use Rattle.kore_check.specs.Folds.{applied_to_two, folded_left, folded_right, fold_of}
use Rattle.kore_check.specs.Folds.{connective_of, connective_fold}
use Rattle.kore_check.specs.Pairs.{is_pair}
use Rattle.kore_check.proofs.Connectives.{connective_unfolded, connective_folded}
use Rattle.kore_text.specs.declared.names.Op.{Op}
use Rattle.kore_text.specs.declared.names.Op.TheVariants as op
use Rattle.kore_check.specs.Folds.{unfolded, inner_fold, all_unfolded}
use Rattle.kore_shapes.specs.Forms.{is_one}
use Rattle.kore_shapes.proofs.PatternForms.{application_is}
use Rattle.kore_axioms.specs.Uses.{has_symbol, have_symbol}
use Rattle.kore_axioms.specs.FoldUses.{are_two}

pub has_symbol-standing : (test : List ℕ → Bool) (at : ℕ) (u : Unfolded)
    → has_symbol test (standing_at at u) ≡ has_symbol test u
has_symbol-standing test at (named_variable a n s) = refl
has_symbol-standing test at (written_value a s t b) = refl
has_symbol-standing test at (applied_symbol a b n ss ps) = refl
has_symbol-standing test at (both_of a s p q) = refl
has_symbol-standing test at (other_form a) = refl

or_false : (b : Bool) → (b || false) ≡ b
or_false true = refl
or_false false = refl

-- the test of a symbol over two patterns and the test of the rest, as one disjunction
twice : (t p q r : Bool) → ((t || (p || (q || false))) || r) ≡ (t || (p || (q || r)))
twice true p q r = refl
twice false true q r = refl
twice false false true r = refl
twice false false false r = refl

thrice : (t p q s r : Bool)
    → (t || ((t || (p || (q || false))) || (s || r))) ≡ (t || (p || (q || (s || r))))
thrice true p q s r = refl
thrice false true q s r = refl
thrice false false true s r = refl
thrice false false false s r = refl

left_uses : (test : List ℕ → Bool) (byte : ℕ) (name : List ℕ) (ss : List SortTree) (p q : Unfolded)
    (qs : Unfoldeds)
    → has_symbol test (folded_left byte name ss p (and_more q qs))
    ≡ (test name || (has_symbol test p || (has_symbol test q || have_symbol test qs)))
left_uses test byte name ss p q no_more =
    ap (λ (b : Bool). test name || (has_symbol test p || b)) refl
left_uses test byte name ss p q (and_more r rs) =
    left_uses test byte name ss (applied_to_two byte name ss p q) r rs
    ∙ thrice (test name) (has_symbol test p) (has_symbol test q) (has_symbol test r)
    (have_symbol test rs)

right_uses : (test : List ℕ → Bool) (byte : ℕ) (name : List ℕ) (ss : List SortTree) (p q : Unfolded)
    (qs : Unfoldeds)
    → has_symbol test (folded_right byte name ss p (and_more q qs))
    ≡ (test name || (has_symbol test p || (has_symbol test q || have_symbol test qs)))
right_uses test byte name ss p q no_more = refl
right_uses test byte name ss p q (and_more r rs) =
    ap (λ (b : Bool). test name || (has_symbol test p || (b || false)))
    (right_uses test byte name ss q r rs)
    ∙ inner (test name) (has_symbol test p) (has_symbol test q)
    (has_symbol test r || have_symbol test rs) where
      inner : (t p q r : Bool) → (t || (p || ((t || (q || r)) || false))) ≡ (t || (p || (q || r)))
      inner true p q r = refl
      inner false true q r = refl
      inner false false q r = or_false (q || r)

pub fold_uses : (test : List ℕ → Bool) (left : Bool) (byte : ℕ) (name : List ℕ) (ss : List SortTree)
    (ps : List PatternTree)
    → has_symbol test (fold_of left byte name ss (all_unfolded (pattern_trees ps)))
    ≡ ((are_two ps && test name) || have_symbol test (all_unfolded (pattern_trees ps)))
fold_uses test left byte name ss [] = refl
fold_uses test true byte name ss (p ∷ []) = sym (or_false (has_symbol test (unfolded p)))
fold_uses test false byte name ss (p ∷ []) = sym (or_false (has_symbol test (unfolded p)))
fold_uses test true byte name ss (p ∷ (q ∷ ps)) =
    left_uses test byte name ss (unfolded p) (unfolded q) (all_unfolded (pattern_trees ps))
fold_uses test false byte name ss (p ∷ (q ∷ ps)) =
    right_uses test byte name ss (unfolded p) (unfolded q) (all_unfolded (pattern_trees ps))

-- the symbols of the fold of an application
pub folded_uses : (test : List ℕ → Bool) (left : Bool) (p : Pat) (n : List ℕ) (ss : Vec Sort Global)
    (args : Vec Pat Global) → p.form ≡ form.App n ss args
    → has_symbol test (inner_fold left (pattern_tree p))
    ≡ ((are_two (map pattern_tree args.items) && test n)
    || have_symbol test (all_unfolded (pattern_trees (map pattern_tree args.items))))
folded_uses test left p n ss args h =
    ap (λ (t : PatternTree). has_symbol test (inner_fold left t)) (application_is p n ss args h)
    ∙ fold_uses test left p.at n (listed_sorts (sort_trees (map plain_sort ss.items)))
    (map pattern_tree args.items)

-- ---- connectives

and_uses : (test : List ℕ → Bool) (at : ℕ) (ss : List SortTree) (ps : List PatternTree)
    → has_symbol test (connective_of at op.And ss (all_unfolded (pattern_trees ps)))
    ≡ (is_pair op.And ss ps && have_symbol test (all_unfolded (pattern_trees ps)))
and_uses test at [] ps = refl
and_uses test at (s ∷ []) [] = refl
and_uses test at (s ∷ []) (p ∷ []) = refl
and_uses test at (s ∷ []) (p ∷ (q ∷ [])) =
    ap (λ (b : Bool). has_symbol test (unfolded p) || b)
    (sym (or_false (has_symbol test (unfolded q))))
and_uses test at (s ∷ []) (p ∷ (q ∷ (r ∷ ps))) = refl
and_uses test at (s ∷ (t ∷ ss)) ps = refl

pub pair_uses : (test : List ℕ → Bool) (at : ℕ) (o : Op) (ss : List SortTree)
    (ps : List PatternTree)
    → has_symbol test (connective_of at o ss (all_unfolded (pattern_trees ps)))
    ≡ (is_pair o ss ps && have_symbol test (all_unfolded (pattern_trees ps)))
pair_uses test at op.And ss ps = and_uses test at ss ps
pair_uses test at op.Top ss ps = refl
pair_uses test at op.Bottom ss ps = refl
pair_uses test at op.Not ss ps = refl
pair_uses test at op.Next ss ps = refl
pair_uses test at op.Or ss ps = refl
pair_uses test at op.Implies ss ps = refl
pair_uses test at op.Iff ss ps = refl
pair_uses test at op.Rewrites ss ps = refl
pair_uses test at op.Ceil ss ps = refl
pair_uses test at op.Floor ss ps = refl
pair_uses test at op.Equals ss ps = refl
pair_uses test at op.Member ss ps = refl

pub pair_folded_uses : (test : List ℕ → Bool) (at : ℕ) (o : Op) (ss : List SortTree)
    (ps : List PatternTree)
    → has_symbol test (connective_fold at o ss (all_unfolded (pattern_trees ps)))
    ≡ ((is_one ps || is_pair o ss ps) && have_symbol test (all_unfolded (pattern_trees ps)))
pair_folded_uses test at o ss [] = pair_uses test at o ss []
pair_folded_uses test at o ss (p ∷ []) = sym (or_false (has_symbol test (unfolded p)))
pair_folded_uses test at o ss (p ∷ (q ∷ ps)) = pair_uses test at o ss (p ∷ (q ∷ ps))

-- the symbols of a connective, and of the fold of one
pub connective_uses : (test : List ℕ → Bool) (p : Pat) (o : Op) (ss : Vec Sort Global)
    (args : Vec Pat Global) → p.form ≡ form.Built o ss args
    → has_symbol test (unfolded (pattern_tree p))
    ≡ (is_pair o (map plain_sort ss.items) (map pattern_tree args.items)
    && have_symbol test (all_unfolded (pattern_trees (map pattern_tree args.items))))
connective_uses test p o ss args h =
    ap (has_symbol test) (connective_unfolded p o ss args h)
    ∙ pair_uses test p.at o (map plain_sort ss.items) (map pattern_tree args.items)

pub connective_folded_uses : (test : List ℕ → Bool) (left : Bool) (p : Pat) (o : Op)
    (ss : Vec Sort Global) (args : Vec Pat Global) → p.form ≡ form.Built o ss args
    → has_symbol test (inner_fold left (pattern_tree p))
    ≡ ((is_one (map pattern_tree args.items)
    || is_pair o (map plain_sort ss.items) (map pattern_tree args.items))
    && have_symbol test (all_unfolded (pattern_trees (map pattern_tree args.items))))
connective_folded_uses test left p o ss args h =
    ap (has_symbol test) (connective_folded left p o ss args h)
    ∙ pair_folded_uses test p.at o (map plain_sort ss.items) (map pattern_tree args.items)

pub pair_has : (test : List ℕ → Bool) (p : Pat) (o : Op) (ss : Vec Sort Global)
    (args : Vec Pat Global) (xs : List Sort) (ys zs : List Pat) → p.form ≡ form.Built o ss args
    → xs ≡ ss.items → ys ≡ args.items → zs ≡ args.items
    → is_pair o (map plain_sort xs) (map pattern_tree ys) ≡ true
    → have_symbol test (all_unfolded (pattern_trees (map pattern_tree zs)))
    ≡ has_symbol test (unfolded (pattern_tree p))
pair_has test p o ss args xs ys zs h sorts first second there =
    let rest : Bool =
    have_symbol test (all_unfolded (pattern_trees (map pattern_tree args.items))) in
    let pair : is_pair o (map plain_sort ss.items) (map pattern_tree args.items) ≡ true =
    sym (ap (λ (qs : List Sort). is_pair o (map plain_sort qs) (map pattern_tree ys)) sorts
    ∙ ap (λ (qs : List Pat). is_pair o (map plain_sort ss.items) (map pattern_tree qs)) first)
    ∙ there in
    ap (λ (qs : List Pat). have_symbol test (all_unfolded (pattern_trees (map pattern_tree qs))))
    second
    ∙ ap (λ (b : Bool). b && rest) (sym pair) ∙ sym (connective_uses test p o ss args h)
