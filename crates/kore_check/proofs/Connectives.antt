-- Connectives: the `\and` of two patterns, and any other.
use Rattle.std.proofs.Common.{◌≡◌, ◌⊎◌, inl, inr, ℕ, Bool, true, false, List, [], ◌∷◌, length, map}
use Rattle.std.proofs.Common.{get_or, Vec, Global, refl, sym, ◌∙◌, ap, arith}
use Rattle.std.proofs.lemmas.Bool.{false≢true}
use Rattle.kore_text.specs.Trees.{SortTree, PatternTree}
use Rattle.kore_text.specs.declared.names.Op.{Op}
use Rattle.kore_text.specs.declared.names.Op.TheVariants as op
use Rattle.kore_ast.specs.declared.tree.Sort.{Sort}
use Rattle.kore_ast.specs.declared.tree.Pat.{Pat}
use Rattle.kore_ast.specs.declared.tree.PatForm.TheVariants as form
use Rattle.kore_ast.specs.Plain.{plain_sort, pattern_tree}
use Rattle.kore_check.specs.Folds.{Unfolded, Unfoldeds, no_more, and_more, both_of, other_form}
use Rattle.kore_check.specs.Folds.{unfolded, unfolded_byte, inner_fold, only_of, connective_of}
use Rattle.kore_check.specs.Folds.{connective_fold}
use Rattle.kore_check.specs.Pairs.{is_pair}
use Rattle.kore_check.proofs.Forms.{connective_is, listed_sorts-trees}
use Rattle.kore_check.proofs.Applications.{reads}

-- the connective is an `\and` of two patterns, or has another form
abbrev pub IsConnective : ℕ → Op → List SortTree → Unfoldeds → Type 0
IsConnective at o ss us =
    ((s : SortTree) × (p : Unfolded) × (q : Unfolded) × (us ≡ and_more p (and_more q no_more))
    × (connective_of at o ss us ≡ both_of at s p q))
    ⊎ (connective_of at o ss us ≡ other_form at)

and_case : (at : ℕ) (ss : List SortTree) (us : Unfoldeds) → IsConnective at op.And ss us
and_case at [] us = inr refl
and_case at (s ∷ []) no_more = inr refl
and_case at (s ∷ []) (and_more p no_more) = inr refl
and_case at (s ∷ []) (and_more p (and_more q no_more)) = inl (s, p, q, refl, refl)
and_case at (s ∷ []) (and_more p (and_more q (and_more r us))) = inr refl
and_case at (s ∷ (t ∷ ss)) us = inr refl

pub connective_case : (at : ℕ) (o : Op) (ss : List SortTree) (us : Unfoldeds)
    → IsConnective at o ss us
connective_case at op.And ss us = and_case at ss us
connective_case at op.Top ss us = inr refl
connective_case at op.Bottom ss us = inr refl
connective_case at op.Not ss us = inr refl
connective_case at op.Next ss us = inr refl
connective_case at op.Or ss us = inr refl
connective_case at op.Implies ss us = inr refl
connective_case at op.Iff ss us = inr refl
connective_case at op.Rewrites ss us = inr refl
connective_case at op.Ceil ss us = inr refl
connective_case at op.Floor ss us = inr refl
connective_case at op.Equals ss us = inr refl
connective_case at op.Member ss us = inr refl

pub byte_of_connective : (at : ℕ) (o : Op) (ss : List SortTree) (us : Unfoldeds)
    → unfolded_byte (connective_of at o ss us) ≡ at
byte_of_connective at o ss us = by_case (connective_case at o ss us) where
  by_case : IsConnective at o ss us → unfolded_byte (connective_of at o ss us) ≡ at
  by_case (inl both) = ap unfolded_byte both.4
  by_case (inr other) = ap unfolded_byte other

-- ---- pairs

and_pair : (at : ℕ) (ss : List Sort) (ps : List Pat) (s : Sort) (p q : Pat)
    → is_pair op.And (map plain_sort ss) (map pattern_tree ps) ≡ true → s ≡ get_or ss 0 s
    → p ≡ get_or ps 0 p → q ≡ get_or ps 1 q
    → (connective_of at op.And (map plain_sort ss) (reads ps)
    ≡ both_of at (plain_sort s) (unfolded (pattern_tree p)) (unfolded (pattern_tree q)))
    × (ps ≡ p ∷ q ∷ [])
and_pair at [] ps s p q is first lower upper = absurd (false≢true is)
and_pair at (t ∷ []) [] s p q is first lower upper = absurd (false≢true is)
and_pair at (t ∷ []) (a ∷ []) s p q is first lower upper = absurd (false≢true is)
and_pair at (t ∷ []) (a ∷ (b ∷ [])) s p q is first lower upper = (
  ap (λ (x : Sort). both_of at (plain_sort x) (unfolded (pattern_tree a))
      (unfolded (pattern_tree b))) (sym first)
      ∙ ap (λ (x : Pat). both_of at (plain_sort s) (unfolded (pattern_tree x))
      (unfolded (pattern_tree b))) (sym lower)
      ∙ ap (λ (x : Pat). both_of at (plain_sort s) (unfolded (pattern_tree p))
      (unfolded (pattern_tree x))) (sym upper),
  ap (λ (x : Pat). x ∷ b ∷ []) (sym lower) ∙ ap (λ (x : Pat). p ∷ x ∷ []) (sym upper),
)
and_pair at (t ∷ []) (a ∷ (b ∷ (d ∷ ps))) s p q is first lower upper = absurd (false≢true is)
and_pair at (t ∷ (u ∷ ss)) ps s p q is first lower upper = absurd (false≢true is)

-- what a pair is, by its sort and its two patterns
pub pair_is : (at : ℕ) (o : Op) (ss : List Sort) (ps : List Pat) (s : Sort) (p q : Pat)
    → is_pair o (map plain_sort ss) (map pattern_tree ps) ≡ true → s ≡ get_or ss 0 s
    → p ≡ get_or ps 0 p → q ≡ get_or ps 1 q
    → (connective_of at o (map plain_sort ss) (reads ps)
    ≡ both_of at (plain_sort s) (unfolded (pattern_tree p)) (unfolded (pattern_tree q)))
    × (ps ≡ p ∷ q ∷ [])
pair_is at op.And ss ps s p q is first lower upper = and_pair at ss ps s p q is first lower upper
pair_is at op.Top ss ps s p q is first lower upper = absurd (false≢true is)
pair_is at op.Bottom ss ps s p q is first lower upper = absurd (false≢true is)
pair_is at op.Not ss ps s p q is first lower upper = absurd (false≢true is)
pair_is at op.Next ss ps s p q is first lower upper = absurd (false≢true is)
pair_is at op.Or ss ps s p q is first lower upper = absurd (false≢true is)
pair_is at op.Implies ss ps s p q is first lower upper = absurd (false≢true is)
pair_is at op.Iff ss ps s p q is first lower upper = absurd (false≢true is)
pair_is at op.Rewrites ss ps s p q is first lower upper = absurd (false≢true is)
pair_is at op.Ceil ss ps s p q is first lower upper = absurd (false≢true is)
pair_is at op.Floor ss ps s p q is first lower upper = absurd (false≢true is)
pair_is at op.Equals ss ps s p q is first lower upper = absurd (false≢true is)
pair_is at op.Member ss ps s p q is first lower upper = absurd (false≢true is)

no_sorts : (o : Op) (ps : List PatternTree) → is_pair o [] ps ≡ false
no_sorts op.And ps = refl
no_sorts op.Top ps = refl
no_sorts op.Bottom ps = refl
no_sorts op.Not ps = refl
no_sorts op.Next ps = refl
no_sorts op.Or ps = refl
no_sorts op.Implies ps = refl
no_sorts op.Iff ps = refl
no_sorts op.Rewrites ps = refl
no_sorts op.Ceil ps = refl
no_sorts op.Floor ps = refl
no_sorts op.Equals ps = refl
no_sorts op.Member ps = refl

-- the same, by its two patterns alone
pub pair_parts : (at : ℕ) (o : Op) (ss : List Sort) (ps : List Pat) (p q : Pat)
    → is_pair o (map plain_sort ss) (map pattern_tree ps) ≡ true → p ≡ get_or ps 0 p
    → q ≡ get_or ps 1 q
    → (s : SortTree) × (connective_of at o (map plain_sort ss) (reads ps)
    ≡ both_of at s (unfolded (pattern_tree p)) (unfolded (pattern_tree q)))
pair_parts at o [] ps p q is lower upper =
    absurd (false≢true (sym (no_sorts o (map pattern_tree ps)) ∙ is))
pair_parts at o (t ∷ ss) ps p q is lower upper =
    (plain_sort t, (pair_is at o (t ∷ ss) ps t p q is refl lower upper).0)

and_alone : (at : ℕ) (ss : List Sort) (ps : List Pat)
    → is_pair op.And (map plain_sort ss) (map pattern_tree ps) ≡ false
    → connective_of at op.And (map plain_sort ss) (reads ps) ≡ other_form at
and_alone at [] ps none = refl
and_alone at (t ∷ []) [] none = refl
and_alone at (t ∷ []) (a ∷ []) none = refl
and_alone at (t ∷ []) (a ∷ (b ∷ [])) none = absurd (false≢true (sym none))
and_alone at (t ∷ []) (a ∷ (b ∷ (d ∷ ps))) none = refl
and_alone at (t ∷ (u ∷ ss)) ps none = refl

-- a connective that is no pair
pub no_pair : (at : ℕ) (o : Op) (ss : List Sort) (ps : List Pat)
    → is_pair o (map plain_sort ss) (map pattern_tree ps) ≡ false
    → connective_of at o (map plain_sort ss) (reads ps) ≡ other_form at
no_pair at op.And ss ps none = and_alone at ss ps none
no_pair at op.Top ss ps none = refl
no_pair at op.Bottom ss ps none = refl
no_pair at op.Not ss ps none = refl
no_pair at op.Next ss ps none = refl
no_pair at op.Or ss ps none = refl
no_pair at op.Implies ss ps none = refl
no_pair at op.Iff ss ps none = refl
no_pair at op.Rewrites ss ps none = refl
no_pair at op.Ceil ss ps none = refl
no_pair at op.Floor ss ps none = refl
no_pair at op.Equals ss ps none = refl
no_pair at op.Member ss ps none = refl

-- a pair has a sort and two patterns
abbrev pub IsPairOf : ℕ → Op → List Sort → List Pat → Type 0
IsPairOf at o ss ps =
    (s : SortTree) × (p : Unfolded) × (q : Unfolded)
    × (reads ps ≡ and_more p (and_more q no_more))
    × (connective_of at o (map plain_sort ss) (reads ps) ≡ both_of at s p q)

and_there : (at : ℕ) (ss : List Sort) (ps : List Pat)
    → is_pair op.And (map plain_sort ss) (map pattern_tree ps) ≡ true → IsPairOf at op.And ss ps
and_there at [] ps is = absurd (false≢true is)
and_there at (t ∷ []) [] is = absurd (false≢true is)
and_there at (t ∷ []) (a ∷ []) is = absurd (false≢true is)
and_there at (t ∷ []) (a ∷ (b ∷ [])) is =
    (plain_sort t, unfolded (pattern_tree a), unfolded (pattern_tree b), refl, refl)
and_there at (t ∷ []) (a ∷ (b ∷ (d ∷ ps))) is = absurd (false≢true is)
and_there at (t ∷ (u ∷ ss)) ps is = absurd (false≢true is)

pub pair_there : (at : ℕ) (o : Op) (ss : List Sort) (ps : List Pat)
    → is_pair o (map plain_sort ss) (map pattern_tree ps) ≡ true → IsPairOf at o ss ps
pair_there at op.And ss ps is = and_there at ss ps is
pair_there at op.Top ss ps is = absurd (false≢true is)
pair_there at op.Bottom ss ps is = absurd (false≢true is)
pair_there at op.Not ss ps is = absurd (false≢true is)
pair_there at op.Next ss ps is = absurd (false≢true is)
pair_there at op.Or ss ps is = absurd (false≢true is)
pair_there at op.Implies ss ps is = absurd (false≢true is)
pair_there at op.Iff ss ps is = absurd (false≢true is)
pair_there at op.Rewrites ss ps is = absurd (false≢true is)
pair_there at op.Ceil ss ps is = absurd (false≢true is)
pair_there at op.Floor ss ps is = absurd (false≢true is)
pair_there at op.Equals ss ps is = absurd (false≢true is)
pair_there at op.Member ss ps is = absurd (false≢true is)

-- ---- trees

pub connective_unfolded : (p : Pat) (o : Op) (ss : Vec Sort Global) (ps : Vec Pat Global)
    → p.form ≡ form.Built o ss ps
    → unfolded (pattern_tree p)
    ≡ connective_of p.at o (map plain_sort ss.items) (reads ps.items)
connective_unfolded p o ss ps h =
    ap unfolded (connective_is p o ss ps h)
    ∙ ap (λ (xs : List SortTree). connective_of p.at o xs (reads ps.items))
    (listed_sorts-trees (map plain_sort ss.items))

pub connective_folded : (left : Bool) (p : Pat) (o : Op) (ss : Vec Sort Global)
    (ps : Vec Pat Global) → p.form ≡ form.Built o ss ps
    → inner_fold left (pattern_tree p)
    ≡ connective_fold p.at o (map plain_sort ss.items) (reads ps.items)
connective_folded left p o ss ps h =
    ap (inner_fold left) (connective_is p o ss ps h)
    ∙ ap (λ (xs : List SortTree). connective_fold p.at o xs (reads ps.items))
    (listed_sorts-trees (map plain_sort ss.items))

-- the fold of a connective of one pattern, and of any other number
pub fold_of_one : (at : ℕ) (o : Op) (ss : List SortTree) (ps : List Pat) → length ps ≡ 1
    → only_of at (reads ps) ≡ connective_fold at o ss (reads ps)
fold_of_one at o ss [] one = absurd (omega (arith, one))
fold_of_one at o ss (p ∷ []) one = refl
fold_of_one at o ss (p ∷ (q ∷ ps)) one = absurd (omega (arith, one))

pub fold_of_others : (at : ℕ) (o : Op) (ss : List SortTree) (ps : List Pat)
    → (length ps ≡ 1 → ⊥)
    → connective_of at o ss (reads ps) ≡ connective_fold at o ss (reads ps)
fold_of_others at o ss [] other = refl
fold_of_others at o ss (p ∷ []) other = absurd (other refl)
fold_of_others at o ss (p ∷ (q ∷ ps)) other = refl

-- what the parts of a connective are read as, if its lists are these
pub connective_read : (p : Pat) (o : Op) (ss : Vec Sort Global) (ps : Vec Pat Global)
    (xs : List Sort) (ys : List Pat) → p.form ≡ form.Built o ss ps → xs ≡ ss.items → ys ≡ ps.items
    → connective_of p.at o (map plain_sort xs) (reads ys) ≡ unfolded (pattern_tree p)
connective_read p o ss ps xs ys h sorts args =
    ap (λ (zs : List Sort). connective_of p.at o (map plain_sort zs) (reads ys)) sorts
    ∙ ap (λ (zs : List Pat). connective_of p.at o (map plain_sort ss.items) (reads zs)) args
    ∙ sym (connective_unfolded p o ss ps h)

pub only_read : (left : Bool) (p : Pat) (o : Op) (ss : Vec Sort Global) (ps : Vec Pat Global)
    (ys : List Pat) → p.form ≡ form.Built o ss ps → ys ≡ ps.items → length ps.items ≡ 1
    → only_of p.at (reads ys) ≡ inner_fold left (pattern_tree p)
only_read left p o ss ps ys h args one =
    ap (λ (zs : List Pat). only_of p.at (reads zs)) args
    ∙ fold_of_one p.at o (map plain_sort ss.items) ps.items one
    ∙ sym (connective_folded left p o ss ps h)

pub others_read : (left : Bool) (p : Pat) (o : Op) (ss : Vec Sort Global) (ps : Vec Pat Global)
    (xs : List Sort) (ys : List Pat) → p.form ≡ form.Built o ss ps → xs ≡ ss.items → ys ≡ ps.items
    → (length ps.items ≡ 1 → ⊥)
    → connective_of p.at o (map plain_sort xs) (reads ys) ≡ inner_fold left (pattern_tree p)
others_read left p o ss ps xs ys h sorts args other =
    ap (λ (zs : List Sort). connective_of p.at o (map plain_sort zs) (reads ys)) sorts
    ∙ ap (λ (zs : List Pat). connective_of p.at o (map plain_sort ss.items) (reads zs)) args
    ∙ fold_of_others p.at o (map plain_sort ss.items) ps.items other
    ∙ sym (connective_folded left p o ss ps h)
