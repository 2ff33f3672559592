-- The heights of folds.
use Rattle.std.proofs.Common.{◌≡◌, ◌≤◌, ◌<◌, ℕ, zero, suc, ◌+◌, true, false, List, [], ◌∷◌, length}
use Rattle.std.proofs.Common.{drop, get_or, length-drop, max, refl, sym, ◌∙◌, ap, arith}
use Rattle.kore_text.specs.Trees.{SortTree}
use Rattle.kore_ast.specs.declared.tree.Pat.{Pat}
use Rattle.kore_ast.specs.Plain.{pattern_tree}
use Rattle.kore_check.specs.Folds.{Unfolded, unfolded, unfolded_height, unfolded_heights}
use Rattle.kore_check.specs.Folds.{folded_left, folded_right, applied_to_two, fold_of, only_of}
use Rattle.kore_check.specs.FoldHeights.{cut}
use Rattle.kore_check.proofs.Applications.{reads}
use Rattle.kore_check.proofs.Items.{drop-item}
use Rattle.kore_check.proofs.FoldChecks.{only_other}
use Rattle.std.proofs.lemmas.List.{drop_all}

-- the height of a fold from the left, if what is already built has this height
abbrev pub grown_left : ℕ → List Pat → ℕ
grown_left h [] = h
grown_left h (p ∷ ps) = grown_left (max h (unfolded_height (unfolded (pattern_tree p))) + 1) ps

-- the height of a fold from the right
abbrev pub grown_right : Pat → List Pat → ℕ
grown_right p [] = unfolded_height (unfolded (pattern_tree p))
grown_right p (q ∷ qs) = max (unfolded_height (unfolded (pattern_tree p))) (grown_right q qs) + 1

two_high : (h k : ℕ) → max h (max k 0) + 1 ≡ max h k + 1
two_high h k = omega arith

pub left_high : (byte : ℕ) (name : List ℕ) (ss : List SortTree) (u : Unfolded) (ps : List Pat)
    → unfolded_height (folded_left byte name ss u (reads ps)) ≡ grown_left (unfolded_height u) ps
left_high byte name ss u [] = refl
left_high byte name ss u (p ∷ ps) =
    left_high byte name ss (applied_to_two byte name ss u (unfolded (pattern_tree p))) ps
    ∙ ap (λ h. grown_left h ps) (two_high (unfolded_height u)
    (unfolded_height (unfolded (pattern_tree p))))

pub right_high : (byte : ℕ) (name : List ℕ) (ss : List SortTree) (p : Pat) (ps : List Pat)
    → unfolded_height (folded_right byte name ss (unfolded (pattern_tree p)) (reads ps))
    ≡ grown_right p ps
right_high byte name ss p [] = refl
right_high byte name ss p (q ∷ qs) =
    two_high (unfolded_height (unfolded (pattern_tree p)))
    (unfolded_height (folded_right byte name ss (unfolded (pattern_tree q)) (reads qs)))
    ∙ ap (λ h. max (unfolded_height (unfolded (pattern_tree p))) h + 1)
    (right_high byte name ss q qs)

-- a height that is cut at the end may also be cut before
pub cut-grown : (h : ℕ) (ps : List Pat) → cut (grown_left (cut h) ps) ≡ cut (grown_left h ps)
cut-grown h [] = omega arith
cut-grown h (p ∷ ps) =
    sym (cut-grown (max (cut h) (unfolded_height (unfolded (pattern_tree p))) + 1) ps)
    ∙ ap (λ k. cut (grown_left k ps)) (same h (unfolded_height (unfolded (pattern_tree p))))
    ∙ cut-grown (max h (unfolded_height (unfolded (pattern_tree p))) + 1) ps where
      same : (h k : ℕ) → cut (max (cut h) k + 1) ≡ cut (max h k + 1)
      same h k = omega arith

-- one more pattern after those that were looked at
pub highest-more : (h r : ℕ) (args : List Pat) (i : ℕ) (arg : Pat) (whole : ℕ) → i < length args
    → arg ≡ get_or args i arg → r ≡ cut (unfolded_height (unfolded (pattern_tree arg)))
    → cut (max h (unfolded_heights (reads (drop i args)))) ≡ whole
    → cut (max (max h r) (unfolded_heights (reads (drop (i + 1) args)))) ≡ whole
highest-more h r args i arg whole lt item is known =
    ap (λ k. cut (max (max h k) (unfolded_heights (reads (drop (i + 1) args))))) is
    ∙ same h (unfolded_height (unfolded (pattern_tree arg)))
    (unfolded_heights (reads (drop (i + 1) args)))
    ∙ ap (λ (ps : List Pat). cut (max h (unfolded_heights (reads ps))))
    (sym (drop-item args i arg lt item))
    ∙ known where
      same : (h k m : ℕ) → cut (max (max h (cut k)) m) ≡ cut (max h (max k m))
      same h k m = omega arith

pub highest-end : (h : ℕ) (args : List Pat) (i : ℕ) (whole : ℕ) → length args ≤ i → h ≤ 501
    → cut (max h (unfolded_heights (reads (drop i args)))) ≡ whole → h ≡ whole
highest-end h args i whole le low known =
    same h low ∙ ap (λ (ps : List Pat). cut (max h (unfolded_heights (reads ps))))
    (sym (drop_all i args le))
    ∙ known where
      same : (h : ℕ) → h ≤ 501 → h ≡ cut (max h 0)
      same h low = omega arith

pub left-more : (h r new : ℕ) (args : List Pat) (i : ℕ) (arg : Pat) (whole : ℕ) → i < length args
    → arg ≡ get_or args i arg → r ≡ cut (unfolded_height (unfolded (pattern_tree arg)))
    → new ≡ cut (max h r + 1) → cut (grown_left h (drop i args)) ≡ whole
    → cut (grown_left new (drop (i + 1) args)) ≡ whole
left-more h r new args i arg whole lt item is made known =
    ap (λ k. cut (grown_left k (drop (i + 1) args)))
    (made ∙ ap (λ k. cut (max h k + 1)) is ∙ same h (unfolded_height (unfolded (pattern_tree arg))))
    ∙ cut-grown (max h (unfolded_height (unfolded (pattern_tree arg))) + 1) (drop (i + 1) args)
    ∙ ap (λ (ps : List Pat). cut (grown_left h ps)) (sym (drop-item args i arg lt item))
    ∙ known where
      same : (h k : ℕ) → cut (max h (cut k) + 1) ≡ cut (max h k + 1)
      same h k = omega arith

pub left-end : (h : ℕ) (args : List Pat) (i : ℕ) (whole : ℕ) → length args ≤ i → h ≤ 501
    → cut (grown_left h (drop i args)) ≡ whole → h ≡ whole
left-end h args i whole le low known =
    same h low ∙ ap (λ (ps : List Pat). cut (grown_left h ps)) (sym (drop_all i args le))
    ∙ known where
      same : (h : ℕ) → h ≤ 501 → h ≡ cut h
      same h low = omega arith

-- a fold of two or more patterns
pub left_whole : (byte : ℕ) (name : List ℕ) (ss : List SortTree) (args : List Pat) (arg : Pat)
    → 2 ≤ length args → arg ≡ get_or args 0 arg
    → unfolded_height (fold_of true byte name ss (reads args))
    ≡ grown_left (unfolded_height (unfolded (pattern_tree arg))) (drop 1 args)
left_whole byte name ss [] arg many item = absurd (omega (arith, many))
left_whole byte name ss (p ∷ ps) arg many item =
    left_high byte name ss (unfolded (pattern_tree p)) ps
    ∙ ap (λ (q : Pat). grown_left (unfolded_height (unfolded (pattern_tree q))) ps) (sym item)

-- the height of a fold of these from the right
abbrev pub grown_from : List Pat → ℕ
grown_from [] = 0
grown_from (p ∷ ps) = grown_right p ps

pub right_whole : (byte : ℕ) (name : List ℕ) (ss : List SortTree) (args : List Pat)
    → 2 ≤ length args → unfolded_height (fold_of false byte name ss (reads args)) ≡ grown_from args
right_whole byte name ss [] many = absurd (omega (arith, many))
right_whole byte name ss (p ∷ ps) many = right_high byte name ss p ps

pub right-first : (args : List Pat) (i : ℕ) (arg : Pat) (r : ℕ) → i < length args
    → length args ≤ i + 1 → arg ≡ get_or args i arg → r
    ≡ cut (unfolded_height (unfolded (pattern_tree arg)))
    → r ≡ cut (grown_from (drop i args))
right-first args i arg r lt last item is =
    is
    ∙ ap (λ (ps : List Pat). cut (grown_from ps)) (ap (λ (ps : List Pat). arg ∷ ps)
    (sym (drop_all (i + 1) args last)) ∙ sym (drop-item args i arg lt item))

pub right-more : (h r new : ℕ) (args : List Pat) (i : ℕ) (arg : Pat) → i + 1 < length args
    → arg ≡ get_or args i arg → r ≡ cut (unfolded_height (unfolded (pattern_tree arg)))
    → new ≡ cut (max h r + 1) → h ≡ cut (grown_from (drop (i + 1) args))
    → new ≡ cut (grown_from (drop i args))
right-more h r new args i arg lt item is made known =
    made ∙ ap (λ k. cut (max h k + 1)) is
    ∙ ap (λ k. cut (max k (cut (unfolded_height (unfolded (pattern_tree arg)))) + 1)) known
    ∙ behind (drop (i + 1) args) (omega (arith, length-drop (i + 1) args, lt))
    ∙ ap (λ (ps : List Pat). cut (grown_from ps))
    (sym (drop-item args i arg (omega (arith, lt)) item)) where
      same : (g k : ℕ) → cut (max (cut g) (cut k) + 1) ≡ cut (max k g + 1)
      same g k = omega arith

      behind : (ps : List Pat) → 0 < length ps
          → cut (max (cut (grown_from ps)) (cut (unfolded_height (unfolded (pattern_tree arg))))
          + 1)
          ≡ cut (grown_from (arg ∷ ps))
      behind [] some = absurd (omega (arith, some))
      behind (q ∷ qs) some = same (grown_right q qs) (unfolded_height (unfolded (pattern_tree arg)))

pub right-end : (args : List Pat) (i h : ℕ) → i ≤ 0 → h ≡ cut (grown_from (drop i args))
    → h ≡ cut (grown_from args)
right-end args zero h le known = known ∙ start args where
  start : (ps : List Pat) → cut (grown_from (drop 0 ps)) ≡ cut (grown_from ps)
  start [] = refl
  start (p ∷ ps) = refl
right-end args (suc i) h le known = absurd (omega (arith, le))

-- a fold of one argument, and of none
pub only_high : (at : ℕ) (args : List Pat) → (length args ≡ 1 → ⊥)
    → unfolded_height (only_of at (reads args)) ≡ 1
only_high at args other = ap unfolded_height (only_other at args other)
