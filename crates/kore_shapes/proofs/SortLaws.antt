-- Laws on sorts that are written the same.
use Rattle.std.proofs.Common.{◌≡◌, suc, Bool, true, false, ◌&&◌, List, [], ◌∷◌, length, refl, ap}
use Rattle.std.proofs.Common.{◌∙◌}
use Rattle.kore_text.specs.Trees.{SortTree, sort_trees}
use Rattle.kore_shapes.specs.SameSorts.{same_sort, same_sorts}

and_false : (a : Bool) → (a && false) ≡ false
and_false true = refl
and_false false = refl

-- lists of different lengths are not written the same
pub other_lengths : (ss ts : List SortTree) → (length ss ≡ length ts → ⊥)
    → same_sorts (sort_trees ss) (sort_trees ts) ≡ false
other_lengths [] [] differ = absurd (differ refl)
other_lengths [] (t ∷ ts) differ = refl
other_lengths (s ∷ ss) [] differ = refl
other_lengths (s ∷ ss) (t ∷ ts) differ =
    ap (λ (b : Bool). same_sort s t && b) (other_lengths ss ts (λ e. differ (ap suc e)))
    ∙ and_false (same_sort s t)
