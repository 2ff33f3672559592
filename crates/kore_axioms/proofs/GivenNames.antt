-- The name that an `\and` gives.
use Rattle.std.proofs.Common.{◌≡◌, List, [], ◌∷◌, length, map, get_or, Option, None, refl, sym, ap}
use Rattle.std.proofs.Common.{◌∙◌, arith, ℕ}
use Rattle.kore_text.specs.Trees.{SortTree}
use Rattle.kore_ast.specs.declared.tree.Sort.{Sort}
use Rattle.kore_ast.specs.declared.tree.Pat.{Pat}
use Rattle.kore_ast.specs.Plain.{plain_sort, pattern_tree}
use Rattle.kore_check.specs.Folds.{Unfoldeds, no_more, and_more, unfolded}
use Rattle.kore_check.specs.Variables.{variable_of}
use Rattle.kore_check.proofs.Applications.{reads}
use Rattle.kore_axioms.specs.LeftNames.{given_name, only_variable}

pub by_sorts : (ss : List Sort) (ps : List Pat) → (length ss ≡ 1 → ⊥)
    → None ≡ given_name (map plain_sort ss) (reads ps)
by_sorts [] ps other = refl
by_sorts (s ∷ []) ps other = absurd (other refl)
by_sorts (s ∷ (t ∷ ss)) ps other = refl

pub by_patterns : (ss : List Sort) (ps : List Pat) → length ss ≡ 1 → (length ps ≡ 2 → ⊥)
    → None ≡ given_name (map plain_sort ss) (reads ps)
by_patterns [] ps one other = absurd (omega (arith, one))
by_patterns (s ∷ []) [] one other = refl
by_patterns (s ∷ []) (p ∷ []) one other = refl
by_patterns (s ∷ []) (p ∷ (q ∷ [])) one other = absurd (other refl)
by_patterns (s ∷ []) (p ∷ (q ∷ (r ∷ ps))) one other = refl
by_patterns (s ∷ (t ∷ ss)) ps one other = absurd (omega (arith, one))

pub of_two : (ss : List Sort) (ps : List Pat) (p q : Pat) → length ss ≡ 1 → length ps ≡ 2
    → p ≡ get_or ps 0 p → q ≡ get_or ps 1 q
    → only_variable (variable_of (unfolded (pattern_tree p)))
    (variable_of (unfolded (pattern_tree q)))
    ≡ given_name (map plain_sort ss) (reads ps)
of_two [] ps p q one two lower upper = absurd (omega (arith, one))
of_two (s ∷ (t ∷ ss)) ps p q one two lower upper = absurd (omega (arith, one))
of_two (s ∷ []) [] p q one two lower upper = absurd (omega (arith, two))
of_two (s ∷ []) (a ∷ []) p q one two lower upper = absurd (omega (arith, two))
of_two (s ∷ []) (a ∷ (b ∷ (d ∷ ps))) p q one two lower upper = absurd (omega (arith, two))
of_two (s ∷ []) (a ∷ (b ∷ [])) p q one two lower upper =
    ap (λ (x : Pat). only_variable (variable_of (unfolded (pattern_tree x)))
    (variable_of (unfolded (pattern_tree q)))) lower
    ∙ ap (λ (x : Pat). only_variable (variable_of (unfolded (pattern_tree a)))
    (variable_of (unfolded (pattern_tree x)))) upper
