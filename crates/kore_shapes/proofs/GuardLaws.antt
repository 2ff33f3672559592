-- Laws on the guard of kompile's form.
use Rattle.std.proofs.Common.{◌≡◌, List, [], ◌∷◌, ◌++◌, refl, ap, sym, ◌∙◌}
use Rattle.std.specs.Prelude.{Option, Some, None, option_map}
use Rattle.std.specs.Option.{option_and_then}
use Rattle.std.proofs.lemmas.List.{append_assoc}
use Rattle.kore_text.specs.Trees.{SortTree, PatternTree}
use Rattle.kore_shapes.specs.EquationForms.{entry, members}

-- the patterns after an entry
abbrev behind : SortTree → List PatternTree → PatternTree × PatternTree → Option (List PatternTree)
behind r xs e = option_map (λ (ps : List PatternTree). e.0 ∷ ps) (members r xs e.1)

pub members-without : (r : SortTree) (x : PatternTree) (xs : List PatternTree) (g : PatternTree)
    → entry r x g ≡ None → members r (x ∷ xs) g ≡ None
members-without r x xs g none = ap (option_and_then (behind r xs)) none

in_front : (ys : List PatternTree) (p : PatternTree) (o : Option (List PatternTree))
    → option_map (λ (ps : List PatternTree). (ys ++ p ∷ []) ++ ps) o
    ≡ option_map (λ (ps : List PatternTree). ys ++ ps)
    (option_map (λ (ps : List PatternTree). p ∷ ps) o)
in_front ys p None = refl
in_front ys p (Some ps) = ap Some (append_assoc ys (p ∷ []) ps)

-- one more entry after the patterns that were found
pub members-next : (ys : List PatternTree) (r : SortTree) (x : PatternTree) (xs : List PatternTree)
    (g p rest : PatternTree) → entry r x g ≡ Some (p, rest)
    → option_map (λ (ps : List PatternTree). (ys ++ p ∷ []) ++ ps) (members r xs rest)
    ≡ option_map (λ (ps : List PatternTree). ys ++ ps) (members r (x ∷ xs) g)
members-next ys r x xs g p rest found =
    in_front ys p (members r xs rest)
    ∙ ap (λ (o : Option (PatternTree × PatternTree)).
    option_map (λ (ps : List PatternTree). ys ++ ps) (option_and_then (behind r xs) o))
    (sym found)
