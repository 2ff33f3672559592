-- The names of a whole pattern, one after another.
use Rattle.std.proofs.Common.{◌≡◌, ℕ, ◌+◌, ◌<◌, List, [], ◌∷◌}
use Rattle.std.proofs.Common.{length, drop, get_or, refl, ◌∙◌, ap}
use Rattle.std.proofs.lemmas.List.{drop_more}
use Rattle.rule_core.specs.NamedParts.{Name}
use Rattle.ml_image.specs.NamedSides.{whole, of_whole}
use Rattle.ml_image.specs.PartNames.{part_name, part_names}
use Rattle.ml_image.specs.declared.naming.PartName.{PartName}

-- the name at a place, and the names behind it
names_from : (names : List PartName) (i : ℕ) (d : PartName) → i < length names
    → of_whole (part_names (drop i names))
    ≡ whole (get_or names i d).way.now (part_name (get_or names i d))
    (of_whole (part_names (drop (i + 1) names)))
names_from names i d low =
    ap (λ (ns : List PartName). of_whole (part_names ns)) (drop_more names i d low)

whole_here : (way : List ℕ) (n : Name) (names : List Name) → way ≡ [] → whole way n names ≡ n ∷ names
whole_here way n names is = ap (λ (w : List ℕ). whole w n names) is

whole_none : (way : List ℕ) (n : Name) (names : List Name) → (way ≡ [] → ⊥)
    → whole way n names ≡ names
whole_none [] n names other = absurd (other refl)
whole_none (i ∷ way) n names other = refl

-- the name at a place names the whole
pub named_from : (names : List PartName) (i : ℕ) (d : PartName) → i < length names
    → (get_or names i d).way.now ≡ []
    → of_whole (part_names (drop i names))
    ≡ part_name (get_or names i d) ∷ of_whole (part_names (drop (i + 1) names))
named_from names i d low is =
    names_from names i d low
    ∙ whole_here (get_or names i d).way.now (part_name (get_or names i d))
    (of_whole (part_names (drop (i + 1) names))) is

-- the name at a place does not
pub unnamed_from : (names : List PartName) (i : ℕ) (d : PartName) → i < length names
    → ((get_or names i d).way.now ≡ [] → ⊥)
    → of_whole (part_names (drop i names)) ≡ of_whole (part_names (drop (i + 1) names))
unnamed_from names i d low other =
    names_from names i d low
    ∙ whole_none (get_or names i d).way.now (part_name (get_or names i d))
    (of_whole (part_names (drop (i + 1) names))) other

pub none_left : {A : Type 0} (xs : List A) (i : ℕ) → i ≡ length xs → drop i xs ≡ []
none_left xs i is = ap (λ (n : ℕ). drop n xs) is ∙ go xs
  where
    go : {A : Type 0} (ys : List A) → drop (length ys) ys ≡ []
    go [] = refl
    go (y ∷ ys) = go ys
