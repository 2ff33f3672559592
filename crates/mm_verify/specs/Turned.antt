-- Two variables are in a group together in either order.
use Rattle.std.proofs.Common.{◌≡◌, ℕ, Bool, true, false, List, [], ◌∷◌, nat_eq, refl, ap, ◌∙◌}
use Rattle.std.proofs.Common.{arith}
use Rattle.std.specs.Prelude.{not, ◌&&◌, ◌||◌}
use Rattle.mm_frame.specs.PlainFrames.{has_number, in_group, in_groups}

pub and-turned : (a b : Bool) → (a && b) ≡ (b && a)
and-turned true true = refl
and-turned true false = refl
and-turned false true = refl
and-turned false false = refl

pub same-turned : (a b : ℕ) → nat_eq a b ≡ nat_eq b a
same-turned a b = grind arith

in_group-turned : (a b : ℕ) (group : List ℕ) → in_group a b group ≡ in_group b a group
in_group-turned a b group =
    ap (λ (t : Bool). not t && (has_number group a && has_number group b)) (same-turned a b)
    ∙ ap (λ (t : Bool). not (nat_eq b a) && t)
    (and-turned (has_number group a) (has_number group b))

pub in_groups-turned : (groups : List (List ℕ)) (a b : ℕ)
    → in_groups groups a b ≡ in_groups groups b a
in_groups-turned [] a b = refl
in_groups-turned (g ∷ gs) a b =
    ap (λ (t : Bool). t || in_groups gs a b) (in_group-turned a b g)
    ∙ ap (λ (t : Bool). in_group b a g || t) (in_groups-turned gs a b)
