-- Images that are made of the images of two parts.
use Rattle.std.proofs.Common.{◌≡◌, ℕ, List, Option, Some, None, option_map, refl, sym, ◌∙◌, ap}
use Rattle.ml_pat.specs.Patterns.{Pattern, constant}
use Rattle.rule_core.specs.declared.signature.Signature.{Signature}
use Rattle.ml_image.specs.Images.{both, symbol_image}
use Rattle.ml_image.specs.Tokens.{number_in_names, token_of_symbol}
use Rattle.ml_image.proofs.ImageLaws.{none_some, some_same}

pub both_parts : {A B C : Type 0} (f : A → B → C) (a : Option A) (b : Option B) (c : C)
    → both f a b ≡ Some c
    → (x : A) × (y : B) × (a ≡ Some x) × (b ≡ Some y) × (c ≡ f x y)
both_parts f None b c h = absurd (none_some c h)
both_parts f (Some x) None c h = absurd (none_some c h)
both_parts f (Some x) (Some y) c h = (x, y, refl, refl, some_same c (f x y) (sym h))

pub both_made : {A B C : Type 0} (f : A → B → C) (a : Option A) (b : Option B) (x : A) (y : B)
    → a ≡ Some x → b ≡ Some y → both f a b ≡ Some (f x y)
both_made {A} {B} f a b x y ha hb =
    ap (λ (o : Option A). both f o b) ha ∙ ap (λ (o : Option B). both f (Some x) o) hb

pub map_parts : {A B : Type 0} (f : A → B) (a : Option A) (b : B) → option_map f a ≡ Some b
    → (x : A) × (a ≡ Some x) × (b ≡ f x)
map_parts f None b h = absurd (none_some b h)
map_parts f (Some x) b h = (x, refl, some_same b (f x) (sym h))

-- the image of a symbol is a constant
pub constant_of : (sig : Signature) (names : List (List ℕ)) (f : ℕ) (p : Pattern)
    → symbol_image sig names f ≡ Some p → (c : ℕ) × (p ≡ constant c)
constant_of sig names f p h =
    let parts = map_parts constant (number_in_names names (token_of_symbol sig f)) p h in
    (parts.0, parts.2)
