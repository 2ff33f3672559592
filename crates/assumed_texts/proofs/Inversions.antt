-- What an image was made of.
use Rattle.std.proofs.Common.{◌≡◌, ℕ, List, Option, Some, None, option_map, refl, sym, ap, ◌∙◌}
use Rattle.std.specs.Prelude.{IsSome}
use Rattle.mm_text.specs.Bytes.{Token}
use Rattle.ml_pat.specs.Patterns.{Pattern}
use Rattle.ml_pat.specs.Patterns as logic
use Rattle.rule_core.specs.declared.signature.Signature.{Signature}
use Rattle.ml_image.specs.Images.{both, sort_image, injection_symbol, injection_image}
use Rattle.ml_image.specs.Images.{some_symbol_image}
use Rattle.ml_image.proofs.ImageLaws.{none_some, some_same}

-- of two things
pub record BothSome {A B C : Type 0} (f : A → B → C) (a : Option A) (b : Option B) (c : C) : Type 0
  where
    pub first : A
    pub second : B
    pub is_first : a ≡ Some first
    pub is_second : b ≡ Some second
    pub is : c ≡ f first second

pub both-some : {A B C : Type 0} (f : A → B → C) (a : Option A) (b : Option B) (c : C)
    → both f a b ≡ Some c → BothSome f a b c
both-some f None b c h = absurd (none_some c h)
both-some f (Some x) None c h = absurd (none_some c h)
both-some f (Some x) (Some y) c h = record {
  first = x;
  second = y;
  is_first = refl;
  is_second = refl;
  is = sym (some_same (f x y) c h);
}

-- of one
pub map-some : {A B : Type 0} (f : A → B) (a : Option A) (b : B) → option_map f a ≡ Some b
    → (x : A) × ((a ≡ Some x) × (b ≡ f x))
map-some f None b h = absurd (none_some b h)
map-some f (Some x) b h = (x, (refl, sym (some_same (f x) b h)))

-- of an injection
pub record InjectionSome (sig : Signature) (names : List Token) (a b : ℕ) (p : Pattern) : Type 0
  where
    pub has : IsSome (injection_symbol sig)
    pub head : Pattern
    pub from : ℕ
    pub to : ℕ
    pub is_from : sort_image sig names a ≡ Some from
    pub is_to : sort_image sig names b ≡ Some to
    pub is : p ≡ logic.at_sort (logic.at_sort head from) to

some-there : (sig : Signature) (names : List Token) (o : Option ℕ) (p : Pattern)
    → some_symbol_image sig names o ≡ Some p → IsSome o
some-there sig names None p h = absurd (none_some p h)
some-there sig names (Some f) p h = refl

pub injection-some : (sig : Signature) (names : List Token) (a b : ℕ) (p : Pattern)
    → injection_image sig names a b ≡ Some p → InjectionSome sig names a b p
injection-some sig names a b p h =
    let outer : BothSome logic.at_sort
    (both logic.at_sort (some_symbol_image sig names (injection_symbol sig))
    (sort_image sig names a))
    (sort_image sig names b) p =
    both-some logic.at_sort _ (sort_image sig names b) p h in
    let inner : BothSome logic.at_sort (some_symbol_image sig names (injection_symbol sig))
    (sort_image sig names a) outer.first =
    both-some logic.at_sort _ (sort_image sig names a) outer.first outer.is_first in
    record {
      has = some-there sig names (injection_symbol sig) inner.first inner.is_first;
      head = inner.first;
      from = inner.second;
      to = outer.second;
      is_from = inner.is_second;
      is_to = outer.is_second;
      is = outer.is ∙ ap (λ (q : Pattern). logic.at_sort q outer.second) inner.is;
    }
