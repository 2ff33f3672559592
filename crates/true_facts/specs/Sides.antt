-- Sides and their images, and how the sides of the code are seen.
use Rattle.std.specs.Prelude.{◌≡◌, ◌≢◌, ◌⊎◌, ℕ, List, Option, Some, option_map}
use Rattle.ml_pat.specs.Patterns.{Pattern, app}
use Rattle.term_core.specs.Patterns.{Pattern as RulePattern, variable}
use Rattle.term_core.specs.RulePatterns.{sort_numbers}
use Rattle.term_core.specs.Values.{value_of}
use Rattle.rule_core.specs.declared.signature.Signature.{Signature}
use Rattle.ml_image.specs.Images.{image_of, injection_image}
use Rattle.ml_image.specs.Sides.{Head, Side, value, constructor, plain, injected_variable}
use Rattle.ml_image.specs.Sides.{injected_head, IsHead, IsSide, head_pattern, side_pattern}
use Rattle.ml_image.specs.Sides.{Differ}
use Rattle.true_facts.specs.Only.{IsOnly}
use Rattle.true_facts.specs.declared.sides.Head.{Head as CodeHead}
use Rattle.true_facts.specs.declared.sides.Head.TheVariants as head
use Rattle.true_facts.specs.declared.sides.Side.{Side as CodeSide}
use Rattle.true_facts.specs.declared.sides.Side.TheVariants as side
use Rattle.true_facts.specs.declared.sides.SortedHead.{SortedHead}
use Rattle.true_facts.specs.declared.sides.SortedSide.{SortedSide}

abbrev pub plain_head : CodeHead → Head
plain_head (head.Value v) = value (value_of v)
plain_head (head.Constructor f sorts) = constructor f (sort_numbers sorts.items)

abbrev pub plain_side : CodeSide → Side
plain_side (side.Plain h) = plain (plain_head h)
plain_side (side.InjectedVariable a) = injected_variable a.0
plain_side (side.InjectedHead a h) = injected_head a.0 (plain_head h)

abbrev pub head_found : Option SortedHead → Option (ℕ × Head)
head_found r = option_map (λ (h : SortedHead). (h.sort.0, plain_head h.head)) r

abbrev pub sorted_side : SortedSide → ℕ × Side
sorted_side s = (s.sort.0, plain_side s.side)

abbrev pub side_found : Option SortedSide → Option (ℕ × Side)
side_found r = option_map sorted_side r

-- the pattern is the image of this head of this sort, with its variables numbered from k
abbrev pub IsHeadAt : Signature → List (List ℕ) → Pattern → ℕ → ℕ × Head → Type 0
IsHeadAt sig names p k h =
    IsHead sig h.0 h.1 × (image_of sig names (head_pattern h.0 k h.1) ≡ Some p)

-- the same for a side
abbrev pub IsSideAt : Signature → List (List ℕ) → Pattern → ℕ → ℕ × Side → Type 0
IsSideAt sig names p k s =
    IsSide sig s.0 s.1 × (image_of sig names (side_pattern s.0 k s.1) ≡ Some p)

-- the same for a side that is a head
abbrev pub IsPlainAt : Signature → List (List ℕ) → Pattern → ℕ → ℕ × Side → Type 0
IsPlainAt sig names p k s = (h : Head) × (s.1 ≡ plain h) × IsHeadAt sig names p k (s.0, h)

-- the pattern applies the injection from the sort a to the sort b, and no other, to q
abbrev pub AppliesInjection : Signature → List (List ℕ) → Pattern → ℕ → ℕ → Pattern → Type 0
AppliesInjection sig names p a b q =
    (head : Pattern) × (p ≡ app head q)
    × IsOnly (λ (x : ℕ × ℕ). injection_image sig names x.0 x.1 ≡ Some head) (Some (a, b))

-- the pattern applies no injection
abbrev pub AppliesNoInjection : Signature → List (List ℕ) → Pattern → Type 0
AppliesNoInjection sig names p =
    (a b : ℕ) (head q : Pattern) → injection_image sig names a b ≡ Some head → p ≢ app head q

-- what is injected from this sort in the side, as a pattern, if the side injects something
abbrev pub IsInjected : ℕ → ℕ → Side → RulePattern → Type 0
IsInjected a k (plain h) p = ⊥
IsInjected a k (injected_variable b) p = (a ≡ b) × (variable k ≡ p)
IsInjected a k (injected_head b h) p = (a ≡ b) × (head_pattern b k h ≡ p)

-- the pattern is the image of what this side injects from the sort a into the sort b
abbrev pub IsInjectedAt : Signature → List (List ℕ) → Pattern → ℕ → ℕ → ℕ → ℕ × Side → Type 0
IsInjectedAt sig names p k a b s =
    (b ≡ s.0) × IsSide sig s.0 s.1
    × ((q : RulePattern) × IsInjected a k s.1 q × (image_of sig names q ≡ Some p))

-- the sides have the same sort, and no instance of the one is an instance of the other
abbrev pub AreApartSides : Signature → ℕ × Side → ℕ × Side → Type 0
AreApartSides sig s t = (s.0 ≡ t.0) × (Differ sig s.1 t.1 ⊎ Differ sig t.1 s.1)
