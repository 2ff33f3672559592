-- Two lists compared from their front.
use Rattle.std.proofs.Common.{◌≡◌, ◌≢◌, ◌<◌, ◌≤◌, ℕ, ◌+◌, List, [], ◌∷◌, length, map, drop, get_or, sym}
use Rattle.std.proofs.Common.{◌∙◌, ap, refl, arith}
use Rattle.std.proofs.lemmas.List.{drop_all}
use Rattle.std.specs.Prelude.{◌↔◌}
use Rattle.term_core.specs.Patterns.{Pattern, Patterns, no_pattern, more_patterns}
use Rattle.term_core.specs.PatternLists.{plain_patterns}
use Rattle.term_core.specs.RulePatterns.{plain_pattern}
use Rattle.term_core.specs.declared.rule_patterns.RulePat.{RulePat}
use Rattle.kore_check.proofs.Items.{drop-item}

-- what is made of the lists is the same if and only if it is the same from the place i on
abbrev pub AreSameFrom : {X Y : Type 0} → (List X → Y) → List X → List X → ℕ → Type 0
AreSameFrom made xs ys i = (made (drop i xs) ≡ made (drop i ys)) ↔ (made xs ≡ made ys)

pub same_from_front : {X Y : Type 0} (made : List X → Y) (xs ys : List X) → AreSameFrom made xs ys 0
same_from_front made xs ys = (λ same. same, λ same. same)

pub same_at_end : {X Y : Type 0} (made : List X → Y) (xs ys : List X) (i : ℕ) → length xs ≤ i
    → length ys ≤ i → AreSameFrom made xs ys i → made xs ≡ made ys
same_at_end made xs ys i long over before =
    before.0 (ap made (drop_all i xs long ∙ sym (drop_all i ys over)))

-- ---- images of items

first_same : {Y : Type 0} (a b : Y) (rest others : List Y) → (a ∷ rest) ≡ (b ∷ others) → a ≡ b
first_same a b rest others e = cc

rest_same : {Y : Type 0} (a b : Y) (rest others : List Y) → (a ∷ rest) ≡ (b ∷ others)
    → rest ≡ others
rest_same a b rest others e = cc

both_same : {Y : Type 0} (a b : Y) (rest others : List Y) → a ≡ b → rest ≡ others
    → (a ∷ rest) ≡ (b ∷ others)
both_same a b rest others e f = cc

pub one_more_same : {X Y : Type 0} (f : X → Y) (xs ys : List X) (i : ℕ) (x y : X)
    → i < length xs → i < length ys → x ≡ get_or xs i x → y ≡ get_or ys i y → f x ≡ f y
    → AreSameFrom (map f) xs ys i → AreSameFrom (map f) xs ys (i + 1)
one_more_same f xs ys i x y low under left right same before = (
  λ rest. before.0 (ap (map f) (drop-item xs i x low left)
      ∙ both_same (f x) (f y) (map f (drop (i + 1) xs)) (map f (drop (i + 1) ys)) same rest
      ∙ sym (ap (map f) (drop-item ys i y under right))),
  λ whole. rest_same (f x) (f y) (map f (drop (i + 1) xs)) (map f (drop (i + 1) ys))
      (sym (ap (map f) (drop-item xs i x low left)) ∙ before.1 whole
      ∙ ap (map f) (drop-item ys i y under right)),
)

pub one_differs : {X Y : Type 0} (f : X → Y) (xs ys : List X) (i : ℕ) (x y : X)
    → i < length xs → i < length ys → x ≡ get_or xs i x → y ≡ get_or ys i y → f x ≢ f y
    → AreSameFrom (map f) xs ys i → map f xs ≢ map f ys
one_differs f xs ys i x y low under left right other before whole =
    other (first_same (f x) (f y) (map f (drop (i + 1) xs)) (map f (drop (i + 1) ys))
    (sym (ap (map f) (drop-item xs i x low left)) ∙ before.1 whole
    ∙ ap (map f) (drop-item ys i y under right)))

-- ---- patterns

more_first : (a b : Pattern) (rest others : Patterns)
    → more_patterns a rest ≡ more_patterns b others → a ≡ b
more_first a b rest others e = cc

more_rest : (a b : Pattern) (rest others : Patterns)
    → more_patterns a rest ≡ more_patterns b others → rest ≡ others
more_rest a b rest others e = cc

more_same : (a b : Pattern) (rest others : Patterns) → a ≡ b → rest ≡ others
    → more_patterns a rest ≡ more_patterns b others
more_same a b rest others e f = cc

pub one_more_pattern : (xs ys : List RulePat) (i : ℕ) (x y : RulePat) → i < length xs
    → i < length ys → x ≡ get_or xs i x → y ≡ get_or ys i y
    → plain_pattern x ≡ plain_pattern y → AreSameFrom plain_patterns xs ys i
    → AreSameFrom plain_patterns xs ys (i + 1)
one_more_pattern xs ys i x y low under left right same before = (
  λ rest. before.0 (ap plain_patterns (drop-item xs i x low left)
      ∙ more_same (plain_pattern x) (plain_pattern y) (plain_patterns (drop (i + 1) xs))
      (plain_patterns (drop (i + 1) ys)) same rest
      ∙ sym (ap plain_patterns (drop-item ys i y under right))),
  λ whole. more_rest (plain_pattern x) (plain_pattern y) (plain_patterns (drop (i + 1) xs))
      (plain_patterns (drop (i + 1) ys))
      (sym (ap plain_patterns (drop-item xs i x low left)) ∙ before.1 whole
      ∙ ap plain_patterns (drop-item ys i y under right)),
)

pub pattern_differs : (xs ys : List RulePat) (i : ℕ) (x y : RulePat) → i < length xs
    → i < length ys → x ≡ get_or xs i x → y ≡ get_or ys i y
    → plain_pattern x ≢ plain_pattern y → AreSameFrom plain_patterns xs ys i
    → plain_patterns xs ≢ plain_patterns ys
pattern_differs xs ys i x y low under left right other before whole =
    other (more_first (plain_pattern x) (plain_pattern y) (plain_patterns (drop (i + 1) xs))
    (plain_patterns (drop (i + 1) ys))
    (sym (ap plain_patterns (drop-item xs i x low left)) ∙ before.1 whole
    ∙ ap plain_patterns (drop-item ys i y under right)))

-- as many patterns

abbrev many : Patterns → ℕ
many no_pattern = 0
many (more_patterns p ps) = many ps + 1

many_plain : (xs : List RulePat) → many (plain_patterns xs) ≡ length xs
many_plain [] = refl
many_plain (x ∷ xs) =
    let rest : many (plain_patterns xs) ≡ length xs = many_plain xs in omega (arith, rest)

pub same_length : (xs ys : List RulePat) → plain_patterns xs ≡ plain_patterns ys
    → length xs ≡ length ys
same_length xs ys same = sym (many_plain xs) ∙ ap many same ∙ many_plain ys
