-- The free variables of sentences: of left sides, conditions and guards, and of what is built from
-- other sentences.
use Rattle.std.proofs.Common.{◌≡◌, ℕ, ◌+◌, ◌<◌, ◌≤◌, ◌^◌, zero, suc, Bool, true, false, List, []}
use Rattle.std.proofs.Common.{◌∷◌, map, length, Option, Some, None, option_map, refl, sym, ap}
use Rattle.std.proofs.Common.{subst, arith, ◌⊎◌, inl, inr, eq-or-lt_of_le}
use Rattle.std.specs.Prelude.{All, IfSome, if◌then◌else◌, nat_eq, slice_get}
use Rattle.std.specs.Prelude.{slice_index_or}
use Rattle.std.proofs.lemmas.List.Elements.{All-head, All-tail, All-cons, All-map}
use Rattle.std.proofs.lemmas.List.Elements.{All-weaker}
use Rattle.std.proofs.lemmas.Option.{slice_get_within, get_or_from_slice_get}
use Rattle.term_core.specs.Patterns.{Pattern, Patterns, variable, domain_value, application}
use Rattle.term_core.specs.Patterns.{injection, call, no_pattern, more_patterns}
use Rattle.rule_core.specs.Rules.{Equation, Guard}
use Rattle.rule_core.specs.Theories.{RewriteTheory, equations_of}
use Rattle.rule_core.specs.Matching.{OccursIn, OccursInSome}
use Rattle.rule_core.specs.Sorting.{HasSort, HaveSorts, IsSymbol}
use Rattle.rule_core.specs.NamedParts.{Name, part_of}
use Rattle.rule_core.specs.WellSorted.{IsSignature, IsCondition, IsEquationOf, HaveNames}
use Rattle.rule_core.specs.WellSorted.{IsWellSorted}
use Rattle.rule_core.specs.declared.signature.Signature.{Signature}
use Rattle.rule_core.specs.declared.signature.SymInfo.{SymInfo}
use Rattle.rule_core.specs.declared.signature.SortRef.{SortRef}
use Rattle.ml_image.specs.HasImages.{HasImage, HaveImages, AreNamesBelow, count_of}
use Rattle.ml_image.specs.HasImages.{after_guards}
use Rattle.ml_image.specs.NamedSides.{whole, of_whole, way_in, at_way, of_child, named_part}
use Rattle.ml_image.specs.NamedSides.{named_parts, left_sentence, applied_sides}
use Rattle.ml_image.specs.Images.{both, renamed, all_renamed, shifted, all_shifted}
use Rattle.ml_image.specs.Sentences.{Sentence, term, symbol, inject, apply, top, bottom, and}
use Rattle.ml_image.specs.Sentences.{or, for_all, for_some, variables}
use Rattle.ml_image.specs.Sentences.{apply_all, conjunctions}
use Rattle.ml_image.specs.Premises.{sort_of, is_true, condition_sentence, meets, renamed_name}
use Rattle.ml_image.specs.Premises.{name_behind}
use Rattle.ml_image.specs.LastResorts.{number_from, sorts_at, condition_renamed, premise}
use Rattle.ml_image.specs.LastResorts.{guard_sentence, guards_sentence}
use Rattle.ml_image.specs.OwnAxioms.{sort_numbered}
use Rattle.ml_image.specs.OwnAxioms.{of_variables}
use Rattle.ml_image.proofs.ImageLaws.{some_same}
use Rattle.ml_image.proofs.LastResortLaws.{after_more, listed_many}
use Rattle.ml_image.proofs.WellSortedLaws.{sorted_has_image}
use Rattle.mm_adequate.proofs.ClosedAxioms.{HasFree, IsBelow, free_weaker}

-- ---- variables of well-sorted patterns

mutual
  pub image_uses : (sig : Signature) (n : ℕ) (p : Pattern) (x : ℕ) → HasImage sig n p → OccursIn x p
      → x < n
  image_uses sig n (variable y) x h i = omega (arith, h, i)
  image_uses sig n (domain_value s v) x h i = absurd i
  image_uses sig n (application f ps) x h i = images_use sig n ps x h.1 i
  image_uses sig n (injection a b p) x h i = image_uses sig n p x h.2 i
  image_uses sig n (call f ss ps) x h i = images_use sig n ps x h.2 i

  pub images_use : (sig : Signature) (n : ℕ) (ps : Patterns) (x : ℕ) → HaveImages sig n ps
      → OccursInSome x ps → x < n
  images_use sig n no_pattern x h i = absurd i
  images_use sig n (more_patterns p ps) x h (inl i) = image_uses sig n p x h.0 i
  images_use sig n (more_patterns p ps) x h (inr i) = images_use sig n ps x h.1 i

pub sorted_uses : (sig : Signature) (vars : List ℕ) (p : Pattern) (sort x : ℕ) → IsSignature sig
    → HasSort sig vars p sort → OccursIn x p → x < length vars
sorted_uses sig vars p sort x ok h i =
    image_uses sig (length vars) p x (sorted_has_image sig vars p sort ok h) i

pub all_sorted_use : (sig : Signature) (vars sorts : List ℕ) (ps : Patterns) (refs : List SortRef)
    (x : ℕ) → IsSignature sig → HaveSorts sig vars sorts ps refs → OccursInSome x ps
    → x < length vars
all_sorted_use sig vars sorts no_pattern refs x ok h i = absurd i
all_sorted_use sig vars sorts (more_patterns p ps) [] x ok h i = absurd h
all_sorted_use sig vars sorts (more_patterns p ps) (r ∷ refs) x ok h (inl i) =
    sorted_uses sig vars p h.0 x ok h.2 i
all_sorted_use sig vars sorts (more_patterns p ps) (r ∷ refs) x ok h (inr i) =
    all_sorted_use sig vars sorts ps refs x ok h.3 i

pub counted : (sig : Signature) (vars sorts : List ℕ) (ps : Patterns) (refs : List SortRef)
    → HaveSorts sig vars sorts ps refs → count_of ps ≡ length refs
counted sig vars sorts no_pattern [] h = refl
counted sig vars sorts no_pattern (r ∷ refs) h = absurd h
counted sig vars sorts (more_patterns p ps) [] h = absurd h
counted sig vars sorts (more_patterns p ps) (r ∷ refs) h =
    ap suc (counted sig vars sorts ps refs h.3)

mutual
  pub shifted_uses : (n k : ℕ) (p : Pattern) (x : ℕ) → ((y : ℕ) → OccursIn y p → y < k)
      → OccursIn x (shifted n p) → x < n + k
  shifted_uses n k (variable y) x h i = omega (arith, h y refl, i)
  shifted_uses n k (domain_value s v) x h i = absurd i
  shifted_uses n k (application f ps) x h i = all_shifted_use n k ps x h i
  shifted_uses n k (injection a b p) x h i = shifted_uses n k p x h i
  shifted_uses n k (call f ss ps) x h i = all_shifted_use n k ps x h i

  pub all_shifted_use : (n k : ℕ) (ps : Patterns) (x : ℕ) → ((y : ℕ) → OccursInSome y ps → y < k)
      → OccursInSome x (all_shifted n ps) → x < n + k
  all_shifted_use n k no_pattern x h i = absurd i
  all_shifted_use n k (more_patterns p ps) x h (inl i) =
      shifted_uses n k p x (λ y j. h y (inl j)) i
  all_shifted_use n k (more_patterns p ps) x h (inr i) =
      all_shifted_use n k ps x (λ y j. h y (inr j)) i

pub count_shifted : (n : ℕ) (ps : Patterns) → count_of (all_shifted n ps) ≡ count_of ps
count_shifted n no_pattern = refl
count_shifted n (more_patterns p ps) = ap suc (count_shifted n ps)

pub length-numbered : (sorts : List ℕ) → length (map sort_numbered sorts) ≡ length sorts
length-numbered [] = refl
length-numbered (s ∷ sorts) = ap suc (length-numbered sorts)

-- ---- sentences that are built from others

pub at_most : (k x : ℕ) → x < k + 1 → (x < k) ⊎ (x ≡ k)
at_most k x l = go (eq-or-lt_of_le (le k x l))
  where
    le : (k x : ℕ) → x < k + 1 → x ≤ k
    le k x l = omega (arith, l)

    go : (x ≡ k) ⊎ (x < k) → (x < k) ⊎ (x ≡ k)
    go (inl same) = inr same
    go (inr less) = inl less

-- under a quantifier, its variable is one more
pub below_bound : (k : ℕ) (p : Sentence) → IsBelow (k + 1) p → HasFree (λ y. (y < k) ⊎ (y ≡ k)) p
below_bound k p h = free_weaker (λ x. x < k + 1) (λ y. (y < k) ⊎ (y ≡ k)) (at_most k) p h

pub below_for_all : (k : ℕ) (ss : List ℕ) (p : Sentence) → k + length ss ≤ 2 ^ 64
    → IsBelow (k + length ss) p → IsBelow k (for_all k ss p)
below_for_all k [] p l h =
    let same : k + 0 ≡ k = omega arith in
    subst (λ (n : ℕ). IsBelow n p) same h
below_for_all k (s ∷ ss) p l h =
    let same : k + suc (length ss) ≡ (k + 1) + length ss = omega arith in (
      omega (arith, l),
      below_bound k (for_all (k + 1) ss p)
          (below_for_all (k + 1) ss p (omega (arith, l)) (subst (λ (n : ℕ). IsBelow n p) same h)),
    )

-- free in the body of quantifiers whose variables are numbered from k
abbrev pub OrBound : (ℕ → Type 0) → ℕ → ℕ → ℕ → Type 0
OrBound P k n y = P y ⊎ ((k ≤ y) × (y < k + n))

pub free_for_some : (P : ℕ → Type 0) (k : ℕ) (ss : List ℕ) (p : Sentence) → k + length ss ≤ 2 ^ 64
    → HasFree (OrBound P k (length ss)) p → HasFree P (for_some k ss p)
free_for_some P k [] p l h = free_weaker (OrBound P k 0) P none p h
  where
    none : (y : ℕ) → OrBound P k 0 y → P y
    none y (inl i) = i
    none y (inr i) = absurd (omega (arith, i.0, i.1))
free_for_some P k (s ∷ ss) p l h = (
  omega (arith, l),
  free_for_some (λ y. P y ⊎ (y ≡ k)) (k + 1) ss p (omega (arith, l))
      (free_weaker (OrBound P k (suc (length ss))) (OrBound (λ y. P y ⊎ (y ≡ k)) (k + 1) (length
      ss))
      first p h),
)
  where
    first : (y : ℕ) → OrBound P k (suc (length ss)) y
        → OrBound (λ z. P z ⊎ (z ≡ k)) (k + 1) (length ss) y
    first y (inl i) = inl (inl i)
    first y (inr i) = go (eq-or-lt_of_le i.0)
      where
        go : (k ≡ y) ⊎ (k < y) → OrBound (λ z. P z ⊎ (z ≡ k)) (k + 1) (length ss) y
        go (inl same) = inl (inr (sym same))
        go (inr less) = inr (omega (arith, less), omega (arith, i.1))

pub closes : (ss : List ℕ) (p : Sentence) → length ss ≤ 2 ^ 64 → IsBelow (length ss) p
    → IsBelow 0 (for_all 0 ss p)
closes ss p l h =
    let same : length ss ≡ 0 + length ss = omega arith in
    below_for_all 0 ss p (omega (arith, l)) (subst (λ (n : ℕ). IsBelow n p) same h)

abbrev pub AllBelow : ℕ → List Sentence → Type 0
AllBelow k [] = Unit {0}
AllBelow k (p ∷ ps) = IsBelow k p × AllBelow k ps

pub below_apply : (k : ℕ) (head : Sentence) (ps : List Sentence) → IsBelow k head → AllBelow k ps
    → IsBelow k (apply_all head ps)
below_apply k head [] h all = h
below_apply k head (p ∷ ps) h all = below_apply k _ ps (h, all.0) all.1

pub below_variables : (k j n : ℕ) → j + n ≤ k → AllBelow k (variables j n)
below_variables k j zero l = tt
below_variables k j (suc n) l =
    ((λ x i. omega (arith, l, i)), below_variables k (j + 1) n (omega (arith, l)))

pub below_of : (k f j n : ℕ) → j + n ≤ k → IsBelow k (of_variables f j n)
below_of k f j n l = below_apply k (symbol f) (variables j n) tt (below_variables k j n l)

pub below_pairs : (k : ℕ) (ps qs : List Sentence) → AllBelow k ps → AllBelow k qs
    → AllBelow k (conjunctions ps qs)
below_pairs k [] qs h j = tt
below_pairs k (p ∷ ps) [] h j = tt
below_pairs k (p ∷ ps) (q ∷ qs) h j = ((h.0, j.0), below_pairs k ps qs h.1 j.1)

-- ---- left sides whose parts have names

abbrev pub LowName : (ℕ → Type 0) → Name → Type 0
LowName P n = P n.variable

abbrev pub AreNamesIn : (ℕ → Type 0) → List Name → Type 0
AreNamesIn P names = All (LowName P) names

pub below_at : (P : ℕ → Type 0) (place : List ℕ) (n : Name) (names : List Name) → LowName P n
    → AreNamesIn P names → AreNamesIn P (whole place n names)
below_at P [] n names low h = All-cons (LowName P) n names low h
below_at P (i ∷ way) n names low h = h

pub below_whole : (P : ℕ → Type 0) (names : List Name) → AreNamesIn P names → AreNamesIn P (of_whole
    names)
below_whole P [] h = h
below_whole P (n ∷ names) h =
    below_at P n.place n (of_whole names) (All-head (LowName P) n names h)
    (below_whole P names (All-tail (LowName P) n names h))

pub below_way : (P : ℕ → Type 0) (way : Option (List ℕ)) (n : Name) (names : List Name) → LowName P
    n
    → AreNamesIn P names → AreNamesIn P (at_way way n names)
below_way P None n names low h = h
below_way P (Some way) n names low h =
    All-cons (LowName P) (record n { place = way }) names low h

pub below_child : (P : ℕ → Type 0) (j : ℕ) (names : List Name) → AreNamesIn P names
    → AreNamesIn P (of_child j names)
below_child P j [] h = h
below_child P j (n ∷ names) h =
    below_way P (way_in j n.place) n (of_child j names) (All-head (LowName P) n names h)
    (below_child P j names (All-tail (LowName P) n names h))

pub below_part : (P : ℕ → Type 0) (part : Sentence) (n : Name) → HasFree P part → P n.variable
    → HasFree P (named_part part n)
below_part P part n h low = go n.first
  where
    is : HasFree P (term (variable n.variable))
    is x i = subst P (sym i) low

    go : (b : Bool) → HasFree P
        (if b then and (term (variable n.variable)) part
        else and part (term (variable n.variable)))
    go true = (is, h)
    go false = (h, is)

pub below_parts : (P : ℕ → Type 0) (part : Sentence) (names : List Name) → HasFree P part
    → AreNamesIn P names → HasFree P (named_parts part names)
below_parts P part [] h low = h
below_parts P part (n ∷ names) h low =
    below_parts P (named_part part n) names
    (below_part P part n h (All-head (LowName P) n names low)) (All-tail (LowName P) n names low)

mutual
  pub below_left : (P : ℕ → Type 0) (names : List Name) (p : Pattern) → AreNamesIn P names
      → ((x : ℕ) → OccursIn x p → P x) → HasFree P (left_sentence names p)
  below_left P names (variable y) low h =
      below_parts P (term (variable y)) (of_whole names) h (below_whole P names low)
  below_left P names (domain_value s v) low h =
      below_parts P (term (domain_value s v)) (of_whole names) h (below_whole P names low)
  below_left P names (application f ps) low h =
      below_parts P (applied_sides names 0 (symbol f) ps) (of_whole names)
      (below_sides P names 0 (symbol f) ps low tt h) (below_whole P names low)
  below_left P names (injection a b p) low h =
      below_parts P (apply (inject a b) (left_sentence (of_child 0 names) p)) (of_whole names)
      (tt, below_left P (of_child 0 names) p (below_child P 0 names low) h)
      (below_whole P names low)
  below_left P names (call f ss ps) low h =
      below_parts P (term (call f ss ps)) (of_whole names) h (below_whole P names low)

  pub below_sides : (P : ℕ → Type 0) (names : List Name) (j : ℕ) (head : Sentence) (ps : Patterns)
      → AreNamesIn P names → HasFree P head → ((x : ℕ) → OccursInSome x ps → P x)
      → HasFree P (applied_sides names j head ps)
  below_sides P names j head no_pattern low head_low h = head_low
  below_sides P names j head (more_patterns p ps) low head_low h =
      below_sides P names (j + 1) (apply head (left_sentence (of_child j names) p)) ps low
      (head_low, below_left P (of_child j names) p (below_child P j names low) (λ x i. h x (inl i)))
      (λ x i. h x (inr i))

pub below_meets : (P : ℕ → Type 0) (names : List Name) (j : ℕ) (ps : Patterns) → AreNamesIn P names
    → ((x : ℕ) → x < j + count_of ps → P x) → ((x : ℕ) → OccursInSome x ps → P x)
    → HasFree P (meets names j ps)
below_meets P names j no_pattern low l h = tt
below_meets P names j (more_patterns p ps) low l h = (
  (
    (λ x i. l x (omega (arith, i))),
    below_left P (of_child j names) p (below_child P j names low) (λ x i. h x (inl i)),
  ),
  below_meets P names (j + 1) ps low (λ x i. l x (omega (arith, i))) (λ x i. h x (inr i)),
)

pub names_behind : (n k : ℕ) (names : List Name) → AreNamesBelow k names
    → AreNamesBelow (n + k) (map (name_behind n) names)
names_behind n k names h =
    All-map (LowName (λ x. x < n + k)) (name_behind n) names
    (All-weaker (LowName (λ x. x < k)) (λ (m : Name). n + m.variable < n + k)
    (λ m low. omega (arith, low)) names h)

-- the variables of names are variables of the rule or the equation
pub names_below : (sig : Signature) (vars : List ℕ) (ps : Patterns) (names : List Name)
    → HaveNames sig vars ps names → AreNamesBelow (length vars) names
names_below sig vars ps names have =
    All-weaker (λ (n : Name). (p : Pattern) × (sort : ℕ) × (part_of ps n.place ≡ Some p)
    × HasSort sig vars p sort × (slice_get vars n.variable ≡ Some sort))
    (LowName (λ x. x < length vars))
    (λ n (p, sort, there, sorted, is). slice_get_within vars n.variable sort is) names have.sorted

-- ---- conditions

abbrev pub ConditionUses : ℕ → Option Pattern → Type 0
ConditionUses k None = Unit {0}
ConditionUses k (Some p) = (x : ℕ) → OccursIn x p → x < k

pub condition_uses : (sig : Signature) (vars : List ℕ) (ps : Patterns) (o : Option Pattern)
    (names : List Name) → IsSignature sig → IfSome o (IsCondition sig vars ps names)
    → ConditionUses (length vars) o
condition_uses sig vars ps None names ok h = tt
condition_uses sig vars ps (Some p) names ok (sort, name, info, there, kind, sorted, only) =
    λ x i. sorted_uses sig vars p sort x ok sorted i

pub condition_shifted : (n k : ℕ) (o : Option Pattern) → ConditionUses k o
    → ConditionUses (n + k) (option_map (shifted n) o)
condition_shifted n k None h = tt
condition_shifted n k (Some p) h = λ x i. shifted_uses n k p x h i

pub below_condition : (sig : Signature) (vars : List ℕ) (k : ℕ) (o : Option Pattern) (c : Sentence)
    → ConditionUses k o → condition_sentence sig vars o ≡ Some c → IsBelow k c
below_condition sig vars k None c h e = let is : top ≡ c = cc in subst (IsBelow k) is tt
below_condition sig vars k (Some p) c h e = go (sort_of sig vars p) e
  where
    go : (s : Option ℕ) → option_map (is_true p) s ≡ Some c → IsBelow k c
    go None i = absurd (cc)
    go (Some s) i =
        let is : is_true p s ≡ c = cc in
        subst (IsBelow k) is (h, (λ x j. absurd j))

-- ---- guards

mutual
  pub renamed_uses : (P : ℕ → Type 0) (g : ℕ → ℕ) → ((x : ℕ) → P (g x)) → (p : Pattern) (x : ℕ)
      → OccursIn x (renamed g p) → P x
  renamed_uses P g has (variable y) x i = subst P (sym i) (has y)
  renamed_uses P g has (domain_value s v) x i = absurd i
  renamed_uses P g has (application f ps) x i = all_renamed_use P g has ps x i
  renamed_uses P g has (injection a b p) x i = renamed_uses P g has p x i
  renamed_uses P g has (call f ss ps) x i = all_renamed_use P g has ps x i

  pub all_renamed_use : (P : ℕ → Type 0) (g : ℕ → ℕ) → ((x : ℕ) → P (g x)) → (ps : Patterns) (x : ℕ)
      → OccursInSome x (all_renamed g ps) → P x
  all_renamed_use P g has no_pattern x i = absurd i
  all_renamed_use P g has (more_patterns p ps) x (inl i) = renamed_uses P g has p x i
  all_renamed_use P g has (more_patterns p ps) x (inr i) = all_renamed_use P g has ps x i

pub count_renamed : (g : ℕ → ℕ) (ps : Patterns) → count_of (all_renamed g ps) ≡ count_of ps
count_renamed g no_pattern = refl
count_renamed g (more_patterns p ps) = ap suc (count_renamed g ps)

pub names_in : (P : ℕ → Type 0) (g : ℕ → ℕ) → ((x : ℕ) → P (g x)) → (names : List Name)
    → AreNamesIn P (map (renamed_name g) names)
names_in P g has names =
    All-map (LowName P) (renamed_name g) names (λ i d low. has (slice_index_or names i d).variable)

pub free_condition : (sig : Signature) (P : ℕ → Type 0) (g : ℕ → ℕ) → ((x : ℕ) → P (g x))
    → (vars : List ℕ) (o : Option Pattern) (c : Sentence)
    → condition_renamed sig g vars o ≡ Some c → HasFree P c
free_condition sig P g has vars None c e = let is : top ≡ c = cc in subst (HasFree P) is tt
free_condition sig P g has vars (Some p) c e = go (sort_of sig vars p) e
  where
    go : (s : Option ℕ) → option_map (is_true (renamed g p)) s ≡ Some c → HasFree P c
    go None i = absurd (cc)
    go (Some s) i =
        let is : is_true (renamed g p) s ≡ c = cc in
        subst (HasFree P) is (renamed_uses P g has p, (λ x j. absurd j))

pub free_premise : (sig : Signature) (P : ℕ → Type 0) (g : ℕ → ℕ) → ((x : ℕ) → P (g x))
    → (e : Equation) (s : Sentence) → ((x : ℕ) → x < count_of e.arguments → P x)
    → premise sig g e ≡ Some s → HasFree P s
free_premise sig P g has e s low tells =
    go (condition_renamed sig g e.variables e.condition) refl tells
  where
    few_met : (x : ℕ) → x < 0 + count_of (all_renamed g e.arguments) → P x
    few_met x i = low x (omega (arith, i, count_renamed g e.arguments))

    go : (o : Option Sentence) → condition_renamed sig g e.variables e.condition ≡ o
        → option_map (λ (c : Sentence).
        and c (meets (map (renamed_name g) e.names) 0 (all_renamed g e.arguments))) o ≡ Some s
        → HasFree P s
    go None is i = absurd (cc)
    go (Some c) is i =
        let same : and c (meets (map (renamed_name g) e.names) 0 (all_renamed g e.arguments)) ≡ s =
        some_same (and c (meets (map (renamed_name g) e.names) 0 (all_renamed g e.arguments))) s i
        in
        subst (HasFree P) same (
          free_condition sig P g has e.variables e.condition c is,
          below_meets P (map (renamed_name g) e.names) 0 (all_renamed g e.arguments)
              (names_in P g has e.names) few_met (all_renamed_use P g has e.arguments),
        )

-- a listed variable has one of the numbers from k on, and each other one the number 0
pub number_found : (k : ℕ) (order : List ℕ) (x : ℕ)
    → (number_from k order x ≡ 0)
    ⊎ ((k ≤ number_from k order x) × (number_from k order x < k + length order))
number_found k [] x = inl refl
number_found k (y ∷ ys) x = go (nat_eq x y) (number_found (k + 1) ys x)
  where
    go : (b : Bool) → (number_from (k + 1) ys x ≡ 0)
        ⊎ ((k + 1 ≤ number_from (k + 1) ys x)
        × (number_from (k + 1) ys x < k + 1 + length ys))
        → ((if b then k else number_from (k + 1) ys x) ≡ 0)
        ⊎ ((k ≤ (if b then k else number_from (k + 1) ys x))
        × ((if b then k else number_from (k + 1) ys x) < k + suc (length ys)))
    go true h = inr (omega arith, omega arith)
    go false (inl h) = inl h
    go false (inr h) = inr (omega (arith, h.0), omega (arith, h.1))

pub below_guard : (theory : RewriteTheory) → IsWellSorted theory → (f : ℕ) (info : SymInfo)
    → IsSymbol theory.sig f info → (n : ℕ) → 0 < n → length info.args.items ≤ n → (k : ℕ)
    (order : List ℕ) → k + length order ≤ 2 ^ 64 → (i : ℕ) (s : Sentence)
    → guard_sentence theory.sig k order (slice_get (equations_of theory f) i) ≡ Some s
    → IsBelow n s
below_guard theory ok f info there n some many k order few i s tells =
    go (slice_get (equations_of theory f) i) refl tells
  where
    within : (e : Equation) → slice_get (equations_of theory f) i ≡ Some e
        → IsEquationOf theory.sig info e
    within e is =
        subst (IsEquationOf theory.sig info) (get_or_from_slice_get (equations_of theory f) i e e
        is)
        (ok.equations f info there i e (slice_get_within (equations_of theory f) i e is))

    numbered_in : (x : ℕ) → OrBound (λ y. y < n) k (length order) (number_from k order x)
    numbered_in x = place (number_found k order x)
      where
        place : (number_from k order x ≡ 0)
            ⊎ ((k ≤ number_from k order x) × (number_from k order x < k + length order))
            → OrBound (λ y. y < n) k (length order) (number_from k order x)
        place (inl h) = inl (omega (arith, h, some))
        place (inr h) = inr h

    go : (o : Option Equation) → slice_get (equations_of theory f) i ≡ o
        → guard_sentence theory.sig k order o ≡ Some s → IsBelow n s
    go None is h = absurd (cc)
    go (Some e) is h = inside (premise theory.sig (number_from k order) e) refl h
      where
        long : length (sorts_at e.variables order) ≡ length order
        long = listed_many e.variables order

        count : count_of e.arguments ≡ length info.args.items
        count =
            counted theory.sig e.variables [] e.arguments info.args.items (within e is).arguments

        inside : (o : Option Sentence) → premise theory.sig (number_from k order) e ≡ o
            → option_map (for_some k (sorts_at e.variables order)) o ≡ Some s → IsBelow n s
        inside None at j = absurd (cc)
        inside (Some t) at j =
            subst (IsBelow n) (some_same (for_some k (sorts_at e.variables order) t) s j)
            (free_for_some (λ y. y < n) k (sorts_at e.variables order) t
            (omega (arith, long, few))
            (subst (λ (m : ℕ). HasFree (OrBound (λ y. y < n) k m) t) (sym long)
            (free_premise theory.sig (OrBound (λ y. y < n) k (length order)) (number_from k order)
            numbered_in e t (λ x l. inl (omega (arith, l, count, many))) at)))

pub below_guards : (theory : RewriteTheory) → IsWellSorted theory → (f : ℕ) (info : SymInfo)
    → IsSymbol theory.sig f info → (n : ℕ) → 0 < n → length info.args.items ≤ n → (k : ℕ)
    (guards : List Guard) → after_guards k guards ≤ 2 ^ 64 → (s : Sentence)
    → guards_sentence theory.sig (equations_of theory f) k guards ≡ Some s → IsBelow n s
below_guards theory ok f info there n some many k [] few s tells =
    subst (IsBelow n) (some_same bottom s tells) tt
below_guards theory ok f info there n some many k (g ∷ gs) few s tells =
    go (guard_sentence theory.sig k g.order (slice_get (equations_of theory f) g.equation)) refl
    (guards_sentence theory.sig (equations_of theory f) (k + length g.order) gs) refl
    (below_guards theory ok f info there n some many (k + length g.order) gs few) tells
  where
    go : (o : Option Sentence)
        → guard_sentence theory.sig k g.order (slice_get (equations_of theory f) g.equation) ≡ o
        → (q : Option Sentence)
        → guards_sentence theory.sig (equations_of theory f) (k + length g.order) gs ≡ q
        → ((u : Sentence)
        → guards_sentence theory.sig (equations_of theory f) (k + length g.order) gs ≡ Some u
        → IsBelow n u)
        → both or o q ≡ Some s → IsBelow n s
    go None is q at rest h = absurd (cc)
    go (Some t) is None at rest h = absurd (cc)
    go (Some t) is (Some u) at rest h =
        subst (IsBelow n) (some_same (or t u) s h) (
          below_guard theory ok f info there n some many k g.order
              (omega (arith, few, after_more (k + length g.order) gs)) g.equation t is,
          rest u at,
        )
