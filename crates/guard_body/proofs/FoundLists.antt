-- Substitutions that match arguments, one after another, and bindings that differ.
use Rattle.std.proofs.Common.{◌≡◌, ◌≢◌, ◌⊎◌, inl, inr, ◌<◌, ◌≤◌, ◌+◌, ℕ, zero, suc, List, [], ◌∷◌}
use Rattle.std.proofs.Common.{◌++◌, length, get_or, Option, Some, None, slice_get, refl, sym, ◌∙◌}
use Rattle.std.proofs.Common.{ap, subst, arith, length-append}
use Rattle.std.specs.Prelude.{All}
use Rattle.std.proofs.lemmas.Option.{slice_get_within, get_or_from_slice_get, slice_get-get_or}
use Rattle.term_core.specs.Terms.{Tree}
use Rattle.term_core.specs.Patterns.{binding}
use Rattle.rule_core.specs.declared.signature.Signature.{Signature}
use Rattle.guard_body.specs.Arguments.{AreFound, AreMatched, AreOne, AreTwoFor, FindsArgument}
use Rattle.guard_body.specs.Arguments.{MatchesArgument, NoneMatchesArgument}
use Rattle.guard_body.specs.declared.arguments.Argument.{Argument}

none_some : {A : Type 0} (x : A) → None ≡ Some x → ⊥
none_some x e = let no : ⊥ = cc in no

some_same : {A : Type 0} (x y : A) → Some x ≡ Some y → x ≡ y
some_same x y e = cc

-- an item of a list with one more at its end
pushed : {A : Type 0} (xs : List A) (x y : A) (k : ℕ) → slice_get (xs ++ x ∷ []) k ≡ Some y
    → (slice_get xs k ≡ Some y) ⊎ ((x ≡ y) × (k ≡ length xs))
pushed [] x y zero there = inr (some_same x y there, refl)
pushed [] x y (suc k) there = absurd (none_some y there)
pushed (z ∷ xs) x y zero there = inl there
pushed {A} (z ∷ xs) x y (suc k) there = go (pushed xs x y k there)
  where
    go : (slice_get xs k ≡ Some y) ⊎ ((x ≡ y) × (k ≡ length xs))
        → (slice_get xs k ≡ Some y) ⊎ ((x ≡ y) × (suc k ≡ length (z ∷ xs)))
    go (inl old) = inl old
    go (inr (same, last)) = inr (same, ap suc last)

-- an item that was read
pub item_there : {A : Type 0} (xs : List A) (i : ℕ) (x : A) → i < length xs → x ≡ get_or xs i x
    → slice_get xs i ≡ Some x
item_there xs i x low is = slice_get-get_or xs i x low ∙ ap (λ (y : _). Some y) (sym is)

pub all_there : {A : Type 0} (P : A → Type 0) (xs : List A) (i : ℕ) (x : A) → All P xs
    → slice_get xs i ≡ Some x → P x
all_there P xs i x all there =
    subst P (get_or_from_slice_get xs i x x there) (all i x (slice_get_within xs i x there))

pub one_more : (sig : Signature) (sorts : List ℕ) (arguments : List Argument)
    (found new : List (List (Option Tree))) (i : ℕ) (a : Argument) (theta : List (Option Tree))
    → i < length arguments → a ≡ get_or arguments i a → length found ≡ i
    → AreMatched sig sorts arguments found → new ≡ found ++ theta ∷ []
    → MatchesArgument sig sorts a theta
    → (length new ≡ i + 1) × AreMatched sig sorts arguments new
one_more sig sorts arguments found new i a theta low is many matched more one = (
  ap (λ (xs : List (List (Option Tree))). length xs) more
      ∙ length-append found (theta ∷ []) ∙ omega (arith, many),
  λ k b sigma at there. go k b sigma at
      (pushed found theta sigma k
      (subst (λ (xs : List (List (Option Tree))). slice_get xs k ≡ Some sigma) more there)),
)
  where
    go : (k : ℕ) (b : Argument) (sigma : List (Option Tree)) → slice_get arguments k ≡ Some b
        → (slice_get found k ≡ Some sigma) ⊎ ((theta ≡ sigma) × (k ≡ length found))
        → MatchesArgument sig sorts b sigma
    go k b sigma at (inl old) = matched k b sigma at old
    go k b sigma at (inr (same, last)) =
        let here : slice_get arguments k ≡ Some a =
        ap (slice_get arguments) (last ∙ many) ∙ item_there arguments i a low is in
        let this : a ≡ b = some_same a b (sym here ∙ at) in
        subst (λ (c : Argument). MatchesArgument sig sorts c sigma) this
        (subst (λ (s : List (Option Tree)). MatchesArgument sig sorts a s) same one)

pub found_some : (sig : Signature) (sorts : List ℕ) (a : Argument)
    (o : Option (List (Option Tree))) (theta : List (Option Tree)) → o ≡ Some theta
    → FindsArgument sig sorts a o → MatchesArgument sig sorts a theta
found_some sig sorts a o theta is h = subst (FindsArgument sig sorts a) is h

pub found_none : (sig : Signature) (sorts : List ℕ) (a : Argument)
    (o : Option (List (Option Tree))) → o ≡ None → FindsArgument sig sorts a o
    → NoneMatchesArgument sig sorts a
found_none sig sorts a o is h = subst (FindsArgument sig sorts a) is h

-- the argument behind those that match does not
pub stops : (sig : Signature) (sorts : List ℕ) (arguments : List Argument)
    (found : List (List (Option Tree))) (i : ℕ) (a : Argument) → i < length arguments
    → a ≡ get_or arguments i a → length found ≡ i → AreMatched sig sorts arguments found
    → NoneMatchesArgument sig sorts a → AreFound sig sorts arguments found
stops sig sorts arguments found i a low is many matched none = record {
  within = omega (arith, many, low);
  matched = matched;
  next = λ b there.
      let here : slice_get arguments (length found) ≡ Some a =
      ap (slice_get arguments) many ∙ item_there arguments i a low is in
      subst (NoneMatchesArgument sig sorts) (some_same a b (sym here ∙ there)) none;
}

pub all_match : (sig : Signature) (sorts : List ℕ) (arguments : List Argument)
    (found : List (List (Option Tree))) (i : ℕ) → length arguments ≤ i → i ≤ length arguments
    → length found ≡ i → AreMatched sig sorts arguments found → AreFound sig sorts arguments found
all_match sig sorts arguments found i high low many matched = record {
  within = omega (arith, many, low);
  matched = matched;
  next = λ b there.
      absurd (omega (arith, many, high, slice_get_within arguments (length found) b there));
}

-- ---- bindings that differ

binding_past : (theta : List (Option Tree)) (x : ℕ) → length theta ≤ x → binding theta x ≡ None
binding_past [] x high = refl
binding_past (o ∷ theta) zero high = absurd (omega (arith, high))
binding_past (o ∷ theta) (suc x) high = binding_past theta x (omega (arith, high))

pub none_differ : (theta sigma : List (Option Tree)) (n : ℕ) → length theta ≤ n
    → ((x : ℕ) → x < n → AreTwoFor x theta sigma → ⊥) → (x : ℕ) → AreTwoFor x theta sigma → ⊥
none_differ theta sigma n all none x two = go (low_or_high x n)
  where
    low_or_high : (x n : ℕ) → (x < n) ⊎ (n ≤ x)
    low_or_high x zero = inr (omega arith)
    low_or_high zero (suc n) = inl (omega arith)
    low_or_high (suc x) (suc n) = more (low_or_high x n)
      where
        more : (x < n) ⊎ (n ≤ x) → (suc x < suc n) ⊎ (suc n ≤ suc x)
        more (inl low) = inl (omega (arith, low))
        more (inr high) = inr (omega (arith, high))

    go : (x < n) ⊎ (n ≤ x) → ⊥
    go (inl low) = none x low two
    go (inr high) =
        none_some two.first (sym (binding_past theta x (omega (arith, all, high))) ∙ two.is_first)

turned : (x : ℕ) (theta sigma : List (Option Tree)) → AreTwoFor x theta sigma
    → AreTwoFor x sigma theta
turned x theta sigma two = record {
  first = two.second;
  second = two.first;
  is_first = two.is_second;
  is_second = two.is_first;
  differ = λ same. two.differ (sym same);
}

not_itself : (x : ℕ) (theta : List (Option Tree)) → AreTwoFor x theta theta → ⊥
not_itself x theta two = two.differ (some_same two.first two.second (sym two.is_first ∙ two.is_second))

abbrev pub NoneBelow : List (List (Option Tree)) → ℕ → Type 0
NoneBelow found n =
    (i j x : ℕ) (theta sigma : List (Option Tree)) → i < n → j < i → slice_get found i ≡ Some theta
    → slice_get found j ≡ Some sigma → AreTwoFor x theta sigma → ⊥

abbrev pub NoneWith : List (List (Option Tree)) → ℕ → ℕ → Type 0
NoneWith found i n =
    (j x : ℕ) (theta sigma : List (Option Tree)) → j < n → slice_get found i ≡ Some theta
    → slice_get found j ≡ Some sigma → AreTwoFor x theta sigma → ⊥

under_or_last : (j n : ℕ) → j < n + 1 → (j < n) ⊎ (j ≡ n)
under_or_last j n low = go (j_is j n)
  where
    j_is : (j n : ℕ) → (j ≡ n) ⊎ (j ≢ n)
    j_is zero zero = inl refl
    j_is zero (suc n) = inr (λ e. omega (arith, e))
    j_is (suc j) zero = inr (λ e. omega (arith, e))
    j_is (suc j) (suc n) = more (j_is j n)
      where
        more : (j ≡ n) ⊎ (j ≢ n) → (suc j ≡ suc n) ⊎ (suc j ≢ suc n)
        more (inl same) = inl (ap suc same)
        more (inr other) = inr (λ e. other (omega (arith, e)))

    go : (j ≡ n) ⊎ (j ≢ n) → (j < n) ⊎ (j ≡ n)
    go (inl same) = inr same
    go (inr other) = inl (grind (arith, low, other))

pub with_next : (found : List (List (Option Tree))) (i n : ℕ) (theta sigma : List (Option Tree))
    → i < length found → theta ≡ get_or found i theta → n < length found
    → sigma ≡ get_or found n sigma → NoneWith found i n
    → ((x : ℕ) → AreTwoFor x theta sigma → ⊥) → NoneWith found i (n + 1)
with_next found i n theta sigma low is low' is' before none j x t s under at there two =
    go (under_or_last j n under)
  where
    go : (j < n) ⊎ (j ≡ n) → ⊥
    go (inl less) = before j x t s less at there two
    go (inr last) =
        let first : theta ≡ t = some_same theta t (sym (item_there found i theta low is) ∙ at) in
        let second : sigma ≡ s =
        some_same sigma s (sym (item_there found n sigma low' is') ∙ ap (slice_get found) (sym last)
        ∙ there) in
        none x (subst (λ (r : List (Option Tree)). AreTwoFor x r sigma) (sym first)
        (subst (λ (r : List (Option Tree)). AreTwoFor x t r) (sym second) two))

pub below_next : (found : List (List (Option Tree))) (i n : ℕ) → i ≤ n → NoneBelow found i
    → NoneWith found i n → NoneBelow found (i + 1)
below_next found i n high before with_all k j x t s under less at there two =
    go (under_or_last k i under)
  where
    go : (k < i) ⊎ (k ≡ i) → ⊥
    go (inl lower) = before k j x t s lower less at there two
    go (inr last) =
        with_all j x t s (omega (arith, less, last, high)) (ap (slice_get found) (sym last) ∙ at)
        there two

pub all_one : (found : List (List (Option Tree))) (n : ℕ) → length found ≤ n → NoneBelow found n
    → AreOne found
all_one found n high none i j x t s at there two = go (order i j)
  where
    order : (i j : ℕ) → (j < i) ⊎ ((i ≡ j) ⊎ (i < j))
    order zero zero = inr (inl refl)
    order zero (suc j) = inr (inr (omega arith))
    order (suc i) zero = inl (omega arith)
    order (suc i) (suc j) = more (order i j)
      where
        more : (j < i) ⊎ ((i ≡ j) ⊎ (i < j))
            → (suc j < suc i) ⊎ ((suc i ≡ suc j) ⊎ (suc i < suc j))
        more (inl low) = inl (omega (arith, low))
        more (inr (inl same)) = inr (inl (ap suc same))
        more (inr (inr high)) = inr (inr (omega (arith, high)))

    go : (j < i) ⊎ ((i ≡ j) ⊎ (i < j)) → ⊥
    go (inl less) =
        none i j x t s (omega (arith, slice_get_within found i t at, high)) less at there two
    go (inr (inl same)) =
        let one : t ≡ s = some_same t s (sym at ∙ ap (slice_get found) same ∙ there) in
        not_itself x t (subst (AreTwoFor x t) (sym one) two)
    go (inr (inr more)) =
        none j i x s t (omega (arith, slice_get_within found j s there, high)) more there at
        (turned x t s two)

pub is_none : {A : Type 0} (o : Option A) → ((x : A) → o ≡ Some x → ⊥) → o ≡ None
is_none None not = refl
is_none (Some x) not = absurd (not x refl)

pub item_holds : {A : Type 0} (P : A → Type 0) (xs : List A) (i : ℕ) (x : A) → i < length xs
    → x ≡ get_or xs i x → All P xs → P x
item_holds P xs i x low is all = subst P (sym is) (all i x low)
