-- The variables of texts, each pair of them once. Only clauses of private functions cite these
-- definitions.
use Rattle.std.specs.Prelude.{◌≡◌, ℕ, suc, ◌<◌, Bool, true, not, ◌&&◌, nat_eq, List, [], ◌∷◌}
use Rattle.std.specs.Prelude.{◌++◌, length, take, drop, slice_get, slice_index_or, Some}
use Rattle.std.specs.List.{list_all}
use Rattle.std.specs.Ordering.{nat_cmp}
use Rattle.std.specs.BTreeMap.{get}
use Rattle.mm_database.specs.Proofs.{texts_apart}
use Rattle.mm_frame.specs.PlainFrames.{has_number}
use Rattle.mm_frame.specs.NumberedSteps.{NumberedPlace, numbers_apart}
use Rattle.mm_verify.specs.declared.notes.Notes.{Notes}
use Rattle.mm_verify.specs.declared.spreads.Spreads.{Spreads}
use Rattle.mm_verify.specs.Filling.{text_at}

-- each two elements pass a test, the earlier one as the first
abbrev pub each_pair : {X : Type 0} → (X → X → Bool) → List X → Bool
each_pair test [] = true
each_pair test (x ∷ xs) = list_all (test x) xs && each_pair test xs

-- the second list has exactly the variables of the text
abbrev pub HasVariables : NumberedPlace → List ℕ → List ℕ → Type 0
HasVariables p text variables =
    (n : ℕ) → has_number variables n ≡ (has_number text n && p.is_variable n)

abbrev pub is_variable_apart : NumberedPlace → ℕ → ℕ → Bool
is_variable_apart p x y = not (nat_eq x y) && p.apart x y

abbrev pub are_variables_apart : NumberedPlace → List ℕ → List ℕ → Bool
are_variables_apart p xs ys = list_all (λ x. list_all (is_variable_apart p x) ys) xs

-- a pair of lists as one list: the length of the first, and then both
abbrev pub written_pair : List ℕ → List ℕ → List ℕ
written_pair xs ys = length xs ∷ (xs ++ ys)

abbrev pub is_pair_apart : NumberedPlace → List ℕ → Bool
is_pair_apart p [] = true
is_pair_apart p (n ∷ ns) = are_variables_apart p (take n ns) (drop n ns)

-- each pair that is noted is kept apart
abbrev pub AreNoted : NumberedPlace → Notes → Type 0
AreNoted p notes = list_all (is_pair_apart p) notes.pairs ≡ true

-- what is known of entries is true: a list with the number at the place of an entry has the
-- variables of its text, and noted pairs of texts and of lists are kept apart
pub record AreKnown (p : NumberedPlace) (entries : List (List ℕ)) (s : Spreads) : Type 0 where
  pub room : length s.numbers.items ≡ length entries
  pub lists : (i k : ℕ) → slice_get s.numbers.items i ≡ Some (suc k) → k < length s.lists
  pub variables : (i k : ℕ) → slice_get s.numbers.items i ≡ Some (suc k)
      → HasVariables p (text_at entries i) (slice_index_or s.lists k [])
  pub tested : (k : ℕ) (pair : ℕ × ℕ) → get nat_cmp s.tested k ≡ Some pair
      → texts_apart (numbers_apart p) (text_at entries pair.0) (text_at entries pair.1) ≡ true
  pub noted : AreNoted p s.notes

-- it was found whether the texts of two places are kept apart, and what is known of the entries is
-- true
pub record IsTested (p : NumberedPlace) (entries : List (List ℕ)) (i j : ℕ) (found : Bool)
    (s : Spreads) : Type 0 where
  pub known : AreKnown p entries s
  pub is : found ≡ texts_apart (numbers_apart p) (text_at entries i) (text_at entries j)

-- what is known stays known
abbrev pub Keeps : Spreads → Spreads → Type 0
Keeps s t = (i k : ℕ) → slice_get s.numbers.items i ≡ Some (suc k)
    → slice_get t.numbers.items i ≡ Some (suc k)
