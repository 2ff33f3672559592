-- The walk from a sort up to a sort above it.
use Rattle.std.proofs.Common.{◌≡◌, ℕ, zero, suc, ◌+◌, ◌<◌, ◌≤◌, ◌⊎◌, inl, inr, Contains, Bool}
use Rattle.std.proofs.Common.{true, false, List, [], ◌∷◌, ◌++◌, length, get_or, eq-eqb, refl}
use Rattle.std.proofs.Common.{sym, ◌∙◌, ap, subst, arith}
use Rattle.std.specs.Prelude.{◌==◌, ◌||◌, if◌then◌else◌}
use Rattle.std.proofs.lemmas.Bool.{false≢true, eqb-true}
use Rattle.rule_core.specs.Subsorts.{IsBelow, by_pair, by_chain, HasNoCycle, is_below}
use Rattle.rule_core.specs.SubsortPaths.{IsPath}
use Rattle.rule_core.specs.SubsortFields.{sort_pairs}
use Rattle.term_core.specs.declared.ids.SortId.{SortId}
use Rattle.rule_core.proofs.Belows.{is_below-true, true-is_below, either_true, true_left}
use Rattle.rule_core.proofs.Belows.{true_right}

-- the sort is b, or is below b
abbrev pub Reaches : List (ℕ × ℕ) → ℕ → ℕ → Type 0
Reaches pairs a b = (a ≡ b) ⊎ IsBelow pairs a b

-- the pair leads from the sort to b
abbrev pub Leads : List (ℕ × ℕ) → ℕ → ℕ → ℕ × ℕ → Type 0
Leads pairs from b pair = (pair.0 ≡ from) × Reaches pairs pair.1 b

leads_first : (pairs : List (ℕ × ℕ)) (from b : ℕ) → IsBelow pairs from b
    → (m : ℕ) × Contains pairs (from, m) × Reaches pairs m b
leads_first pairs from b (by_pair known) = (b, known, inl refl)
leads_first pairs from b (by_chain {b = m} known rest) = (m, known, inr rest)

-- some pair leads from a sort to each sort above it
pub some_leads : (pairs : List (ℕ × ℕ)) (from b n : ℕ) → IsBelow pairs from b → length pairs ≤ n
    → ((k : ℕ) → k < n → Leads pairs from b (get_or pairs k (0, 0)) → ⊥) → ⊥
some_leads pairs from b n below all none =
    let found : (m : ℕ) × Contains pairs (from, m) × Reaches pairs m b =
    leads_first pairs from b below in
    at found.0 found.1 found.2 where
      read : (ps : List (ℕ × ℕ)) (k : ℕ) (p d : ℕ × ℕ) → k < length ps → get_or ps k p ≡ p
          → get_or ps k d ≡ p
      read [] k p d lt is = absurd (omega (arith, lt))
      read (first ∷ ps) zero p d lt is = is
      read (first ∷ ps) (suc k) p d lt is = read ps k p d (omega (arith, lt)) is

      at : (m : ℕ) → Contains pairs (from, m) → Reaches pairs m b → ⊥
      at m (k, lt, is) leads =
          let there : get_or pairs k (0, 0) ≡ (from, m) = read pairs k (from, m) (0, 0) lt is in
          none k (omega (arith, lt, all)) (
            ap (λ (p : ℕ × ℕ). p.0) there,
            subst (λ (x : ℕ). Reaches pairs x b) (sym (ap (λ (p : ℕ × ℕ). p.1) there)) leads,
          )

-- the plain pair of a stored pair
pub entry_seen : (pairs : List (SortId × SortId)) (i : ℕ) (p : SortId × SortId) → i < length pairs
    → p ≡ get_or pairs i p → get_or (sort_pairs pairs) i (0, 0) ≡ (p.0.0, p.1.0)
entry_seen [] i p lt is = absurd (omega (arith, lt))
entry_seen (first ∷ pairs) zero p lt is = ap (λ (q : SortId × SortId). (q.0.0, q.1.0)) (sym is)
entry_seen (first ∷ pairs) (suc i) p lt is = entry_seen pairs i p (omega (arith, lt)) is

-- the number of the pairs that pass a test
abbrev pub counted : (ℕ × ℕ → Bool) → List (ℕ × ℕ) → ℕ
counted p [] = 0
counted p (x ∷ xs) = (if p x then 1 else 0) + counted p xs

-- the number of the pairs that go up from the sort or from a sort above it
abbrev pub pairs_above : List (ℕ × ℕ) → ℕ → ℕ
pairs_above pairs from = counted (λ (p : ℕ × ℕ). from == p.0 || is_below pairs from p.0) pairs

-- one more element, where the second test holds only if the first one holds
counted_step : (p q : ℕ × ℕ → Bool) (x : ℕ × ℕ) (xs : List (ℕ × ℕ)) → (q x ≡ true → p x ≡ true)
    → (t u : Bool) → q x ≡ t → p x ≡ u
    → counted q (x ∷ xs) + counted p xs ≤ counted p (x ∷ xs) + counted q xs
counted_step p q x xs more false false e f = rw (e, f) (omega arith)
counted_step p q x xs more false true e f = rw (e, f) (omega arith)
counted_step p q x xs more true false e f = absurd (false≢true (sym f ∙ more e))
counted_step p q x xs more true true e f = rw (e, f) (omega arith)

counted-le : (p q : ℕ × ℕ → Bool) (xs : List (ℕ × ℕ)) → ((x : ℕ × ℕ) → q x ≡ true → p x ≡ true)
    → counted q xs ≤ counted p xs
counted-le p q [] more = omega arith
counted-le p q (x ∷ xs) more =
    omega (arith, counted-le p q xs more, counted_step p q x xs (more x) (q x) (p x) refl refl)

-- a test that is stronger, and fails for one more element, counts less
counted-less : (p q : ℕ × ℕ → Bool) (xs : List (ℕ × ℕ)) (x : ℕ × ℕ)
    → ((y : ℕ × ℕ) → q y ≡ true → p y ≡ true) → Contains xs x → p x ≡ true → q x ≡ false
    → counted q xs < counted p xs
counted-less p q [] x more (k, lt, is) holds not = absurd (omega (arith, lt))
counted-less p q (y ∷ xs) x more (zero, lt, is) holds not =
    let here : p y ≡ true = ap p is ∙ holds in
    let there : q y ≡ false = ap q is ∙ not in
    rw (here, there) (omega (arith, counted-le p q xs more))
counted-less p q (y ∷ xs) x more (suc k, lt, is) holds not =
    omega (
      arith,
      counted-less p q xs x more (k, omega (arith, lt), is) holds not,
      counted_step p q y xs (more y) (q y) (p y) refl refl,
    )

-- each pair of the walk leaves fewer pairs above
pub pairs_above-less : (pairs : List (ℕ × ℕ)) (from next : ℕ) → HasNoCycle pairs
    → Contains pairs (from, next) → pairs_above pairs next < pairs_above pairs from
pairs_above-less pairs from next none pair =
    counted-less _ _ pairs (from, next) more pair
    (true_left (from == from) _ (eq-eqb from from refl)) no where
      up : (x : ℕ) → Reaches pairs next x → IsBelow pairs from x
      up x (inl same) = subst (λ (y : ℕ). IsBelow pairs from y) same (by_pair pair)
      up x (inr below) = by_chain pair below

      told : (x : ℕ) → ((next == x) ≡ true) ⊎ (is_below pairs next x ≡ true) → Reaches pairs next x
      told x (inl t) = inl (eqb-true next x t)
      told x (inr t) = inr (is_below-true pairs next x t)

      more : (y : ℕ × ℕ) → (next == y.0 || is_below pairs next y.0) ≡ true
          → (from == y.0 || is_below pairs from y.0) ≡ true
      more y t =
          true_right (from == y.0) _
          (true-is_below pairs from y.0 (up y.0 (told y.0 (either_true _ _ t))))

      unless : (t : Bool) → (next == from || is_below pairs next from) ≡ t
          → (next == from || is_below pairs next from) ≡ false
      unless false e = e
      unless true e = absurd (none from (up from (told from (either_true _ _ e))))

      no : (next == from || is_below pairs next from) ≡ false
      no = unless _ refl

-- the sorts of a walk so far: only the first one, or a path
abbrev pub IsWalk : List (ℕ × ℕ) → ℕ → ℕ → List ℕ → Type 0
IsWalk pairs a last sorts = ((last ≡ a) × (sorts ≡ a ∷ [])) ⊎ IsPath pairs a last sorts

pub IsPath-append : (pairs : List (ℕ × ℕ)) (a last next : ℕ) (sorts : List ℕ)
    → IsPath pairs a last sorts → Contains pairs (last, next)
    → IsPath pairs a next (sorts ++ next ∷ [])
IsPath-append pairs a last next [] path pair = absurd path
IsPath-append pairs a last next (s ∷ []) path pair = absurd path
IsPath-append pairs a last next (s ∷ (t ∷ [])) (first, second, known) pair =
    let P : ℕ → Type 0 = λ x. Contains pairs (a, x) in
    let Q : ℕ → Type 0 = λ x. Contains pairs (x, next) in
    (first, subst P (sym second) known, (refl, refl, subst Q (sym second) pair))
IsPath-append pairs a last next (s ∷ (t ∷ (u ∷ sorts))) (first, known, rest) pair =
    (first, known, IsPath-append pairs t last next (t ∷ (u ∷ sorts)) rest pair)

pub IsWalk-append : (pairs : List (ℕ × ℕ)) (a last next : ℕ) (sorts : List ℕ)
    → IsWalk pairs a last sorts → Contains pairs (last, next)
    → IsPath pairs a next (sorts ++ next ∷ [])
IsWalk-append pairs a last next sorts (inl start) pair =
    let P : ℕ → Type 0 = λ x. Contains pairs (x, next) in
    let Q : List ℕ → Type 0 = λ ss. IsPath pairs a next (ss ++ next ∷ []) in
    subst Q (sym start.1) (refl, refl, subst P start.0 pair)
IsWalk-append pairs a last next sorts (inr path) pair =
    IsPath-append pairs a last next sorts path pair

-- a walk that has reached another sort is a path
pub IsWalk-ends : (pairs : List (ℕ × ℕ)) (a last b : ℕ) (sorts : List ℕ) → HasNoCycle pairs
    → IsBelow pairs a b → last ≡ b → IsWalk pairs a last sorts → IsPath pairs a b sorts
IsWalk-ends pairs a last b sorts none below there (inl start) =
    let P : ℕ → Type 0 = λ x. IsBelow pairs a x in
    absurd (none a (subst P (sym there ∙ start.0) below))
IsWalk-ends pairs a last b sorts none below there (inr path) =
    let P : ℕ → Type 0 = λ x. IsPath pairs a x sorts in subst P there path
