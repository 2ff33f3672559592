-- Positions in lists of texts.
use Rattle.std.proofs.Common.{◌≡◌, ℕ, ◌+◌, zero, suc, Bool, true, false, cond, List, [], ◌∷◌}
use Rattle.std.proofs.Common.{refl, ap, arith}
use Rattle.std.specs.Prelude.{Option, Some, None, slice_get, ◌||◌, bytes_eq}
use Rattle.std.specs.List.{position_from}
use Rattle.std.proofs.lemmas.Slice.Eq.{bytes_eq-Decides}
use Rattle.mm_text.specs.Bytes.{Token, has_token, has_repeated}

or_none : (a b : Bool) → (a || b) ≡ false → (a ≡ false) × (b ≡ false)
or_none true b h = let no : ⊥ = cc in absurd no
or_none false b h = (refl, h)

-- what is found passes the test
abbrev pub Placed : {X : Type 0} → (X → Bool) → List X → Option ℕ → ℕ → Type 0
Placed {X} test xs None i = (k : ℕ) (x : X) → slice_get xs k ≡ Some x → test x ≡ true → ⊥
Placed {X} test xs (Some n) i =
    (k : ℕ) × ((n ≡ i + k) × ((x : X) × ((slice_get xs k ≡ Some x) × (test x ≡ true))))

pub placed : {X : Type 0} (test : X → Bool) (xs : List X) (i : ℕ)
    → Placed test xs (position_from test i xs) i
placed test [] i = λ k x there is. let no : ⊥ = cc in absurd no
placed {X} test (x ∷ xs) i =
    go (test x) (position_from test (i + 1) xs) refl (placed test xs (i + 1))
  where
    go : (t : Bool) (o : Option ℕ) → test x ≡ t → Placed test xs o (i + 1)
        → Placed test (x ∷ xs) (cond t (Some i) o) i
    go true o is rest = (0, (omega arith, (x, (refl, is))))
    go false None is rest = none
      where
        none : (k : ℕ) (y : X) → slice_get (x ∷ xs) k ≡ Some y → test y ≡ true → ⊥
        none zero y there passes = let same : x ≡ y = cc in let no : ⊥ = cc in no
        none (suc k) y there passes = rest k y there passes
    go false (Some n) is rest = (suc rest.0, (omega (arith, rest.1.0), rest.1.1))

has_token-at : (xs : List Token) (i : ℕ) (x : Token) → slice_get xs i ≡ Some x
    → has_token xs x ≡ true
has_token-at [] i x there = let no : ⊥ = cc in absurd no
has_token-at (y ∷ xs) zero x there =
    let same : y ≡ x = cc in
    let here : bytes_eq y x ≡ true = (bytes_eq-Decides y x).1 same in rw here refl
has_token-at (y ∷ xs) (suc i) x there = second (bytes_eq y x) (has_token-at xs i x there)
  where
    second : (b : Bool) → has_token xs x ≡ true → (b || has_token xs x) ≡ true
    second true h = refl
    second false h = h

-- in a list without repetition each token has one place
pub once : (xs : List Token) (i j : ℕ) (x : Token) → has_repeated xs ≡ false
    → slice_get xs i ≡ Some x → slice_get xs j ≡ Some x → i ≡ j
once [] i j x differ one other = let no : ⊥ = cc in absurd no
once (y ∷ xs) zero zero x differ one other = refl
once (y ∷ xs) zero (suc j) x differ one other =
    let same : y ≡ x = cc in
    let twice : has_token xs y ≡ true = rw same (has_token-at xs j x other) in
    let first : has_token xs y ≡ false = (or_none (has_token xs y) (has_repeated xs) differ).0 in
    let no : ⊥ = cc in absurd no
once (y ∷ xs) (suc i) zero x differ one other =
    let same : y ≡ x = cc in
    let twice : has_token xs y ≡ true = rw same (has_token-at xs i x one) in
    let first : has_token xs y ≡ false = (or_none (has_token xs y) (has_repeated xs) differ).0 in
    let no : ⊥ = cc in absurd no
once (y ∷ xs) (suc i) (suc j) x differ one other =
    ap suc (once xs i j x (or_none (has_token xs y) (has_repeated xs) differ).1 one other)
