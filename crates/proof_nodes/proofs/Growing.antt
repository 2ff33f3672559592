-- Lists that grow at their end, and what stays in them.
use Rattle.std.proofs.Common.{◌≡◌, ℕ, zero, suc, ◌+◌, ◌<◌, ◌≤◌, ◌⊎◌, inl, inr, List, [], ◌∷◌, ◌++◌}
use Rattle.std.proofs.Common.{length, map, Some, refl, sym, ap, ◌∙◌, subst}
use Rattle.std.proofs.Common.{append-nil, append_assoc, arith}
use Rattle.std.specs.Prelude.{slice_get}
use Rattle.std.proofs.lemmas.List.{length-append}
use Rattle.proof_nodes.specs.Tables.{grown, AllBelow}

pub slice_get-left : {A : Type 0} (xs ys : List A) (i : ℕ) (x : A) → slice_get xs i ≡ Some x
    → slice_get (xs ++ ys) i ≡ Some x
slice_get-left [] ys i x h = absurd (let z : ⊥ = cc in z)
slice_get-left (y ∷ xs) ys zero x h = h
slice_get-left (y ∷ xs) ys (suc i) x h = slice_get-left xs ys i x h

pub slice_get-seam : {A : Type 0} (xs : List A) (x : A) (ys : List A)
    → slice_get (xs ++ x ∷ ys) (length xs) ≡ Some x
slice_get-seam [] x ys = refl
slice_get-seam (y ∷ xs) x ys = slice_get-seam xs x ys

-- an element of a list and one more
pub slice_get-push : {A : Type 0} (xs : List A) (x : A) (i : ℕ) (y : A)
    → slice_get (xs ++ x ∷ []) i ≡ Some y
    → (slice_get xs i ≡ Some y) ⊎ ((i ≡ length xs) × (x ≡ y))
slice_get-push [] x zero y h = inr (refl, cc)
slice_get-push [] x (suc i) y h = absurd (let z : ⊥ = cc in z)
slice_get-push (z ∷ xs) x zero y h = inl h
slice_get-push {A} (z ∷ xs) x (suc i) y h = by (slice_get-push xs x i y h)
  where
    by : (slice_get xs i ≡ Some y) ⊎ ((i ≡ length xs) × (x ≡ y))
        → (slice_get xs i ≡ Some y) ⊎ ((suc i ≡ suc (length xs)) × (x ≡ y))
    by (inl p) = inl p
    by (inr p) = inr (ap suc p.0, p.1)

pub slice_get-map-some : {A B : Type 0} (f : A → B) (xs : List A) (i : ℕ) (y : B)
    → slice_get (map f xs) i ≡ Some y → (x : A) × (slice_get xs i ≡ Some x) × (f x ≡ y)
slice_get-map-some f [] i y h = absurd (let z : ⊥ = cc in z)
slice_get-map-some f (x ∷ xs) zero y h = (x, refl, cc)
slice_get-map-some f (x ∷ xs) (suc i) y h = slice_get-map-some f xs i y h

module _ {A X : Type 0} (step : List A → X → A) where
  pub grown-push : (made : List A) (xs : List X) (x : X)
      → grown step made (xs ++ x ∷ []) ≡ grown step made xs ++ step (grown step made xs) x ∷ []
  grown-push made [] x = refl
  grown-push made (y ∷ xs) x = grown-push (made ++ step made y ∷ []) xs x

  pub length-grown : (made : List A) (xs : List X)
      → length (grown step made xs) ≡ length made + length xs
  length-grown made [] = omega arith
  length-grown made (x ∷ xs) =
      let e : length (made ++ step made x ∷ []) ≡ length made + 1 =
      length-append made (step made x ∷ []) in
      omega (arith, e, length-grown (made ++ step made x ∷ []) xs)

  pub grown-extends : (made : List A) (xs : List X)
      → (more : List A) × (grown step made xs ≡ made ++ more)
  grown-extends made [] = ([], sym (append-nil made))
  grown-extends made (x ∷ xs) =
      let r : (more : List A) × (grown step (made ++ step made x ∷ []) xs
      ≡ (made ++ step made x ∷ []) ++ more) =
      grown-extends (made ++ step made x ∷ []) xs in (
        step made x ∷ r.0,
        r.1 ∙ append_assoc made (step made x ∷ []) r.0,
      )

  -- an element is what its step makes of the whole list, if the step sees only elements before it
  pub grown-at : (Fits : ℕ → X → Type 0)
      → ((made more : List A) (x : X) → Fits (length made) x
      → step (made ++ more) x ≡ step made x)
      → (made : List A) (xs : List X) (i n : ℕ) (x : X) → n ≡ length made + i → Fits n x
      → slice_get xs i ≡ Some x
      → slice_get (grown step made xs) n ≡ Some (step (grown step made xs) x)
  grown-at Fits stable made [] i n x is fits h = absurd (let z : ⊥ = cc in z)
  grown-at Fits stable made (y ∷ xs) zero n x is fits h =
      let same : y ≡ x = cc in
      let at : n ≡ length made = omega (arith, is) in
      let r : (more : List A) × (grown step (made ++ step made y ∷ []) xs
      ≡ (made ++ step made y ∷ []) ++ more) =
      grown-extends (made ++ step made y ∷ []) xs in
      let whole : grown step made (y ∷ xs) ≡ made ++ (step made y ∷ r.0) =
      r.1 ∙ append_assoc made (step made y ∷ []) r.0 in
      let there : slice_get (made ++ (step made y ∷ r.0)) (length made) ≡ Some (step made y) =
      slice_get-seam made (step made y) r.0 in
      let kept : step (made ++ (step made y ∷ r.0)) x ≡ step made x =
      stable made (step made y ∷ r.0) x (subst (λ m. Fits m x) at fits) in
      ap (λ m. slice_get (grown step made (y ∷ xs)) m) at
      ∙ ap (λ ms. slice_get ms (length made)) whole
      ∙ there ∙ ap (λ z. Some (step made z)) same
      ∙ ap (λ a. Some a) (sym kept)
      ∙ ap (λ ms. Some (step ms x)) (sym whole)
  grown-at Fits stable made (y ∷ xs) (suc i) n x is fits h =
      let e : length (made ++ step made y ∷ []) ≡ length made + 1 =
      length-append made (step made y ∷ []) in
      grown-at Fits stable (made ++ step made y ∷ []) xs i n x (omega (arith, is, e)) fits h

-- numbers below a bound

pub AllBelow-append : (bound : ℕ) (xs ys : List ℕ) → AllBelow bound xs → AllBelow bound ys
    → AllBelow bound (xs ++ ys)
AllBelow-append bound [] ys h k = k
AllBelow-append bound (x ∷ xs) ys h k = (h.0, AllBelow-append bound xs ys h.1 k)

pub AllBelow-wider : (bound wider : ℕ) (xs : List ℕ) → bound ≤ wider → AllBelow bound xs
    → AllBelow wider xs
AllBelow-wider bound wider [] le h = h
AllBelow-wider bound wider (x ∷ xs) le h =
    let lt : x < bound = h.0 in
    (omega (arith, lt, le), AllBelow-wider bound wider xs le h.1)

pub AllBelow-at : (bound : ℕ) (xs : List ℕ) (i x : ℕ) → AllBelow bound xs
    → slice_get xs i ≡ Some x → x < bound
AllBelow-at bound [] i x h is = absurd (let z : ⊥ = cc in z)
AllBelow-at bound (y ∷ xs) zero x h is =
    let same : y ≡ x = cc in subst (λ n. n < bound) same h.0
AllBelow-at bound (y ∷ xs) (suc i) x h is = AllBelow-at bound xs i x h.1 is
