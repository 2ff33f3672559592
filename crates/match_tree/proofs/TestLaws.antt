-- The index of a head among heads, and its place.
use Rattle.std.proofs.Common.{◌≡◌, ◌+◌, ◌<◌, ◌≤◌, ℕ, suc, Bool, true, false, List, [], ◌∷◌}
use Rattle.std.proofs.Common.{length, map, Option, Some, None, slice_get, nat_lt, refl, sym, ◌∙◌}
use Rattle.std.proofs.Common.{ap}
use Rattle.std.proofs.Common.{arith, get_or}
use Rattle.std.specs.Prelude.{not, if◌then◌else◌}
use Rattle.std.specs.List.{position, position_or_len}
use Rattle.std.specs.Option.{unwrap_or}
use Rattle.std.proofs.lemmas.Bool.{false≢true, ltb-true, ltb-false}
use Rattle.std.proofs.lemmas.Option.{slice_get_read}
use Rattle.pat_matrix.specs.Heads.{PlainHead, head_eq}
use Rattle.pat_matrix.specs.HeadView.{head_of}
use Rattle.pat_matrix.specs.declared.heads.Head.{Head}
use Rattle.pat_matrix.proofs.HeadLaws.{head_eq-true, head_eq-same}
use Rattle.match_tree.specs.Walking.{find_place}

pub head_eq-turned : (g h : PlainHead) (b : Bool) → head_eq g h ≡ b → head_eq h g ≡ b
head_eq-turned g h true e =
    ap (λ (k : PlainHead). head_eq h k) (head_eq-true g h e) ∙ head_eq-same h
head_eq-turned g h false e = told (head_eq h g) refl where
  told : (c : Bool) → head_eq h g ≡ c → head_eq h g ≡ false
  told false is = is
  told true is =
      absurd (false≢true (sym e
      ∙ ap (λ (k : PlainHead). head_eq g k) (head_eq-true h g is) ∙ head_eq-same g))

-- the place that an index among the heads leads to
abbrev PlaceAt : List Head → List ℕ → PlainHead → ℕ → Type 0
PlaceAt ks js g n =
    (n < length ks → slice_get js n ≡ find_place (map head_of ks) js g)
    × (length ks ≤ n → find_place (map head_of ks) js g ≡ None)

place_step : (k : Head) (ks : List Head) (j : ℕ) (js : List ℕ) (g : PlainHead) (n : ℕ) (b : Bool)
    → head_eq g (head_of k) ≡ b → PlaceAt ks js g n
    → PlaceAt (k ∷ ks) (j ∷ js) g (if not b then 1 + n else 0)
place_step k ks j js g n true is rest =
    (λ lt. rw (head_eq-turned g (head_of k) true is) refl, λ past. absurd (omega arith))
place_step k ks j js g n false is rest =
    let next : 1 + n ≡ suc n = omega arith in
    rw next (
      λ lt. rw (head_eq-turned g (head_of k) false is) (rest.0 (omega arith)),
      λ past. rw (head_eq-turned g (head_of k) false is) (rest.1 (omega arith)),
    )

place_at : (ks : List Head) (js : List ℕ) (g : PlainHead) → length js ≡ length ks
    → PlaceAt ks js g (position_or_len (λ (k : Head). head_eq g (head_of k)) ks)
place_at [] js g count = (λ lt. absurd (omega arith), λ past. refl)
place_at (k ∷ ks) [] g count = absurd (omega arith)
place_at (k ∷ ks) (j ∷ js) g count =
    place_step k ks j js g (position_or_len (λ (c : Head). head_eq g (head_of c)) ks)
    (head_eq g (head_of k)) refl (place_at ks js g (omega arith))

found_step : (n m : ℕ) (b : Bool) (o : Option ℕ) → nat_lt n m ≡ b
    → (if b then Some n else None) ≡ o → (i : ℕ) → o ≡ Some i → (i ≡ n) × (n < m)
found_step n m true o is e i there =
    let same : Some n ≡ Some i = e ∙ there in (cc, ltb-true n m is)
found_step n m false o is e i there =
    absurd (let no : None ≡ Some i = e ∙ there in let never : ⊥ = cc in never)

none_step : (n m : ℕ) (b : Bool) (o : Option ℕ) → nat_lt n m ≡ b
    → (if b then Some n else None) ≡ o → o ≡ None → m ≤ n
none_step n m true o is e none =
    absurd (let no : Some n ≡ None = e ∙ none in let never : ⊥ = cc in never)
none_step n m false o is e none = ltb-false n m is

pub next_found : (ks : List Head) (js : List ℕ) (g : PlainHead) (i j other : ℕ)
    → length js ≡ length ks → position (λ (k : Head). head_eq g (head_of k)) ks ≡ Some i
    → j ≡ get_or js i j → unwrap_or (find_place (map head_of ks) js g) other ≡ j
next_found ks js g i j other count is there =
    let at = place_at ks js g count in
    let n = found_step _ (length ks) _ _ refl refl i is in
    ap (λ (o : Option ℕ). unwrap_or o other)
    (sym (at.0 n.1) ∙ ap (slice_get js) (sym n.0)
    ∙ slice_get_read js (length js) i j refl
    (let same : i ≡ position_or_len (λ (k : Head). head_eq g (head_of k)) ks = n.0 in
    let within : position_or_len (λ (k : Head). head_eq g (head_of k)) ks < length ks = n.1 in
    omega arith) there)

pub next_other : (ks : List Head) (js : List ℕ) (g : PlainHead) (other : ℕ)
    → length js ≡ length ks → position (λ (k : Head). head_eq g (head_of k)) ks ≡ None
    → unwrap_or (find_place (map head_of ks) js g) other ≡ other
next_other ks js g other count is =
    let at = place_at ks js g count in
    ap (λ (o : Option ℕ). unwrap_or o other)
    (at.1 (none_step _ (length ks) _ _ refl refl is))
