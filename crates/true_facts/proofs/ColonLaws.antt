-- The last colon of a text.
use Rattle.std.proofs.Common.{◌≡◌, ◌≢◌, ◌<◌, ℕ, List, [], ◌∷◌, ◌++◌, length, drop, get_or}
use Rattle.std.proofs.Common.{Option, Some, None, Bor, MatchOption, refl, sym, ◌∙◌, ap, arith}
use Rattle.std.proofs.Common.{length-append}
use Rattle.std.specs.Str.Pattern.{RFindsChar, SplitsAroundMatch}
use Rattle.std.proofs.lemmas.List.{get_or_at, take-append-drop}
use Rattle.std.proofs.lemmas.Str.Pattern.{NoCharPasses-char, drop_at_char}
use Rattle.true_facts.specs.Digits.{HasNoColon}

colon_inside : (bs x y : List ℕ) → bs ≡ x ++ 58 ∷ y
    → ((i : ℕ) → i < length bs → get_or bs i 0 ≢ 58) → ⊥
colon_inside bs x y is none =
    none (length x) (omega (arith, ap length is, length-append x (58 ∷ y)))
    (ap (λ (l : List ℕ). get_or l (length x) 0) is ∙ get_or_at x 58 y 0 (length x) refl)

pub last_colon : (bs : List ℕ) (r : Option (Bor (List ℕ) × Bor (List ℕ)))
    → MatchOption r (RFindsChar 58 bs None)
    (λ x. SplitsAroundMatch (RFindsChar 58) bs x.0.now x.1.now)
    → MatchOption r ((x y : List ℕ) → bs ≢ x ++ 58 ∷ y)
    (λ x. (bs ≡ x.0.now ++ 58 ∷ x.1.now) × HasNoColon x.1.now)
last_colon bs None h =
    λ x y is. colon_inside bs x y is (λ i low. NoCharPasses-char 58 bs i h (omega arith) low)
last_colon bs (Some (front, back)) (i, j, (none, at), is_front, is_back, order, first, second) = (
  sym (take-append-drop i bs)
      ∙ ap (λ (l : List ℕ). l ++ drop i bs) (sym is_front)
      ∙ ap (λ (l : List ℕ). front.now ++ l) (drop_at_char 58 bs i j at (omega arith)
      ∙ ap (λ (l : List ℕ). 58 ∷ l) (sym is_back)),
  λ k low e. NoCharPasses-char 58 (drop j bs) k none (omega arith)
      (omega (arith, ap length is_back)) (ap (λ (l : List ℕ). get_or l k 0) (sym is_back) ∙ e),
)

-- two texts that are the same have the same parts, if the last parts have no colon
pub same_parts : (x y v w : List ℕ) → x ++ 58 ∷ v ≡ y ++ 58 ∷ w → HasNoColon v → HasNoColon w
    → (x ≡ y) × (v ≡ w)
same_parts [] [] v w is hv hw = (refl, cc)
same_parts [] (b ∷ y) v w is hv hw =
    let rest : v ≡ y ++ 58 ∷ w = cc in absurd (colon_inside v y w rest hv)
same_parts (a ∷ x) [] v w is hv hw =
    let rest : w ≡ x ++ 58 ∷ v = cc in absurd (colon_inside w x v rest hw)
same_parts (a ∷ x) (b ∷ y) v w is hv hw =
    let first : a ≡ b = cc in
    let rest : x ++ 58 ∷ v ≡ y ++ 58 ∷ w = cc in
    let p : (x ≡ y) × (v ≡ w) = same_parts x y v w rest hv hw in
    (ap (λ (l : List ℕ). a ∷ l) p.0 ∙ ap (λ (c : ℕ). c ∷ y) first, p.1)
