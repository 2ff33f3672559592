-- A list of bytes is cut at the first such byte.
use Rattle.std.proofs.Common.{◌≡◌, ℕ, zero, suc, ◌+◌, ◌-◌, ◌<◌, ◌==◌, true, false, Bool, List, []}
use Rattle.std.proofs.Common.{◌∷◌, length, take, drop, Some, None, refl, sym, ◌∙◌, ap, arith, subst}
use Rattle.std.proofs.Common.{add-one}
use Rattle.std.specs.Prelude.{option_map, Option}
use Rattle.std.proofs.lemmas.List.{take_all, length-drop}
use Rattle.memchr.specs.Find.{Passes, Nowhere, is_byte}
use Rattle.hint_file.specs.HintLines.{cut_at}

is_false : (t : Bool) → (t ≡ true → ⊥) → t ≡ false
is_false t never = by t refl where
  by : (u : Bool) → t ≡ u → t ≡ false
  by true is = absurd (never is)
  by false is = is

found : (b : ℕ) (xs : List ℕ) (k : ℕ) → k < length xs → Nowhere (Passes (is_byte b) xs) 0 k
    → Passes (is_byte b) xs k → cut_at b xs ≡ Some (take k xs, drop (suc k) xs)
found b [] k lt before at = absurd (omega arith)
found b (x ∷ xs) zero lt before at = rw at refl
found b (x ∷ xs) (suc k) lt before at =
    let no : (x == b) ≡ false = is_false (x == b) (before 0 (omega arith) (omega arith)) in
    rw no (ap (λ o. option_map (λ (p : List ℕ × List ℕ). (x ∷ p.0, p.1)) o) (found b xs k
    (omega arith) (λ j low below. before (suc j) (omega arith) (omega arith)) at))

pub cut_nowhere : (b : ℕ) (xs : List ℕ) → Nowhere (Passes (is_byte b) xs) 0 (length xs)
    → cut_at b xs ≡ None
cut_nowhere b [] none = refl
cut_nowhere b (x ∷ xs) none =
    let no : (x == b) ≡ false = is_false (x == b) (none 0 (omega arith) (omega arith)) in
    rw no (ap (λ o. option_map (λ (p : List ℕ × List ℕ). (x ∷ p.0, p.1)) o) (cut_nowhere b xs
    (λ j low below. none (suc j) (omega arith) (omega arith))))

pub cut_found : (b : ℕ) (xs : List ℕ) (k : ℕ) → k < length xs
    → Nowhere (Passes (is_byte b) xs) 0 k → Passes (is_byte b) xs k
    → cut_at b xs ≡ Some (take k xs, take (length xs - (k + 1)) (drop (k + 1) xs))
cut_found b xs k lt before at =
    let whole : take (length xs - (k + 1)) (drop (k + 1) xs) ≡ drop (k + 1) xs =
    take_all (length xs - (k + 1)) (drop (k + 1) xs) (omega (arith, length-drop (k + 1) xs)) in
    found b xs k lt before at
    ∙ ap (λ (n : ℕ). Some (take k xs, drop n xs)) (sym (add-one k))
    ∙ ap (λ (u : List ℕ). Some (take k xs, u)) (sym whole)

-- the option has parts that are shorter together
abbrev LeavesLess : ℕ → Option (List ℕ × List ℕ) → Type 0
LeavesLess n None = Unit {0}
LeavesLess n (Some p) = length p.0 + length p.1 < n

put_before : (n x : ℕ) (o : Option (List ℕ × List ℕ)) → LeavesLess n o
    → LeavesLess (suc n) (option_map (λ (p : List ℕ × List ℕ). (x ∷ p.0, p.1)) o)
put_before n x None less = tt
put_before n x (Some p) less = omega arith

cut_here : (b x : ℕ) (xs : List ℕ) (t : Bool) → (x == b) ≡ t
    → LeavesLess (length xs) (cut_at b xs) → LeavesLess (length (x ∷ xs)) (cut_at b (x ∷ xs))
cut_here b x xs true is less = rw is (omega arith)
cut_here b x xs false is less = rw is (put_before (length xs) x (cut_at b xs) less)

leaves_less : (b : ℕ) (xs : List ℕ) → LeavesLess (length xs) (cut_at b xs)
leaves_less b [] = tt
leaves_less b (x ∷ xs) = cut_here b x xs (x == b) refl (leaves_less b xs)

-- what stands before the first such byte, and what follows it, are shorter together
pub cut_shorter : (b : ℕ) (xs line more : List ℕ) → cut_at b xs ≡ Some (line, more)
    → length line + length more < length xs
cut_shorter b xs line more h = subst (LeavesLess (length xs)) h (leaves_less b xs)
