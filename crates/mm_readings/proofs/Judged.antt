-- The judgements on patterns, as the rows of the header derive them.
use Rattle.std.proofs.Common.{◌≡◌, ℕ, Bool, true, false, Option, Some, None, option_map, refl, sym}
use Rattle.std.proofs.Common.{ap, ◌∙◌}
use Rattle.std.proofs.Common as std
use Rattle.std.specs.Prelude.{◌==◌, ◌||◌, if◌then◌else◌}
use Rattle.ml_pat.specs.Patterns.{Binary, Quantifier, Pattern, nullary, unary, binary, sorted}
use Rattle.ml_pat.specs.Patterns.{quantified, var, meta, constant}
use Rattle.ml_pat.specs.Judgements.{fresh, absent, both_parts, substituted}
use Rattle.ml_pat.proofs.LeafLaws.{both_true, split_true, not_true}
use Rattle.ml_pat.proofs.ReplacingLaws.{substituted-fresh}

-- a variable that does not occur is not free
pub fresh-absent : (x : ℕ) (p : Pattern) → absent x p ≡ true → fresh x p ≡ true
fresh-absent x (nullary c) h = refl
fresh-absent x (unary c p) h = fresh-absent x p h
fresh-absent x (binary c p q) h =
    let k : (absent x p ≡ true) × (absent x q ≡ true) = split_true (absent x p) (absent x q) h in
    both_true (fresh x p) (fresh x q) (fresh-absent x p k.0) (fresh-absent x q k.1)
fresh-absent x (sorted c p s) h = fresh-absent x p h
fresh-absent x (quantified c y s p) h =
    let k : (std.not (x == y) ≡ true) × (absent x p ≡ true) =
    split_true (std.not (x == y)) (absent x p) h in
    rw (not_true (x == y) k.0) (fresh-absent x p k.1)
fresh-absent x (var y) h = h
fresh-absent x (meta i) h = refl
fresh-absent x (constant c) h = refl

pub substituted-binary : (c : Binary) (p q u t r : Pattern) (x : ℕ) → substituted p x u ≡ Some t
    → substituted q x u ≡ Some r → substituted (binary c p q) x u ≡ Some (binary c t r)
substituted-binary c p q u t r x h k =
    ap (λ (o : Option Pattern). both_parts (binary c) o (substituted q x u)) h
    ∙ ap (λ (o : Option Pattern). both_parts (binary c) (Some t) o) k

inside : (c : Quantifier) (x y s : ℕ) (u p t : Pattern) (o : Option Pattern) (same is_fresh : Bool)
    → same ≡ false → fresh y u ≡ true → o ≡ Some t → (is_fresh ≡ true → t ≡ p)
    → (if same || is_fresh then Some (quantified c y s p)
    else (if fresh y u then option_map (quantified c y s) o else None))
    ≡ Some (quantified c y s t)
inside c x y s u p t o same true differ h k unchanged =
    rw (differ, unchanged refl) refl
inside c x y s u p t o same false differ h k unchanged = rw (differ, h, k) refl

-- below a quantifier of another variable that is not free in what is substituted
pub substituted-quantified : (c : Quantifier) (p u t : Pattern) (x y s : ℕ) → (x == y) ≡ false
    → fresh y u ≡ true → substituted p x u ≡ Some t
    → substituted (quantified c y s p) x u ≡ Some (quantified c y s t)
substituted-quantified c p u t x y s differ h k =
    inside c x y s u p t (substituted p x u) (x == y) (fresh x p) differ h k
    (λ f. some_same t p (sym k ∙ substituted-fresh x u p f))
  where
    some_same : (a b : Pattern) → Some a ≡ Some b → a ≡ b
    some_same a b e = cc
