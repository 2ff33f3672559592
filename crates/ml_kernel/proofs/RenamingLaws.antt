-- Axioms with renamed bound variables.
use Rattle.std.proofs.Common.{◌≡◌, ℕ, zero, suc, List, [], ◌∷◌, slice_get, slice_index_or, refl, sym}
use Rattle.std.proofs.Common.{ap}
use Rattle.std.specs.Prelude.{unwrap_or}
use Rattle.ml_pat.specs.Patterns.{Pattern, unary, binary, sorted, quantified}
use Rattle.ml_kernel.specs.Renamings.{renamed, Renames, by_place}
use Rattle.ml_pat.specs.declared.numbers.VarNo.{VarNo}
use Rattle.ml_kernel.specs.StepView.{numbers_of}

-- if no variable is renamed, the pattern does not change
pub renamed-none : (p : Pattern) → renamed (by_place []) p ≡ p
renamed-none (binary c p q) = rw (renamed-none p, renamed-none q) refl
renamed-none (unary c p) = ap (unary c) (renamed-none p)
renamed-none (sorted c p s) = ap (λ (q : Pattern). sorted c q s) (renamed-none p)
renamed-none (quantified c x s p) = ap (quantified c x s) (renamed-none p)
renamed-none p = refl

pub renames-none : (p : Pattern) → Renames (by_place []) p p
renames-none p = record {
  result = sym (renamed-none p);
  one_to_one = λ x y h k same. same;
  keeps_free = λ x h. refl;
}

-- the variable that is read at a place
pub renamed_or : (new : List VarNo) (k : ℕ) (y : VarNo)
    → (unwrap_or (slice_get new k) y).0 ≡ slice_index_or (numbers_of new) k y.0
renamed_or [] k y = refl
renamed_or (x ∷ xs) zero y = refl
renamed_or (x ∷ xs) (suc k) y = renamed_or xs k y
