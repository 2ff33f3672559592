-- The parts of a theorem that is within a scope.
use Rattle.std.proofs.Common.{◌≡◌, sym, subst}
use Rattle.std.specs.Prelude.{Result, Ok, Err, IfOk}
use Rattle.ml_pat.specs.Patterns.{Pattern}
use Rattle.ml_kernel.specs.Theorems.{Theorem}
use Rattle.ml_derived.specs.Scopes.{Scope, IsOver, IsWithin}

pub if_ok : {T E : Type 0} {P Q : T → Type 0} (r : Result T E) → ((x : T) → P x → Q x) → IfOk r P
    → IfOk r Q
if_ok (Ok x) f h = f x h
if_ok (Err e) f h = tt

-- the conclusion of the theorem, as an equal pattern
pub concluded : (s : Scope) (t : Theorem) (p : Pattern) → IsWithin s t → t.conclusion ≡ p
    → IsOver s p
concluded s t p within is = subst (IsOver s) is within.conclusion

-- a pattern that was made, as an equal pattern
pub made : (s : Scope) (q p : Pattern) → IsOver s p → q ≡ p → IsOver s q
made s q p over is = subst (IsOver s) (sym is) over
