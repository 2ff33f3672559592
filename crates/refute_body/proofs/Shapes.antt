-- The parts of implications and of conjunctions.
use Rattle.std.proofs.Common.{◌≡◌, subst}
use Rattle.std.specs.Prelude.{Result, Ok, Err, IfOk}
use Rattle.ml_pat.specs.Patterns.{Pattern, imp, and, not, member}
use Rattle.ml_kernel.specs.Theorems.{Theorem}
use Rattle.ml_derived.specs.Scopes.{Scope, IsOver, IsWithin}

pub imp_left : (p q r s : Pattern) → imp p q ≡ imp r s → p ≡ r
imp_left p q r s h = cc

pub imp_right : (p q r s : Pattern) → imp p q ≡ imp r s → q ≡ s
imp_right p q r s h = cc

pub and_left : (p q r s : Pattern) → and p q ≡ and r s → p ≡ r
and_left p q r s h = cc

pub and_right : (p q r s : Pattern) → and p q ≡ and r s → q ≡ s
and_right p q r s h = cc

pub member_left : (p q r s : Pattern) → member p q ≡ member r s → p ≡ r
member_left p q r s h = cc

pub member_right : (p q r s : Pattern) → member p q ≡ member r s → q ≡ s
member_right p q r s h = cc

pub not_same : (p q : Pattern) → not p ≡ not q → p ≡ q
not_same p q h = cc

-- two clauses on a result
pub if_ok_two : {T E : Type 0} {P Q R : T → Type 0} (r : Result T E) → ((x : T) → P x → Q x → R x)
    → IfOk r P → IfOk r Q → IfOk r R
if_ok_two (Ok x) f h k = f x h k
if_ok_two (Err e) f h k = tt

-- the parts of a conclusion `g -> b -> p & q`
pub parts_over : (s : Scope) (t : Theorem) (g b p q : Pattern) → IsWithin s t
    → t.conclusion ≡ imp g (imp b (and p q)) → IsOver s p × IsOver s q
parts_over s t g b p q within is =
    let over : IsOver s (imp g (imp b (and p q))) = subst (IsOver s) is within.conclusion in
    over.1.1
