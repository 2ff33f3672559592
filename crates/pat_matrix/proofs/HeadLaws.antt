-- Tests of heads, and lists of heads.
use Rattle.std.proofs.Common.{◌≡◌, true, refl, eq-eqb}
use Rattle.std.proofs.lemmas.Bool.{eqb-true}
use Rattle.term_core.proofs.TreeTests.{Decides-value_eq}
use Rattle.rule_core.proofs.Belows.{both_true}
use Rattle.pat_matrix.specs.Heads.{PlainHead, of_value, of_constructor, of_injection, head_eq}

-- heads that the test says are the same are equal
pub head_eq-true : (h k : PlainHead) → head_eq h k ≡ true → h ≡ k
head_eq-true (of_value s v) (of_value r w) e =
    let parts = both_true _ _ e in
    let sorts : s ≡ r = eqb-true s r parts.0 in
    let values : v ≡ w = (Decides-value_eq v w).0 parts.1 in cc
head_eq-true (of_constructor f n) (of_constructor g m) e =
    let parts = both_true _ _ e in
    let symbols : f ≡ g = eqb-true f g parts.0 in
    let counts : n ≡ m = eqb-true n m parts.1 in cc
head_eq-true (of_injection a b) (of_injection c d) e =
    let parts = both_true _ _ e in
    let sources : a ≡ c = eqb-true a c parts.0 in
    let targets : b ≡ d = eqb-true b d parts.1 in cc
head_eq-true (of_value s v) (of_constructor g m) e = absurd (let no : ⊥ = cc in no)
head_eq-true (of_value s v) (of_injection c d) e = absurd (let no : ⊥ = cc in no)
head_eq-true (of_constructor f n) (of_value r w) e = absurd (let no : ⊥ = cc in no)
head_eq-true (of_constructor f n) (of_injection c d) e = absurd (let no : ⊥ = cc in no)
head_eq-true (of_injection a b) (of_value r w) e = absurd (let no : ⊥ = cc in no)
head_eq-true (of_injection a b) (of_constructor g m) e = absurd (let no : ⊥ = cc in no)

pub head_eq-same : (h : PlainHead) → head_eq h h ≡ true
head_eq-same (of_value s v) = rw (eq-eqb s s refl, (Decides-value_eq v v).1 refl) refl
head_eq-same (of_constructor f n) = rw (eq-eqb f f refl, eq-eqb n n refl) refl
head_eq-same (of_injection a b) = rw (eq-eqb a a refl, eq-eqb b b refl) refl
