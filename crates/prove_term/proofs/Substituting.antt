-- Pattern variables substituted into sentences on a symbol, one after another.
use Rattle.std.proofs.Common.{◌≡◌, ◌<◌, ◌+◌, ℕ, zero, suc, Bool, true, false, List, [], ◌∷◌, Some}
use Rattle.std.proofs.Common.{length, refl, sym, ◌∙◌, ap, arith}
use Rattle.std.specs.Prelude.{◌==◌, ◌&&◌}
use Rattle.ml_pat.specs.Patterns.{Pattern, equal, ex, all, app, var, meta, constant}
use Rattle.ml_pat.specs.Judgements.{fresh, absent, IsAbsent, substituted}
use Rattle.ml_pat.proofs.LeafLaws.{both_true}
use Rattle.ml_kernel.specs.Lemmas.{HasNoVariable}
use Rattle.ml_image.specs.Counted.{at_variables}
use Rattle.prove_term.specs.Schemas.{at_metas, totality_from}
use Rattle.prove_term.specs.Numbered.{all_from}

-- ---- a variable below others

differ : (x k : ℕ) → x < k → (x == k) ≡ false
differ x k h = grind (arith, h)

same : (x : ℕ) → (x == x) ≡ true
same x = grind arith

and_false : (a : Bool) → (a && false) ≡ false
and_false true = refl
and_false false = refl

free_in_variables : (m k x : ℕ) (h : Pattern) → fresh x h ≡ false
    → fresh x (at_variables h k m) ≡ false
free_in_variables zero k x h free = free
free_in_variables (suc m) k x h free = free_in_variables m (k + 1) x (app h (var k)) (rw free refl)

put_in_variables : (m k x : ℕ) (u h h' : Pattern) → x < k → substituted h x u ≡ Some h'
    → substituted (at_variables h k m) x u ≡ Some (at_variables h' k m)
put_in_variables zero k x u h h' low put = put
put_in_variables (suc m) k x u h h' low put =
    put_in_variables m (k + 1) x u (app h (var k)) (app h' (var k)) (omega (arith, low))
    (rw (put, differ x k low) refl)

free_in_closing : (rest : List ℕ) (k x : ℕ) (p : Pattern) → x < k → fresh x p ≡ false
    → fresh x (all_from k rest p) ≡ false
free_in_closing [] k x p low free = free
free_in_closing (s ∷ rest) k x p low free =
    rw (differ x k low) (free_in_closing rest (k + 1) x p (omega (arith, low)) free)

put_in_closing : (rest : List ℕ) (k x i : ℕ) (p p' : Pattern) → x < k → fresh x p ≡ false
    → substituted p x (meta i) ≡ Some p'
    → substituted (all_from k rest p) x (meta i) ≡ Some (all_from k rest p')
put_in_closing [] k x i p p' low free put = put
put_in_closing (s ∷ rest) k x i p p' low free put =
    let further : x < k + 1 = omega (arith, low) in
    rw (
      differ x k low,
      free_in_closing rest (k + 1) x p further free,
      put_in_closing rest (k + 1) x i p p' further free put,
    ) refl

put_in_metas : (n k x : ℕ) (u h : Pattern) → substituted h x u ≡ Some h
    → substituted (at_metas h k n) x u ≡ Some (at_metas h k n)
put_in_metas zero k x u h put = put
put_in_metas (suc n) k x u h put = put_in_metas n (k + 1) x u (app h (meta k)) (rw put refl)

pub at_metas-push : (n k : ℕ) (head : Pattern)
    → at_metas head k (suc n) ≡ app (at_metas head k n) (meta (k + n))
at_metas-push zero k head = ap (λ (x : ℕ). app head (meta x)) (omega arith)
at_metas-push (suc n) k head = at_metas-push n (k + 1) (app head (meta k))
    ∙ ap (λ (x : ℕ). app (at_metas (app head (meta k)) (k + 1) n) (meta x)) (omega arith)

-- substitution for a variable below n goes into `ex n (x:n = p)`, if the variable is free in p
put_in_some : (n sort i : ℕ) (p p' : Pattern) → i < n → fresh i p ≡ false
    → substituted p i (meta i) ≡ Some p'
    → substituted (ex n sort (equal (var n) p)) i (meta i) ≡ Some (ex n sort (equal (var n) p'))
put_in_some n sort i p p' low free put = rw (differ i n low, free, put) refl

free_in_some : (n sort i : ℕ) (p : Pattern) → i < n → fresh i p ≡ false
    → fresh i (ex n sort (equal (var n) p)) ≡ false
free_in_some n sort i p low free = rw (differ i n low, free) refl

-- the next variable becomes the pattern variable of its number
pub totality_from-next : (head i s : ℕ) (rest : List ℕ) (n sort : ℕ) → i < n
    → (p : Pattern) × (totality_from head i (s ∷ rest) n sort ≡ all i s p)
    × (substituted p i (meta i) ≡ Some (totality_from head (i + 1) rest n sort))
totality_from-next head i s rest n sort low =
    let before : Pattern = at_metas (constant head) 0 i in
    let inner : Pattern =
    at_variables (app (at_metas (constant head) 0 i) (var i)) (i + 1) (length rest) in
    let inner' : Pattern =
    at_variables (app (at_metas (constant head) 0 i) (meta i)) (i + 1) (length rest) in
    let free_head : fresh i (app (at_metas (constant head) 0 i) (var i)) ≡ false =
    rw (same i) (and_false (fresh i (at_metas (constant head) 0 i))) in
    let free : fresh i
    (at_variables (app (at_metas (constant head) 0 i) (var i)) (i + 1) (length rest)) ≡ false =
    free_in_variables (length rest) (i + 1) i (app (at_metas (constant head) 0 i) (var i))
    free_head in
    let put_head : substituted (app (at_metas (constant head) 0 i) (var i)) i (meta i) ≡ Some
    (app (at_metas (constant head) 0 i) (meta i)) =
    rw (put_in_metas i 0 i (meta i) (constant head) refl, same i) refl in
    let put : substituted
    (at_variables (app (at_metas (constant head) 0 i) (var i)) (i + 1) (length rest)) i (meta i)
    ≡ Some (at_variables (app (at_metas (constant head) 0 i) (meta i)) (i + 1) (length rest)) =
    put_in_variables (length rest) (i + 1) i (meta i) (app (at_metas (constant head) 0 i) (var i))
    (app (at_metas (constant head) 0 i) (meta i)) (omega arith) put_head in
    let pushed : app (at_metas (constant head) 0 i) (meta i) ≡ at_metas (constant head) 0 (i + 1) =
    sym (ap (at_metas (constant head)
    0) (add_one i) ∙ at_metas-push i 0 (constant head) ∙ ap (λ (x : ℕ). app
    (at_metas (constant head) 0 i) (meta x)) (from_zero i)) in (
      all_from (i + 1) rest (ex n sort (equal (var n)
          (at_variables (app (at_metas (constant head) 0 i) (var i)) (i + 1) (length rest)))),
      refl,
      put_in_closing rest (i + 1) i i (ex n sort (equal (var n)
          (at_variables (app (at_metas (constant head) 0 i) (var i)) (i + 1) (length rest))))
          (ex n sort (equal (var n)
          (at_variables (app (at_metas (constant head) 0 i) (meta i)) (i + 1) (length rest))))
          (omega arith) (free_in_some n sort i
          (at_variables (app (at_metas (constant head) 0 i) (var i)) (i + 1) (length rest)) low
          free)
          (put_in_some n sort i
          (at_variables (app (at_metas (constant head) 0 i) (var i)) (i + 1) (length rest))
          (at_variables (app (at_metas (constant head) 0 i) (meta i)) (i + 1) (length rest)) low
          free put)
          ∙ ap (λ (h : Pattern). Some (all_from (i + 1) rest
          (ex n sort (equal (var n) (at_variables h (i + 1) (length rest)))))) pushed,
    )
  where
    add_one : (i : ℕ) → i + 1 ≡ suc i
    add_one i = omega arith

    from_zero : (i : ℕ) → 0 + i ≡ i
    from_zero i = omega arith

-- ---- no object variable

pub no_variable-metas : (n k : ℕ) (head : Pattern) → HasNoVariable head
    → HasNoVariable (at_metas head k n)
no_variable-metas zero k head h = h
no_variable-metas (suc n) k head h = no_variable-metas n (k + 1) (app head (meta k)) (h, tt)

pub absent-metas : (n k x : ℕ) (head : Pattern) → IsAbsent x head → IsAbsent x (at_metas head k n)
absent-metas zero k x head h = h
absent-metas (suc n) k x head h =
    absent-metas n (k + 1) x (app head (meta k)) (both_true (absent x head) true h refl)
