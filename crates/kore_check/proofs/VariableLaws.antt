-- The numbers of variables after one is added at the end, and after the last one is removed.
use Rattle.std.proofs.Common.{inl, inr, ◌≡◌, ◌<◌, ◌+◌, ℕ, zero, suc, List, [], ◌∷◌, ◌++◌, length}
use Rattle.std.proofs.Common.{Bool, true, false, cond, Option, Some, None, refl, sym, ◌∙◌, ap}
use Rattle.std.proofs.Common.{subst, slice_get, arith, String, eq-eqb}
use Rattle.std.specs.Prelude.{is_some, if◌then◌else◌, ◌&&◌, ◌==◌, ◌⊎◌}
use Rattle.std.specs.List.{position_from}
use Rattle.std.specs.Str.{bytes_eq}
use Rattle.std.specs.Ordering.{is_eq, ordering_then, nat_cmp}
use Rattle.std.specs.declared.cmp.Ordering.{Ordering}
use Rattle.std.specs.declared.cmp.Ordering.TheVariants.{Less, Equal, Greater}
use Rattle.std.specs.Cmp.Lexicographic.{slice_cmp}
use Rattle.std.specs.Cmp.{eq_by_cmp_equiv, unsigned_ties}
use Rattle.std.specs.BTreeMap.{BTreeMap, UpdatesBy}
use Rattle.std.specs.Map.{KeepsOthers, IsKeyTest, AreApart, lookup}
use Rattle.std.specs.Global.{Global}
use Rattle.std.proofs.lemmas.Map.Text.{is_eq-slice_cmp}
use Rattle.std.proofs.lemmas.Slice.Eq.{bytes_eq-Decides}
use Rattle.std.proofs.lemmas.Bool.{false≢true}
use Rattle.rule_core.specs.declared.signature.Signature.{Signature}
use Rattle.kore_sig.specs.SortReferences.{sort_number}
use Rattle.kore_check.specs.Folds.{Unfolded, Unfoldeds, named_variable, written_value}
use Rattle.kore_check.specs.Folds.{applied_symbol, both_of, other_form, no_more, and_more}
use Rattle.kore_check.specs.PatternMeanings.{variable_number, with_variable, with_variables}
use Rattle.kore_check.specs.PatternMeanings.{with_all_variables}
use Rattle.kore_check.specs.Building.{Extends}
use Rattle.kore_check.specs.VariableKeys.{key_of, key_cmp, key_cmp_total}
use Rattle.kore_check.specs.VariableFields.{number_under, AreNumbered}
use Rattle.kore_check.proofs.BuildLaws.{number-added, number-kept, extends-refl, extends-trans}

-- ---- keys

-- two keys have the same name and the same sort
abbrev pub same : List ℕ × ℕ → List ℕ × ℕ → Bool
same a b = bytes_eq a.0 b.0 && (a.1 == b.1)

both_equal : (p q : Ordering) → is_eq (ordering_then p q) ≡ (is_eq p && is_eq q)
both_equal Less q = refl
both_equal Equal q = refl
both_equal Greater q = refl

ties : (a b : List ℕ × ℕ) → is_eq (key_cmp a b) ≡ same a b
ties a b =
    both_equal (slice_cmp nat_cmp a.0 b.0) (nat_cmp a.1 b.1)
    ∙ ap (λ (t : Bool). t && is_eq (nat_cmp a.1 b.1)) (is_eq-slice_cmp a.0 b.0)
    ∙ ap (λ (t : Bool). bytes_eq a.0 b.0 && t) (sym (unsigned_ties a.1 b.1))

both : (p q : Bool) → (p && q) ≡ true → (p ≡ true) × (q ≡ true)
both true true e = (refl, refl)
both true false e = absurd (false≢true e)
both false q e = absurd (false≢true e)

same-equal : (a b : List ℕ × ℕ) → same a b ≡ true → a ≡ b
same-equal (n, s) (m, t) e =
    let parts : (bytes_eq n m ≡ true) × ((s == t) ≡ true) = both _ _ e in
    let sorts : s ≡ t = grind (arith, parts.1) in
    ap (λ (x : List ℕ). (x, s)) ((bytes_eq-Decides n m).0 parts.0) ∙ ap (λ (x : ℕ). (m, x)) sorts

same-self : (a : List ℕ × ℕ) → same a a ≡ true
same-self (n, s) =
    let names : bytes_eq n n ≡ true = (bytes_eq-Decides n n).1 refl in
    rw names (eq-eqb s s refl)

same-apart : (a b : List ℕ × ℕ) → same a b ≡ false → same b a ≡ false
same-apart a b e = by_case (same b a) refl where
  by_case : (t : Bool) → same b a ≡ t → same b a ≡ false
  by_case false is = is
  by_case true is =
      absurd
      (false≢true (sym e ∙ ap (λ (x : List ℕ × ℕ). same a x) (same-equal b a is) ∙ same-self a))

-- ---- the map

other_entries : {K X : Type 0} (eq : K → K → Bool) (test : K → Bool) (old new : List (K × X))
    → KeepsOthers eq test old new → (other : K → Bool) → IsKeyTest eq other → AreApart test other
    → lookup other new ≡ lookup other old
unfolding KeepsOthers
other_entries eq test old new h = h

-- the value at any key after a change at one key
pub numbers-updated : (a : List ℕ × ℕ) (m n : BTreeMap (String Global × ℕ) ℕ) (w : Option ℕ)
    → UpdatesBy (λ x y. key_cmp (key_of x) (key_of y)) (λ k. key_cmp a (key_of k)) m n w
    → (b : List ℕ × ℕ) → number_under n b.0 b.1 ≡ cond (same a b) w (number_under m b.0 b.1)
numbers-updated a m n w h b = by_case (same a b) refl where
  apart : same a b ≡ false → (k : String Global × ℕ) → is_eq (key_cmp a (key_of k)) ≡ true
      → is_eq (key_cmp b (key_of k)) ≡ false
  apart e k is = ties b (key_of k)
      ∙ ap (λ (x : List ℕ × ℕ). same b x)
      (sym (same-equal a (key_of k) (sym (ties a (key_of k)) ∙ is))) ∙ same-apart a b e

  by_case : (t : Bool) → same a b ≡ t
      → number_under n b.0 b.1 ≡ cond (same a b) w (number_under m b.0 b.1)
  by_case true e =
      rw e (subst (λ (x : List ℕ × ℕ). number_under n x.0 x.1 ≡ w) (same-equal a b e) h.1)
  by_case false e =
      rw e (other_entries _ _ _ _ h.3 _
      (λ x y. (eq_by_cmp_equiv key_cmp_total).congr b (key_of x) (key_of y)) (apart e))

-- ---- lists

position-other : {X : Type 0} (test : X → Bool) (n : ℕ) (xs : List X) (y : X) → test y ≡ false
    → position_from test n (xs ++ y ∷ []) ≡ position_from test n xs
position-other test n [] y e = rw e refl
position-other test n (x ∷ xs) y e =
    ap (λ (o : Option ℕ). cond (test x) (Some n) o) (position-other test (n + 1) xs y e)

position-below : {X : Type 0} (test : X → Bool) (n k : ℕ) (xs : List X)
    → position_from test n xs ≡ Some k → k < n + length xs
position-below test n k [] is = absurd (let no_place : ⊥ = cc in no_place)
position-below {X} test n k (x ∷ xs) is =
    by_case (position-below test (n + 1) k xs) (test x) refl
  where
    by_case : (position_from test (n + 1) xs ≡ Some k → k < n + 1 + length xs) → (t : Bool)
        → test x ≡ t → k < n + length (x ∷ xs)
    by_case rest true e =
        let here : Some n ≡ Some k = rw e at is in
        let same_place : n ≡ k = cc in omega (arith, same_place)
    by_case rest false e =
        let later : position_from test (n + 1) xs ≡ Some k = rw e at is in omega (arith, rest later)

got-added : {X : Type 0} (xs : List X) (y v : X) (i : ℕ) → slice_get (xs ++ y ∷ []) i ≡ Some v
    → (slice_get xs i ≡ Some v) ⊎ ((i ≡ length xs) × (v ≡ y))
got-added [] y v zero e = inr (refl, let last : y ≡ v = cc in sym last)
got-added [] y v (suc i) e = absurd (let no_item : ⊥ = cc in no_item)
got-added (x ∷ xs) y v zero e = inl e
got-added (x ∷ xs) y v (suc i) e = by_case (got-added xs y v i e) where
  by_case : ((slice_get xs i ≡ Some v) ⊎ ((i ≡ length xs) × (v ≡ y)))
      → (slice_get xs i ≡ Some v) ⊎ ((suc i ≡ length (x ∷ xs)) × (v ≡ y))
  by_case (inl h) = inl h
  by_case (inr h) = inr (omega (arith, h.0), h.1)

got-front : {X : Type 0} (xs ys : List X) (v : X) (i : ℕ) → slice_get xs i ≡ Some v
    → (slice_get (xs ++ ys) i ≡ Some v) × (i < length xs)
got-front [] ys v i e = absurd (let no_item : ⊥ = cc in no_item)
got-front (x ∷ xs) ys v zero e = (e, omega arith)
got-front (x ∷ xs) ys v (suc i) e =
    let p : (slice_get (xs ++ ys) i ≡ Some v) × (i < length xs) = got-front xs ys v i e in
    (p.0, omega (arith, p.1))

got-last : {X : Type 0} (xs : List X) (y : X) → slice_get (xs ++ y ∷ []) (length xs) ≡ Some y
got-last [] y = refl
got-last (x ∷ xs) y = got-last xs y

-- ---- a variable is added

pub AreNumbered-added : (vars : List (List ℕ × ℕ)) (a : List ℕ × ℕ)
    → variable_number vars a.0 a.1 ≡ None → AreNumbered vars → AreNumbered (vars ++ a ∷ [])
AreNumbered-added vars a none had i v got = by_case (got-added vars a v i got) where
  by_case : ((slice_get vars i ≡ Some v) ⊎ ((i ≡ length vars) × (v ≡ a)))
      → variable_number (vars ++ a ∷ []) v.0 v.1 ≡ Some i
  by_case (inl h) = number-kept vars (vars ++ a ∷ []) v.0 v.1 i (a ∷ [], refl) (had i v h)
  by_case (inr h) =
      ap (λ (x : List ℕ × ℕ). variable_number (vars ++ a ∷ []) x.0 x.1) h.1
      ∙ number-added vars a.0 a.1 none ∙ ap (λ (k : ℕ). Some k) (sym h.0)

pub numbers-added : (vars : List (List ℕ × ℕ)) (a b : List ℕ × ℕ)
    → variable_number vars a.0 a.1 ≡ None
    → cond (same a b) (Some (length vars)) (variable_number vars b.0 b.1)
    ≡ variable_number (vars ++ a ∷ []) b.0 b.1
numbers-added vars a b none = by_case (same a b) refl where
  by_case : (t : Bool) → same a b ≡ t
      → cond (same a b) (Some (length vars)) (variable_number vars b.0 b.1)
      ≡ variable_number (vars ++ a ∷ []) b.0 b.1
  by_case true e =
      rw e (sym (number-added vars a.0 a.1 none)
      ∙ ap (λ (x : List ℕ × ℕ). variable_number (vars ++ a ∷ []) x.0 x.1) (same-equal a b e))
  by_case false e = rw e (sym (position-other (same b) 0 vars a (same-apart a b e)))

-- ---- the last variable is removed

last-alone : (vars : List (List ℕ × ℕ)) (a : List ℕ × ℕ) → AreNumbered (vars ++ a ∷ [])
    → variable_number vars a.0 a.1 ≡ None
last-alone vars a had = by_case (variable_number vars a.0 a.1) refl where
  by_case : (o : Option ℕ) → variable_number vars a.0 a.1 ≡ o → variable_number vars a.0 a.1 ≡ None
  by_case None e = e
  by_case (Some k) e =
      let twice : Some (length vars) ≡ Some k =
      sym (had (length vars) a (got-last vars a))
      ∙ number-kept vars (vars ++ a ∷ []) a.0 a.1 k (a ∷ [], refl) e in
      let place : length vars ≡ k = cc in
      absurd (omega (arith, place, position-below (same a) 0 k vars e))

pub AreNumbered-gone : (vars : List (List ℕ × ℕ)) (a : List ℕ × ℕ) → AreNumbered (vars ++ a ∷ [])
    → AreNumbered vars
AreNumbered-gone vars a had i v got = by_case (same v a) refl where
  front : (slice_get (vars ++ a ∷ []) i ≡ Some v) × (i < length vars)
  front = got-front vars (a ∷ []) v i got

  by_case : (t : Bool) → same v a ≡ t → variable_number vars v.0 v.1 ≡ Some i
  by_case false e = sym (position-other (same v) 0 vars a e) ∙ had i v front.0
  by_case true e =
      let twice : Some (length vars) ≡ Some i =
      sym (had (length vars) a (got-last vars a))
      ∙ ap (λ (x : List ℕ × ℕ). variable_number (vars ++ a ∷ []) x.0 x.1)
      (sym (same-equal v a e)) ∙ had i v front.0 in
      let place : length vars ≡ i = cc in
      absurd (omega (arith, place, front.1))

pub numbers-gone : (vars : List (List ℕ × ℕ)) (a b : List ℕ × ℕ) → AreNumbered (vars ++ a ∷ [])
    → cond (same a b) None (variable_number (vars ++ a ∷ []) b.0 b.1) ≡ variable_number vars b.0 b.1
numbers-gone vars a b had = by_case (same a b) refl where
  by_case : (t : Bool) → same a b ≡ t
      → cond (same a b) None (variable_number (vars ++ a ∷ []) b.0 b.1)
      ≡ variable_number vars b.0 b.1
  by_case true e =
      rw e (sym (last-alone vars a had)
      ∙ ap (λ (x : List ℕ × ℕ). variable_number vars x.0 x.1) (same-equal a b e))
  by_case false e = rw e (position-other (same b) 0 vars a (same-apart a b e))

-- ---- with one more variable, or the same ones

pub with_variable-extends : (vars : List (List ℕ × ℕ)) (name : List ℕ) (s : Option ℕ)
    → Extends vars (with_variable vars name s)
with_variable-extends vars name None = extends-refl vars
with_variable-extends vars name (Some s) = by_case (is_some (variable_number vars name s)) where
  by_case : (t : Bool) → Extends vars (if t then vars else vars ++ (name, s) ∷ [])
  by_case true = extends-refl vars
  by_case false = ((name, s) ∷ [], refl)

-- the variables of a pattern come after those that are there
mutual
  pub variables-extended : (sig : Signature) (u : Unfolded) (vars : List (List ℕ × ℕ))
      → Extends vars (with_variables sig vars u)
  variables-extended sig (named_variable at name s) vars =
      with_variable-extends vars name (sort_number sig.sorts s)
  variables-extended sig (written_value at s text byte) vars = extends-refl vars
  variables-extended sig (applied_symbol at byte name ss us) vars =
      all-variables-extended sig us vars
  variables-extended sig (both_of at s p q) vars =
      extends-trans vars (with_variables sig vars p)
      (with_variables sig (with_variables sig vars p) q) (variables-extended sig p vars)
      (variables-extended sig q (with_variables sig vars p))
  variables-extended sig (other_form at) vars = extends-refl vars

  pub all-variables-extended : (sig : Signature) (us : Unfoldeds) (vars : List (List ℕ × ℕ))
      → Extends vars (with_all_variables sig vars us)
  all-variables-extended sig no_more vars = extends-refl vars
  all-variables-extended sig (and_more u us) vars =
      extends-trans vars (with_variables sig vars u)
      (with_all_variables sig (with_variables sig vars u) us) (variables-extended sig u vars)
      (all-variables-extended sig us (with_variables sig vars u))
