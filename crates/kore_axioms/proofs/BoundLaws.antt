-- A pattern has only variables of given patterns if and only if numbering its variables adds no
-- variable.
use Rattle.std.proofs.Common.{◌≡◌, ◌<◌, ◌≤◌, ℕ, ◌+◌, Bool, true, false, ◌&&◌, ◌||◌, List, [], ◌∷◌}
use Rattle.std.proofs.Common.{◌++◌, drop, length, Option, Some, None, refl, ap, sym, ◌∙◌, subst}
use Rattle.std.proofs.Common.{arith, inl, inr, ⊎_elim, cond}
use Rattle.std.specs.Prelude.{◌⊎◌, is_some, ◌==◌}
use Rattle.std.specs.List.{list_any, position_from}
use Rattle.std.specs.Str.{bytes_eq}
use Rattle.std.proofs.lemmas.Bool.{eqb-true, eq-eqb, false≢true}
use Rattle.std.proofs.lemmas.List.{length-append}
use Rattle.std.proofs.lemmas.List.Folds.{list_any-append}
use Rattle.std.proofs.lemmas.Slice.Eq.{bytes_eq-Decides}
use Rattle.kore_text.specs.Trees.{SortTree, sort_parameter, sort_applied, no_sorts, sort_then}
use Rattle.rule_core.proofs.Belows.{both_true, true_both}
use Rattle.rule_core.specs.Named.{number_of_name}
use Rattle.rule_core.specs.declared.signature.Signature.{Signature}
use Rattle.rule_core.specs.declared.signature.SortInfo.{SortInfo}
use Rattle.kore_sig.specs.FirstFault.{Fault, unless}
use Rattle.kore_sig.specs.SortReferences.{sort_number, sort_place}
use Rattle.kore_check.specs.Folds.{Unfolded, named_variable, written_value, applied_symbol}
use Rattle.kore_check.specs.Folds.{both_of, other_form, Unfoldeds, no_more, and_more}
use Rattle.kore_check.specs.PatternFaults.{pattern_faults, argument_faults}
use Rattle.kore_check.specs.PatternSorts.{symbol_named, places_of}
use Rattle.rule_core.specs.declared.signature.SortRef.{SortRef}
use Rattle.kore_check.specs.PatternMeanings.{variable_number, with_variable, with_variables}
use Rattle.kore_check.specs.PatternMeanings.{with_all_variables}
use Rattle.kore_shapes.specs.SameSorts.{same_sort}
use Rattle.kore_axioms.specs.Uses.{occurs_in_pattern, occurs_in_some, is_bound_by, are_bound_by}

-- ---- sorts

-- sorts that are written the same have the same number
pub same_number : (sorts : List (List ℕ × SortInfo)) (s t : SortTree) → same_sort s t ≡ true
    → sort_number sorts s ≡ sort_number sorts t
same_number sorts (sort_parameter at n) (sort_parameter place m) h = refl
same_number sorts (sort_parameter at n) (sort_applied place m ts) h = absurd (false≢true h)
same_number sorts (sort_applied at n ss) (sort_parameter place m) h = absurd (false≢true h)
same_number sorts (sort_applied at n no_sorts) (sort_applied place m no_sorts) h =
    ap (number_of_name sorts) ((bytes_eq-Decides n m).0 (both_true _ _ h).0)
same_number sorts (sort_applied at n no_sorts) (sort_applied place m (sort_then t ts)) h =
    absurd (false≢true (both_true _ _ h).1)
same_number sorts (sort_applied at n (sort_then s ss)) (sort_applied place m no_sorts) h =
    absurd (false≢true (both_true _ _ h).1)
same_number sorts (sort_applied at n (sort_then s ss)) (sort_applied place m (sort_then t ts)) h =
    refl

-- a position is not before the first one that is tested
not_before : {K : Type 0} (test : K → Bool) (i : ℕ) (xs : List K) (k : ℕ)
    → position_from test i xs ≡ Some k → i ≤ k
not_before test i [] k e = absurd (let never : ⊥ = cc in never)
not_before test i (x ∷ xs) k e = by_case (test x) e (not_before test (i + 1) xs k) where
  by_case : (b : Bool) → cond b (Some i) (position_from test (i + 1) xs) ≡ Some k
      → (position_from test (i + 1) xs ≡ Some k → i + 1 ≤ k) → i ≤ k
  by_case true e later = let same : i ≡ k = cc in omega (arith, same)
  by_case false e later = omega (arith, later e)

abbrev named : List ℕ → List ℕ × SortInfo → Bool
named n e = bytes_eq n e.0

-- a number belongs to only one name
one_name : (es : List (List ℕ × SortInfo)) (i k : ℕ) (n m : List ℕ)
    → position_from (named n) i es ≡ Some k → position_from (named m) i es ≡ Some k → n ≡ m
one_name [] i k n m a b = absurd (let never : ⊥ = cc in never)
one_name (e ∷ es) i k n m a b =
    by_case (bytes_eq n e.0) (bytes_eq m e.0) refl refl a b (one_name es (i + 1) k n m)
  where
    by_case : (p q : Bool) → bytes_eq n e.0 ≡ p → bytes_eq m e.0 ≡ q
        → cond p (Some i) (position_from (named n) (i + 1) es) ≡ Some k
        → cond q (Some i) (position_from (named m) (i + 1) es) ≡ Some k
        → (position_from (named n) (i + 1) es ≡ Some k → position_from (named m) (i + 1) es ≡ Some k
        → n ≡ m) → n ≡ m
    by_case true true f g x y later =
        (bytes_eq-Decides n e.0).0 f ∙ sym ((bytes_eq-Decides m e.0).0 g)
    by_case true false f g x y later =
        absurd (let same : i ≡ k = cc in
        let far : i + 1 ≤ k = not_before (named m) (i + 1) es k y in omega (arith, same, far))
    by_case false true f g x y later =
        absurd (let same : i ≡ k = cc in
        let far : i + 1 ≤ k = not_before (named n) (i + 1) es k x in omega (arith, same, far))
    by_case false false f g x y later = later x y

-- declared sorts of the same number are written the same
pub same_written : (sorts : List (List ℕ × SortInfo)) (s t : SortTree) (k : ℕ)
    → sort_number sorts s ≡ Some k → sort_number sorts t ≡ Some k → same_sort s t ≡ true
same_written sorts (sort_parameter at n) t k a b = absurd (let never : ⊥ = cc in never)
same_written sorts (sort_applied at n (sort_then s ss)) t k a b =
    absurd (let never : ⊥ = cc in never)
same_written sorts (sort_applied at n no_sorts) (sort_parameter place m) k a b =
    absurd (let never : ⊥ = cc in never)
same_written sorts (sort_applied at n no_sorts) (sort_applied place m (sort_then t ts)) k a b =
    absurd (let never : ⊥ = cc in never)
same_written sorts (sort_applied at n no_sorts) (sort_applied place m no_sorts) k a b =
    true_both (bytes_eq n m) true ((bytes_eq-Decides n m).1 (one_name sorts 0 k n m a b)) refl

-- ---- the variables that are numbered

abbrev is_one : List ℕ → ℕ → List ℕ × ℕ → Bool
is_one name s v = bytes_eq name v.0 && (s == v.1)

-- the variable is one of these
abbrev has : List (List ℕ × ℕ) → List ℕ → ℕ → Bool
has vars name s = list_any (is_one name s) vars

some_place : {K : Type 0} (test : K → Bool) (i : ℕ) (xs : List K)
    → is_some (position_from test i xs) ≡ list_any test xs
some_place test i [] = refl
some_place test i (x ∷ xs) = by_case (test x) (some_place test (i + 1) xs) where
  by_case : (b : Bool) → is_some (position_from test (i + 1) xs) ≡ list_any test xs
      → is_some (cond b (Some i) (position_from test (i + 1) xs)) ≡ (b || list_any test xs)
  by_case true later = refl
  by_case false later = later

numbered : (vars : List (List ℕ × ℕ)) (name : List ℕ) (s : ℕ)
    → is_some (variable_number vars name s) ≡ has vars name s
numbered vars name s = some_place (is_one name s) 0 vars

-- a variable that is in the list adds nothing
unchanged : (vars : List (List ℕ × ℕ)) (name : List ℕ) (s : ℕ) → has vars name s ≡ true
    → with_variable vars name (Some s) ≡ vars
unchanged vars name s h = rw (numbered vars name s ∙ h) refl

-- a variable that is not in the list is added
changed : (vars : List (List ℕ × ℕ)) (name : List ℕ) (s : ℕ) → has vars name s ≡ false
    → with_variable vars name (Some s) ≡ vars ++ (name, s) ∷ []
changed vars name s h = rw (numbered vars name s ∙ h) refl

or_true : (a b : Bool) → a ≡ true → (a || b) ≡ true
or_true a b h = rw h refl

true_or : (a b : Bool) → b ≡ true → (a || b) ≡ true
true_or true b h = refl
true_or false b h = h

itself : (name : List ℕ) (s : ℕ) → is_one name s (name, s) ≡ true
itself name s = true_both _ _ ((bytes_eq-Decides name name).1 refl) (eq-eqb s s refl)

-- after that, the variable is in the list
added : (vars : List (List ℕ × ℕ)) (name : List ℕ) (s : ℕ)
    → has (with_variable vars name (Some s)) name s ≡ true
added vars name s = by_case (has vars name s) refl where
  by_case : (b : Bool) → has vars name s ≡ b → has (with_variable vars name (Some s)) name s ≡ true
  by_case true h = ap (λ (vs : List (List ℕ × ℕ)). has vs name s) (unchanged vars name s h) ∙ h
  by_case false h =
      ap (λ (vs : List (List ℕ × ℕ)). has vs name s) (changed vars name s h)
      ∙ list_any-append (is_one name s) vars ((name, s) ∷ [])
      ∙ true_or (has vars name s) _ (or_true _ false (itself name s))

kept_one : (vars : List (List ℕ × ℕ)) (name other : List ℕ) (s : ℕ) (o : Option ℕ)
    → has vars name s ≡ true → has (with_variable vars other o) name s ≡ true
kept_one vars name other s None h = h
kept_one vars name other s (Some t) h = by_case (has vars other t) refl where
  by_case : (b : Bool) → has vars other t ≡ b
      → has (with_variable vars other (Some t)) name s ≡ true
  by_case true e = ap (λ (vs : List (List ℕ × ℕ)). has vs name s) (unchanged vars other t e) ∙ h
  by_case false e =
      ap (λ (vs : List (List ℕ × ℕ)). has vs name s) (changed vars other t e)
      ∙ list_any-append (is_one name s) vars ((other, t) ∷ [])
      ∙ or_true _ _ h

mutual
  kept : (sig : Signature) (vars : List (List ℕ × ℕ)) (q : Unfolded) (name : List ℕ) (s : ℕ)
      → has vars name s ≡ true → has (with_variables sig vars q) name s ≡ true
  kept sig vars (named_variable at n t) name s h =
      kept_one vars name n s (sort_number sig.sorts t) h
  kept sig vars (written_value at t text byte) name s h = h
  kept sig vars (applied_symbol at byte n ss ps) name s h = all_kept sig vars ps name s h
  kept sig vars (both_of at t p q) name s h =
      kept sig (with_variables sig vars p) q name s (kept sig vars p name s h)
  kept sig vars (other_form at) name s h = h

  all_kept : (sig : Signature) (vars : List (List ℕ × ℕ)) (qs : Unfoldeds) (name : List ℕ) (s : ℕ)
      → has vars name s ≡ true → has (with_all_variables sig vars qs) name s ≡ true
  all_kept sig vars no_more name s h = h
  all_kept sig vars (and_more q qs) name s h =
      all_kept sig (with_variables sig vars q) qs name s (kept sig vars q name s h)

either : {P : Type 0} (a b : Bool) → (a || b) ≡ true → (a ≡ true → P) → (b ≡ true → P) → P
either true b h f g = f refl
either false b h f g = g h

-- a variable that occurs in a pattern is numbered
mutual
  covers : (sig : Signature) (vars : List (List ℕ × ℕ)) (q : Unfolded) (name : List ℕ)
      (t : SortTree) (s : ℕ) → occurs_in_pattern name t q ≡ true → sort_number sig.sorts t ≡ Some s
      → has (with_variables sig vars q) name s ≡ true
  covers sig vars (named_variable at n u) name t s h e =
      let both = both_true _ _ h in
      let same : name ≡ n = (bytes_eq-Decides name n).0 both.0 in
      let number : sort_number sig.sorts u ≡ Some s = sym (same_number sig.sorts t u both.1) ∙ e in
      ap (λ (o : Option ℕ). has (with_variable vars n o) name s) number
      ∙ subst (λ (m : List ℕ). has (with_variable vars m (Some s)) name s ≡ true) same
      (added vars name s)
  covers sig vars (written_value at u text byte) name t s h e = absurd (false≢true h)
  covers sig vars (applied_symbol at byte n ss ps) name t s h e = all_cover sig vars ps name t s h e
  covers sig vars (both_of at u p q) name t s h e =
      either (occurs_in_pattern name t p) (occurs_in_pattern name t q) h
      (λ here. kept sig (with_variables sig vars p) q name s (covers sig vars p name t s here e))
      (λ later. covers sig (with_variables sig vars p) q name t s later e)
  covers sig vars (other_form at) name t s h e = absurd (false≢true h)

  all_cover : (sig : Signature) (vars : List (List ℕ × ℕ)) (qs : Unfoldeds) (name : List ℕ)
      (t : SortTree) (s : ℕ) → occurs_in_some name t qs ≡ true
      → sort_number sig.sorts t ≡ Some s → has (with_all_variables sig vars qs) name s ≡ true
  all_cover sig vars no_more name t s h e = absurd (false≢true h)
  all_cover sig vars (and_more q qs) name t s h e =
      either (occurs_in_pattern name t q) (occurs_in_some name t qs) h
      (λ here.
      all_kept sig (with_variables sig vars q) qs name s (covers sig vars q name t s here e))
      (λ later. all_cover sig (with_variables sig vars q) qs name t s later e)

-- a variable that is numbered and was not before occurs in the pattern
abbrev OccursAs : Signature → List ℕ → ℕ → (SortTree → Bool) → Type 0
OccursAs sig name s occurs = (t : SortTree) × (occurs t ≡ true) × (sort_number sig.sorts t ≡ Some s)

added_only : (sig : Signature) (vars : List (List ℕ × ℕ)) (at : ℕ) (n : List ℕ) (u : SortTree)
    (name : List ℕ) (s : ℕ) (o : Option ℕ) → sort_number sig.sorts u ≡ o
    → has (with_variable vars n o) name s ≡ true
    → (has vars name s ≡ true) ⊎ OccursAs sig name s (λ t.
    occurs_in_pattern name t (named_variable at n u))
added_only sig vars at n u name s None e h = inl h
added_only sig vars at n u name s (Some k) e h = by_case (has vars n k) refl where
  new : is_one name s (n, k) ≡ true
      → OccursAs sig name s (λ t. occurs_in_pattern name t (named_variable at n u))
  new is =
      let both = both_true _ _ is in (
        u,
        true_both _ _ both.0 (same_written sig.sorts u u k e e),
        e
            ∙ ap (λ (i : ℕ). Some i) (sym (eqb-true s k both.1)),
      )

  by_case : (b : Bool) → has vars n k ≡ b
      → (has vars name s ≡ true)
      ⊎ OccursAs sig name s (λ t. occurs_in_pattern name t (named_variable at n u))
  by_case true was =
      inl (ap (λ (vs : List (List ℕ × ℕ)). has vs name s) (sym (unchanged vars n k was)) ∙ h)
  by_case false was =
      let both : (has vars name s || (is_one name s (n, k) || false)) ≡ true =
      sym (list_any-append (is_one name s) vars ((n, k) ∷ []))
      ∙ ap (λ (vs : List (List ℕ × ℕ)). has vs name s) (sym (changed vars n k was)) ∙ h in
      either (has vars name s) (is_one name s (n, k) || false) both (λ here. inl here)
      (λ later. either (is_one name s (n, k)) false later (λ is. inr (new is))
      (λ never. absurd (false≢true never)))

mutual
  only : (sig : Signature) (vars : List (List ℕ × ℕ)) (q : Unfolded) (name : List ℕ) (s : ℕ)
      → has (with_variables sig vars q) name s ≡ true
      → (has vars name s ≡ true) ⊎ OccursAs sig name s (λ t. occurs_in_pattern name t q)
  only sig vars (named_variable at n u) name s h =
      added_only sig vars at n u name s (sort_number sig.sorts u) refl h
  only sig vars (written_value at u text byte) name s h = inl h
  only sig vars (applied_symbol at byte n ss ps) name s h = all_only sig vars ps name s h
  only sig vars (both_of at t p q) name s h =
      ⊎_elim
      (λ before. ⊎_elim (λ was. inl was) (λ found. inr (found.0, or_true _ _ found.1, found.2))
      (only sig vars p name s before))
      (λ found. inr (found.0, true_or (occurs_in_pattern name found.0 p) _ found.1, found.2))
      (only sig (with_variables sig vars p) q name s h)
  only sig vars (other_form at) name s h = inl h

  all_only : (sig : Signature) (vars : List (List ℕ × ℕ)) (qs : Unfoldeds) (name : List ℕ) (s : ℕ)
      → has (with_all_variables sig vars qs) name s ≡ true
      → (has vars name s ≡ true) ⊎ OccursAs sig name s (λ t. occurs_in_some name t qs)
  all_only sig vars no_more name s h = inl h
  all_only sig vars (and_more q qs) name s h =
      ⊎_elim
      (λ before. ⊎_elim (λ was. inl was) (λ found. inr (found.0, or_true _ _ found.1, found.2))
      (only sig vars q name s before))
      (λ found. inr (found.0, true_or (occurs_in_pattern name found.0 q) _ found.1, found.2))
      (all_only sig (with_variables sig vars q) qs name s h)

-- a variable occurs in a pattern with any way to write its sort
mutual
  written_so : (sig : Signature) (q : Unfolded) (name : List ℕ) (t u : SortTree) (s : ℕ)
      → sort_number sig.sorts t ≡ Some s → sort_number sig.sorts u ≡ Some s
      → occurs_in_pattern name t q ≡ true → occurs_in_pattern name u q ≡ true
  written_so sig (named_variable at n v) name t u s e f h =
      let both = both_true _ _ h in
      true_both _ _ both.0
      (same_written sig.sorts u v s f (sym (same_number sig.sorts t v both.1) ∙ e))
  written_so sig (written_value at v text byte) name t u s e f h = absurd (false≢true h)
  written_so sig (applied_symbol at byte n ss ps) name t u s e f h =
      all_written_so sig ps name t u s e f h
  written_so sig (both_of at v p q) name t u s e f h =
      either (occurs_in_pattern name t p) (occurs_in_pattern name t q) h
      (λ here. or_true _ _ (written_so sig p name t u s e f here))
      (λ later. true_or (occurs_in_pattern name u p) _ (written_so sig q name t u s e f later))
  written_so sig (other_form at) name t u s e f h = absurd (false≢true h)

  all_written_so : (sig : Signature) (qs : Unfoldeds) (name : List ℕ) (t u : SortTree) (s : ℕ)
      → sort_number sig.sorts t ≡ Some s → sort_number sig.sorts u ≡ Some s
      → occurs_in_some name t qs ≡ true → occurs_in_some name u qs ≡ true
  all_written_so sig no_more name t u s e f h = absurd (false≢true h)
  all_written_so sig (and_more q qs) name t u s e f h =
      either (occurs_in_pattern name t q) (occurs_in_some name t qs) h
      (λ here. or_true _ _ (written_so sig q name t u s e f here))
      (λ later. true_or (occurs_in_pattern name u q) _ (all_written_so sig qs name t u s e f later))

-- ---- patterns over given patterns

-- the variables of the given patterns
abbrev of : Signature → Unfoldeds → List (List ℕ × ℕ)
of sig qs = with_all_variables sig [] qs

numbered_already : (sig : Signature) (qs : Unfoldeds) (n : List ℕ) (t : SortTree) (o : Option ℕ)
    → sort_number sig.sorts t ≡ o → occurs_in_some n t qs ≡ true
    → with_variable (of sig qs) n o ≡ of sig qs
numbered_already sig qs n t None e h = refl
numbered_already sig qs n t (Some s) e h = unchanged (of sig qs) n s (all_cover sig [] qs n t s h e)

-- a pattern whose variables are bound adds none
mutual
  pub bound_same : (sig : Signature) (qs : Unfoldeds) (p : Unfolded) → is_bound_by qs p ≡ true
      → with_variables sig (of sig qs) p ≡ of sig qs
  bound_same sig qs (named_variable at n t) h =
      numbered_already sig qs n t (sort_number sig.sorts t) refl h
  bound_same sig qs (written_value at t text byte) h = refl
  bound_same sig qs (applied_symbol at byte n ss ps) h = all_bound_same sig qs ps h
  bound_same sig qs (both_of at s p q) h =
      let both = both_true _ _ h in
      ap (λ (vs : List (List ℕ × ℕ)). with_variables sig vs q) (bound_same sig qs p both.0)
      ∙ bound_same sig qs q both.1
  bound_same sig qs (other_form at) h = refl

  pub all_bound_same : (sig : Signature) (qs ps : Unfoldeds) → are_bound_by qs ps ≡ true
      → with_all_variables sig (of sig qs) ps ≡ of sig qs
  all_bound_same sig qs no_more h = refl
  all_bound_same sig qs (and_more p ps) h =
      let both = both_true _ _ h in
      ap (λ (vs : List (List ℕ × ℕ)). with_all_variables sig vs ps) (bound_same sig qs p both.0)
      ∙ all_bound_same sig qs ps both.1

-- numbering removes no variable
grown : (vars : List (List ℕ × ℕ)) (n : List ℕ) (o : Option ℕ)
    → length vars ≤ length (with_variable vars n o)
grown vars n None = omega arith
grown vars n (Some s) = by_case (has vars n s) refl where
  by_case : (b : Bool) → has vars n s ≡ b → length vars ≤ length (with_variable vars n (Some s))
  by_case true h = omega (arith, ap length (unchanged vars n s h))
  by_case false h = omega (arith, ap length (changed vars n s h), length-append vars ((n, s) ∷ []))

mutual
  pub not_less : (sig : Signature) (vars : List (List ℕ × ℕ)) (p : Unfolded)
      → length vars ≤ length (with_variables sig vars p)
  not_less sig vars (named_variable at n t) = grown vars n (sort_number sig.sorts t)
  not_less sig vars (written_value at t text byte) = omega arith
  not_less sig vars (applied_symbol at byte n ss ps) = all_not_less sig vars ps
  not_less sig vars (both_of at s p q) =
      omega (arith, not_less sig vars p, not_less sig (with_variables sig vars p) q)
  not_less sig vars (other_form at) = omega arith

  all_not_less : (sig : Signature) (vars : List (List ℕ × ℕ)) (ps : Unfoldeds)
      → length vars ≤ length (with_all_variables sig vars ps)
  all_not_less sig vars no_more = omega arith
  all_not_less sig vars (and_more p ps) =
      omega (arith, not_less sig vars p, all_not_less sig (with_variables sig vars p) ps)

pub no_faults : (fs gs : List Fault) → fs ++ gs ≡ [] → (fs ≡ []) × (gs ≡ [])
no_faults [] gs h = (refl, h)
no_faults (f ∷ fs) gs h = absurd (let never : ⊥ = cc in never)

missing : (sig : Signature) (qs : Unfoldeds) (n : List ℕ) (t : SortTree) (o : Option ℕ)
    → sort_number sig.sorts t ≡ o → unless (is_some o) 6 (sort_place t) ≡ []
    → occurs_in_some n t qs ≡ false → length (of sig qs) < length (with_variable (of sig qs) n o)
missing sig qs n t None e declared h = absurd (let never : ⊥ = cc in never)
missing sig qs n t (Some s) e declared h = by_case (has (of sig qs) n s) refl where
  occurs : has (of sig qs) n s ≡ true → occurs_in_some n t qs ≡ true
  occurs there =
      ⊎_elim (λ before. absurd (false≢true before))
      (λ found. all_written_so sig qs n found.0 t s found.2 e found.1)
      (all_only sig [] qs n s there)

  by_case : (b : Bool) → has (of sig qs) n s ≡ b
      → length (of sig qs) < length (with_variable (of sig qs) n (Some s))
  by_case true there = absurd (false≢true (sym h ∙ occurs there))
  by_case false new =
      omega
      (arith, ap length (changed (of sig qs) n s new), length-append (of sig qs) ((n, s) ∷ []))

more_by : (sig : Signature) (qs : Unfoldeds) (p : Unfolded) (ps : Unfoldeds) (b : Bool)
    → is_bound_by qs p ≡ b → (is_bound_by qs p && are_bound_by qs ps) ≡ false
    → (is_bound_by qs p ≡ false → length (of sig qs) < length (with_variables sig (of sig qs) p))
    → (are_bound_by qs ps ≡ false
    → length (of sig qs) < length (with_all_variables sig (of sig qs) ps))
    → length (of sig qs) < length (with_all_variables sig (with_variables sig (of sig qs) p) ps)
more_by sig qs p ps true e h here later =
    subst (λ (vs : List (List ℕ × ℕ)). length (of sig qs) < length (with_all_variables sig vs ps))
    (sym (bound_same sig qs p e))
    (later (sym (ap (λ (b : Bool). b && are_bound_by qs ps) e) ∙ h))
more_by sig qs p ps false e h here later =
    omega (arith, here e, all_not_less sig (with_variables sig (of sig qs) p) ps)

more_of_two : (sig : Signature) (qs : Unfoldeds) (p q : Unfolded) (b : Bool)
    → is_bound_by qs p ≡ b → (is_bound_by qs p && is_bound_by qs q) ≡ false
    → (is_bound_by qs p ≡ false → length (of sig qs) < length (with_variables sig (of sig qs) p))
    → (is_bound_by qs q ≡ false → length (of sig qs) < length (with_variables sig (of sig qs) q))
    → length (of sig qs) < length (with_variables sig (with_variables sig (of sig qs) p) q)
more_of_two sig qs p q true e h here later =
    subst (λ (vs : List (List ℕ × ℕ)). length (of sig qs) < length (with_variables sig vs q))
    (sym (bound_same sig qs p e))
    (later (sym (ap (λ (b : Bool). b && is_bound_by qs q) e) ∙ h))
more_of_two sig qs p q false e h here later =
    omega (arith, here e, not_less sig (with_variables sig (of sig qs) p) q)

-- a pattern with an unbound variable of a declared sort adds one
mutual
  pub unbound_more : (sig : Signature) (qs : Unfoldeds) (p : Unfolded) → pattern_faults sig p ≡ []
      → is_bound_by qs p ≡ false → length (of sig qs) < length (with_variables sig (of sig qs) p)
  unbound_more sig qs (named_variable at n t) clear h =
      missing sig qs n t (sort_number sig.sorts t) refl clear h
  unbound_more sig qs (written_value at t text byte) clear h = absurd (false≢true (sym h))
  unbound_more sig qs (applied_symbol at byte n ss ps) clear h =
      let args = (no_faults _ _ (no_faults _ _ clear).1).1 in
      all_unbound_more sig qs ss (places_of (symbol_named sig n)) ps args h
  unbound_more sig qs (both_of at s p q) clear h =
      let first = no_faults _ _ (no_faults _ _ clear).1 in
      let second = no_faults _ _ (no_faults _ _ first.1).1 in
      more_of_two sig qs p q (is_bound_by qs p) refl h (λ h. unbound_more sig qs p first.0 h)
      (λ h. unbound_more sig qs q second.0 h)
  unbound_more sig qs (other_form at) clear h = absurd (false≢true (sym h))

  all_unbound_more : (sig : Signature) (qs : Unfoldeds) (ss : List SortTree) (refs : List SortRef)
      (ps : Unfoldeds) → argument_faults sig ss refs ps ≡ [] → are_bound_by qs ps ≡ false
      → length (of sig qs) < length (with_all_variables sig (of sig qs) ps)
  all_unbound_more sig qs ss refs no_more clear h = absurd (false≢true (sym h))
  all_unbound_more sig qs ss refs (and_more p ps) clear h =
      let first = no_faults _ _ clear in
      let rest = (no_faults _ _ first.1).1 in
      more_by sig qs p ps (is_bound_by qs p) refl h (λ h. unbound_more sig qs p first.0 h)
      (λ h. all_unbound_more sig qs ss (drop 1 refs) ps rest h)
