-- The law of each row of the header, as a law of its scheme. Rows of one shape have one law.
use Rattle.std.proofs.Common.{◌≡◌, ℕ, Bool, true, false, List, [], ◌∷◌, ◌++◌, map}
use Rattle.std.proofs.Common.{option_map, refl, ap, arith}
use Rattle.std.proofs.lemmas.Bool.Decides.{nat_tests}
use Rattle.std.specs.Prelude.{◌==◌, ◌||◌}
use Rattle.ml_pat.specs.Patterns.{Unary, Binary, Sorted, Quantifier, Pattern, unary, sorted}
use Rattle.ml_pat.specs.Judgements.{fresh, absent}
use Rattle.ml_pat.proofs.LeafLaws.{both_true}
use Rattle.ml_pat.proofs.ReplacingLaws.{substituted-fresh}
use Rattle.ml_kernel.specs.declared.rules.Rule.{Rule}
use Rattle.ml_kernel.specs.Rules.{Instance, Infers, p_1, p_2, p_3, mp, not_1, not_2}
use Rattle.ml_kernel.specs.Rules.{and_1, and_2, and_3, or_1, or_2, or_3, truth, inst, fun_ex, ex_el}
use Rattle.ml_kernel.specs.Rules.{eq_refl, eq_el, eq_in, mem_in, mem_no, apart, app_l, app_r, bot_l}
use Rattle.ml_kernel.specs.Rules.{bot_r, next_in, ev_1, ev_2, ev_kt}
use Rattle.ml_kernel.specs.Derivability.{Derives, by_rule, none_left, one_more}
use Rattle.mm_readings.specs.Letters.{object_letter}
use Rattle.mm_readings.specs.Pieces.{spell}
use Rattle.mm_readings.specs.Readings.{has_object, ShareNone}
use Rattle.mm_readings.proofs.Texts.{absent-text}
use Rattle.mm_readings.proofs.Judged.{fresh-absent, substituted-binary, substituted-quantified}
use Rattle.mm_readings.proofs.Schemes.{Scheme, Follows}
use Rattle.mm_readings.proofs.HeaderSchemes.{two_place, one_place, sorted_names, quantifiers}
use Rattle.mm_readings.proofs.HeaderSchemes.{w_binary, w_unary, w_sorted, w_quantified}
use Rattle.mm_readings.proofs.HeaderSchemes.{fr_binary, fr_unary, fr_sorted, fr_quantified}
use Rattle.mm_readings.proofs.HeaderSchemes.{fr_bound, su_binary, su_unary, su_sorted}
use Rattle.mm_readings.proofs.HeaderSchemes.{su_quantified, pr_quantified, syntax_schemes}
use Rattle.mm_readings.proofs.HeaderSchemes.{fresh_schemes, substitution_schemes}
use Rattle.mm_readings.proofs.HeaderSchemes.{predicate_schemes, propositional_schemes}
use Rattle.mm_readings.proofs.HeaderSchemes.{first_order_schemes, equality_schemes}
use Rattle.mm_readings.proofs.HeaderSchemes.{membership_schemes, application_schemes}
use Rattle.mm_readings.proofs.HeaderSchemes.{reachability_schemes, header_schemes}

-- each scheme of a list follows
pub data Each (A : Pattern → Type 0) : List Scheme → Type 0 where
  no_more : Each A []
  also : {s : Scheme} {ss : List Scheme} → Follows A s → Each A ss → Each A (s ∷ ss)

mapped : {A : Pattern → Type 0} {K : Type 0} (f : K → Scheme) (ks : List K) {ss : List Scheme}
    → ((k : K) → Follows A (f k)) → Each A ss → Each A (map f ks ++ ss)
mapped f [] h rest = rest
mapped f (k ∷ ks) h rest = also (h k) (mapped f ks h rest)

-- the same, where nothing comes after them
mapped_last : {A : Pattern → Type 0} {K : Type 0} (f : K → Scheme) (ks : List K)
    → ((k : K) → Follows A (f k)) → Each A (map f ks)
mapped_last f [] h = no_more
mapped_last f (k ∷ ks) h = also (h k) (mapped_last f ks h)

appended : {A : Pattern → Type 0} {ss others : List Scheme} → Each A ss → Each A others
    → Each A (ss ++ others)
appended no_more k = k
appended (also h hs) k = also h (appended hs k)

-- ---- syntax

syntax_laws : (A : Pattern → Type 0) → Each A syntax_schemes
syntax_laws A =
    also (λ a k h. tt) (also (λ a k h. tt) (also (λ a k h. tt)
    (mapped w_binary two_place (λ c a k h. tt)
    (mapped w_unary one_place (λ c a k h. tt)
    (mapped w_sorted sorted_names (λ c a k h. tt)
    (mapped_last w_quantified quantifiers (λ c a k h. tt)))))))

-- ---- freshness

either_true : (a b : Bool) → b ≡ true → (a || b) ≡ true
either_true true b h = refl
either_true false b h = h

same_number : (x : ℕ) → (x == x) ≡ true
same_number x = grind (arith, nat_tests)

-- x does not occur in a pattern with which it shares nothing
unshared : (x : ℕ) (p : Pattern) → ShareNone (object_letter x ∷ []) (spell p []) → absent x p ≡ true
unshared x p h = go (has_object x (spell p [])) refl
  where
    go : (b : Bool) → has_object x (spell p []) ≡ b → absent x p ≡ true
    go true here = absurd (h x (rw (same_number x) refl) here)
    go false none = (absent-text x p [] none).0

fresh_binary : (A : Pattern → Type 0) (c : Binary) → Follows A (fr_binary c)
fresh_binary A c a k h = both_true _ _ h.0 h.1.0

fresh_laws : (A : Pattern → Type 0) → Each A fresh_schemes
fresh_laws A =
    also (λ a k h. fresh-absent (a.object 0) (a.pattern 0)
    (unshared (a.object 0) (a.pattern 0) k.0))
    (mapped fr_binary two_place (fresh_binary A)
    (mapped fr_unary one_place (λ c a k h. h.0)
    (mapped fr_sorted sorted_names (λ c a k h. h.0)
    (mapped fr_quantified quantifiers
    (λ c a k h. either_true (a.object 0 == a.object 1) (fresh (a.object 0) (a.pattern 0)) h.0)
    (mapped_last fr_bound quantifiers (λ c a k h. rw (same_number (a.object 0)) refl))))))

-- ---- substitution

differ : (x y : ℕ) → ShareNone (object_letter x ∷ []) (object_letter y ∷ []) → (x == y) ≡ false
differ x y h = go (x == y) refl
  where
    go : (b : Bool) → (x == y) ≡ b → (x == y) ≡ false
    go true same = absurd (h x (rw (same_number x) refl) (rw same refl))
    go false other = other

replaced_unary : (A : Pattern → Type 0) (c : Unary) → Follows A (su_unary c)
replaced_unary A c a k h = ap (option_map (unary c)) h.0

replaced_sorted : (A : Pattern → Type 0) (c : Sorted) → Follows A (su_sorted c)
replaced_sorted A c a k h = ap (option_map (λ (p : Pattern). sorted c p (a.sort 0))) h.0

replaced_binary : (A : Pattern → Type 0) (c : Binary) → Follows A (su_binary c)
replaced_binary A c a k h =
    substituted-binary c (a.pattern 0) (a.pattern 1) (a.pattern 4) (a.pattern 3) (a.pattern 2)
    (a.object 0) h.0 h.1.0

replaced_quantified : (A : Pattern → Type 0) (c : Quantifier) → Follows A (su_quantified c)
replaced_quantified A c a k h =
    substituted-quantified c (a.pattern 0) (a.pattern 4) (a.pattern 3) (a.object 0) (a.object 1)
    (a.sort 0) (differ (a.object 0) (a.object 1) k.0) h.0 h.1.0

substitution_laws : (A : Pattern → Type 0) → Each A substitution_schemes
substitution_laws A =
    also (λ a k h. rw (same_number (a.object 0)) refl)
    (also (λ a k h. substituted-fresh (a.object 0) (a.pattern 4) (a.pattern 0) h.0)
    (mapped su_binary two_place (replaced_binary A)
    (mapped su_unary one_place (replaced_unary A)
    (mapped su_sorted sorted_names (replaced_sorted A)
    (mapped_last su_quantified quantifiers (replaced_quantified A))))))

-- ---- predicates

predicate_laws : (A : Pattern → Type 0) → Each A predicate_schemes
predicate_laws A =
    also (λ a k h. refl) (also (λ a k h. refl)
    (also (λ a k h. both_true _ _ h.0 h.1.0)
    (also (λ a k h. both_true _ _ h.0 h.1.0)
    (also (λ a k h. both_true _ _ h.0 h.1.0)
    (also (λ a k h. h.0)
    (also (λ a k h. refl) (also (λ a k h. refl) (also (λ a k h. refl)
    (mapped_last pr_quantified quantifiers (λ c a k h. h.0))))))))))

-- ---- proof: each row is a rule of the logic

-- a rule without premises, with one and with two
none : {A : Pattern → Type 0} {r : Rule} {is : List Instance} {p : Pattern} → Infers r is [] p
    → Derives [] A p
none i = by_rule _ _ [] _ i none_left

one : {A : Pattern → Type 0} {r : Rule} {is : List Instance} {p q : Pattern}
    → Infers r is (p ∷ []) q → Derives [] A p → Derives [] A q
one i d = by_rule _ _ _ _ i (one_more _ _ d none_left)

two : {A : Pattern → Type 0} {r : Rule} {is : List Instance} {p q t : Pattern}
    → Infers r is (p ∷ (q ∷ [])) t → Derives [] A p → Derives [] A q → Derives [] A t
two i d e = by_rule _ _ _ _ i (one_more _ _ d (one_more _ _ e none_left))

propositional_laws : (A : Pattern → Type 0) → Each A propositional_schemes
propositional_laws A =
    also (λ a k h. none (p_1 (a.pattern 0) (a.pattern 1)))
    (also (λ a k h. none (p_2 (a.pattern 0) (a.pattern 1) (a.pattern 2)))
    (also (λ a k h. none (p_3 (a.pattern 0)))
    (also (λ a k h. two (mp (a.pattern 0) (a.pattern 1)) h.0 h.1.0)
    (also (λ a k h. none (not_1 (a.pattern 0)))
    (also (λ a k h. none (not_2 (a.pattern 0)))
    (also (λ a k h. none (and_1 (a.pattern 0) (a.pattern 1)))
    (also (λ a k h. none (and_2 (a.pattern 0) (a.pattern 1)))
    (also (λ a k h. none (and_3 (a.pattern 0) (a.pattern 1)))
    (also (λ a k h. none (or_1 (a.pattern 0) (a.pattern 1)))
    (also (λ a k h. none (or_2 (a.pattern 0) (a.pattern 1)))
    (also (λ a k h. none (or_3 (a.pattern 0) (a.pattern 1) (a.pattern 2)))
    (also (λ a k h. none truth) no_more))))))))))))

first_order_laws : (A : Pattern → Type 0) → Each A first_order_schemes
first_order_laws A =
    also (λ a k h.
    none (inst (a.pattern 0) (a.pattern 1) (a.pattern 2) (a.object 0) (a.sort 0) h.0))
    (also (λ a k h. none (fun_ex (a.pattern 0) (a.object 1) (a.sort 0)
    (unshared (a.object 1) (a.pattern 0) k.0)))
    (also (λ a k h.
    one (ex_el (a.pattern 0) (a.pattern 1) (a.object 0) (a.sort 0) h.1.0) h.0) no_more))

equality_laws : (A : Pattern → Type 0) → Each A equality_schemes
equality_laws A =
    also (λ a k h. none (eq_refl (a.pattern 0)))
    (also (λ a k h.
    none (eq_el (a.pattern 0) (a.pattern 1) (a.pattern 2) (a.pattern 3) (a.pattern 4) (a.object 0)
    h.0 h.1.0))
    (also (λ a k h. two (eq_in (a.pattern 0) (a.pattern 1)) h.0 h.1.0) no_more))

membership_laws : (A : Pattern → Type 0) → Each A membership_schemes
membership_laws A =
    also (λ a k h. none (mem_in (a.pattern 0) (a.sort 0)))
    (also (λ a k h. one (mem_no (a.pattern 0) (a.pattern 1) (a.pattern 2) h.0) h.1.0)
    (also (λ a k h. none (apart (a.pattern 0) (a.pattern 1) (a.sort 0) (a.sort 1))) no_more))

application_laws : (A : Pattern → Type 0) → Each A application_schemes
application_laws A =
    also (λ a k h.
    one (app_l (a.pattern 0) (a.pattern 1) (a.pattern 2) (a.pattern 3) h.0) h.1.0)
    (also (λ a k h.
    one (app_r (a.pattern 0) (a.pattern 1) (a.pattern 2) (a.pattern 3) h.0) h.1.0)
    (also (λ a k h. none (bot_l (a.pattern 0)))
    (also (λ a k h. none (bot_r (a.pattern 0))) no_more)))

reachability_laws : (A : Pattern → Type 0) → Each A reachability_schemes
reachability_laws A =
    also (λ a k h. one (next_in (a.pattern 0) (a.pattern 1)) h.0)
    (also (λ a k h. none (ev_1 (a.pattern 0)))
    (also (λ a k h. none (ev_2 (a.pattern 0)))
    (also (λ a k h. two (ev_kt (a.pattern 0) (a.pattern 1)) h.0 h.1.0) no_more)))

pub scheme_laws : (A : Pattern → Type 0) → Each A header_schemes
unfolding header_schemes
scheme_laws A =
    appended (syntax_laws A) (appended (fresh_laws A) (appended (substitution_laws A)
    (appended (predicate_laws A) (appended (propositional_laws A) (appended (first_order_laws A)
    (appended (equality_laws A) (appended (membership_laws A) (appended (application_laws A)
    (reachability_laws A)))))))))
