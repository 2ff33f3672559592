-- The integer that a text is read as.
use Rattle.std.proofs.Common.{◌≡◌, ◌<◌, ◌≤◌, ◌^◌, ◌-◌, ℕ, Bool, true, false, List, [], ◌∷◌, length, Some}
use Rattle.std.proofs.Common.{zero, suc, if◌then◌else◌, Option, None, eq-eqb, refl, sym, ◌∙◌, ap}
use Rattle.std.proofs.Common.{arith, rules}
use Rattle.std.specs.Prelude.{ℤ, pos, neg_ℤ, Result, Ok, Err, nat_lt, nat_le, ◌==◌, ◌&&◌}
use Rattle.std.specs.Int.{w128}
use Rattle.std.specs.Str.{all_ascii_digits}
use Rattle.std.specs.Str.Parse.{ParsesSigned}
use Rattle.std.specs.Result.{OkIff, result_ok}
use Rattle.std.proofs.lemmas.Bool.{eqb-true, false≢true, ltb-true, lt-ltb, leb-true, le-leb}
use Rattle.std.proofs.lemmas.Str.Parse.{IsNumeralModel, numerals_by_fold, parse_signed_plain}
use Rattle.std.proofs.lemmas.Str.Parse.{parse_signed_plus, parse_signed_minus}
use Rattle.rule_core.proofs.Belows.{both_true}
use Rattle.term_core.specs.HookValues.{is_in_range}
use Rattle.term_core.specs.declared.values.NoValue.{NoValue}
use Rattle.term_core.specs.declared.values.NoValue.TheVariants.{Range}
use Rattle.kore_check.specs.ValueTexts.{append_digits, number_of_digits, not_negative, negated}
use Rattle.kore_check.specs.ValueTexts.{integer_of_text}

-- the integer, if it is in the range
abbrev kept : ℤ → Bool → Option ℤ
kept z b = result_ok {E = NoValue} (if b then Ok z else Err Range)

in_range_up : (n : ℕ) → is_in_range (pos n) ≡ nat_lt n (2 ^ 127)
in_range_up n = refl

in_range_down : (n : ℕ) → is_in_range (neg_ℤ (pos n)) ≡ nat_le n (2 ^ 127)
in_range_down zero = refl
in_range_down (suc n) = by_case (nat_le n (2 ^ 127 - 1)) refl where
  beyond : (t : Bool) → nat_le (suc n) (2 ^ 127) ≡ t → nat_le n (2 ^ 127 - 1) ≡ false
      → false ≡ nat_le (suc n) (2 ^ 127)
  beyond false f e = sym f
  beyond true f e =
      let le : suc n ≤ 2 ^ 127 = leb-true _ _ f in
      absurd (false≢true (sym e ∙ le-leb n (2 ^ 127 - 1) (omega (arith, le))))

  by_case : (t : Bool) → nat_le n (2 ^ 127 - 1) ≡ t
      → is_in_range (neg_ℤ (pos (suc n))) ≡ nat_le (suc n) (2 ^ 127)
  by_case true e =
      let le : n ≤ 2 ^ 127 - 1 = leb-true _ _ e in
      rw e (sym (le-leb (suc n) (2 ^ 127) (omega (arith, le))))
  by_case false e = rw e (beyond (nat_le (suc n) (2 ^ 127)) refl e)

own : IsNumeralModel (λ ds. all_ascii_digits ds ≡ true) (append_digits 0)
own = numerals_by_fold _ (search rules) append_digits (search rules)

digits_are : (ds : List ℕ) → all_ascii_digits ds ≡ true → 0 < length ds
    → number_of_digits ds ≡ Some (append_digits 0 ds)
digits_are ds all some = rw (all, lt-ltb 0 (length ds) some) refl

-- the number of the digits if it is small enough, or none
not_negative_is : {E : Type 0} (r : Result ℤ E) (ds : List ℕ)
    → OkIff r ((all_ascii_digits ds ≡ true) × (0 < length ds) × (append_digits 0 ds < 2 ^ 127))
    (pos (append_digits 0 ds)) → result_ok r ≡ not_negative (number_of_digits ds)
not_negative_is (Ok z) ds (q, e) =
    ap (λ (x : ℤ). Some x) e
    ∙ sym (ap not_negative (digits_are ds q.0 q.1) ∙ small (append_digits 0 ds) q.2) where
      small : (n : ℕ) → n < 2 ^ 127 → not_negative (Some n) ≡ Some (pos n)
      small n lt = ap (kept (pos n)) (in_range_up n ∙ lt-ltb n (2 ^ 127) lt)
not_negative_is (Err x) ds none = by_case (all_ascii_digits ds && nat_lt 0 (length ds)) refl where
  large : (t : Bool) → nat_lt (append_digits 0 ds) (2 ^ 127) ≡ t
      → (all_ascii_digits ds ≡ true) × (nat_lt 0 (length ds) ≡ true)
      → not_negative (Some (append_digits 0 ds)) ≡ None
  large true e both = absurd (none (both.0, ltb-true _ _ both.1, ltb-true _ _ e))
  large false e both =
      ap (kept (pos (append_digits 0 ds))) (in_range_up (append_digits 0 ds) ∙ e)

  by_case : (t : Bool) → (all_ascii_digits ds && nat_lt 0 (length ds)) ≡ t
      → None ≡ not_negative (number_of_digits ds)
  by_case false e = rw e refl
  by_case true e =
      let both : (all_ascii_digits ds ≡ true) × (nat_lt 0 (length ds) ≡ true) = both_true _ _ e in
      sym (ap not_negative (digits_are ds both.0
      (ltb-true _ _ both.1)) ∙ large (nat_lt (append_digits 0 ds) (2 ^ 127)) refl both)

negated_is : {E : Type 0} (r : Result ℤ E) (ds : List ℕ)
    → OkIff r ((all_ascii_digits ds ≡ true) × (0 < length ds) × (append_digits 0 ds ≤ 2 ^ 127))
    (neg_ℤ (pos (append_digits 0 ds))) → result_ok r ≡ negated (number_of_digits ds)
negated_is (Ok z) ds (q, e) =
    ap (λ (x : ℤ). Some x) e
    ∙ sym (ap negated (digits_are ds q.0 q.1) ∙ small (append_digits 0 ds) q.2) where
      small : (n : ℕ) → n ≤ 2 ^ 127 → negated (Some n) ≡ Some (neg_ℤ (pos n))
      small n le = ap (kept (neg_ℤ (pos n))) (in_range_down n ∙ le-leb n (2 ^ 127) le)
negated_is (Err x) ds none = by_case (all_ascii_digits ds && nat_lt 0 (length ds)) refl where
  large : (t : Bool) → nat_le (append_digits 0 ds) (2 ^ 127) ≡ t
      → (all_ascii_digits ds ≡ true) × (nat_lt 0 (length ds) ≡ true)
      → negated (Some (append_digits 0 ds)) ≡ None
  large true e both = absurd (none (both.0, ltb-true _ _ both.1, leb-true _ _ e))
  large false e both =
      ap (kept (neg_ℤ (pos (append_digits 0 ds)))) (in_range_down (append_digits 0 ds) ∙ e)

  by_case : (t : Bool) → (all_ascii_digits ds && nat_lt 0 (length ds)) ≡ t
      → None ≡ negated (number_of_digits ds)
  by_case false e = rw e refl
  by_case true e =
      let both : (all_ascii_digits ds ≡ true) × (nat_lt 0 (length ds) ≡ true) = both_true _ _ e in
      sym (ap negated (digits_are ds both.0
      (ltb-true _ _ both.1)) ∙ large (nat_le (append_digits 0 ds) (2 ^ 127)) refl both)

pub parsed : {E : Type 0} (bs : List ℕ) (r : Result ℤ E) → ParsesSigned w128 10 bs r
    → result_ok r ≡ integer_of_text bs
parsed [] r h =
    not_negative_is r []
    (parse_signed_plain own w128 [] r h (λ e. omega (arith, e)) (λ e. omega (arith, e)))
parsed (b ∷ bytes) r h = by_sign (b == 45) refl (b == 43) refl where
  by_sign : (minus : Bool) → (b == 45) ≡ minus → (plus : Bool) → (b == 43) ≡ plus
      → result_ok r ≡ integer_of_text (b ∷ bytes)
  by_sign true e plus f =
      rw e (negated_is r bytes (parse_signed_minus own w128 (b ∷ bytes) r h (eqb-true b 45 e)))
  by_sign false e true f =
      rw (e, f)
      (not_negative_is r bytes (parse_signed_plus own w128 (b ∷ bytes) r h (eqb-true b 43 f)))
  by_sign false e false f =
      rw (e, f) (not_negative_is r (b ∷ bytes) (parse_signed_plain own w128 (b ∷ bytes) r h
      (λ same. false≢true (sym f ∙ eq-eqb b 43 same))
      (λ same. false≢true (sym e ∙ eq-eqb b 45 same))))
