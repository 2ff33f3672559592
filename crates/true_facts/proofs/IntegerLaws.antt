-- The canonical text of an integer of 128 bits is read back, and is ASCII.
use Rattle.std.proofs.Common.{◌≡◌, ◌<◌, ◌≤◌, ◌-◌, ◌^◌, ℕ, suc, List, ◌∷◌, Result, Ok, Some, None}
use Rattle.std.proofs.Common.{ap, sym, ◌∙◌, subst, refl, true, false, to_z, of_z, arith}
use Rattle.std.specs.Prelude.{ℤ, pos, negsuc, neg_ℤ, IsTrue, nat_le}
use Rattle.std.specs.Fmt.{signed_decimal, decimal}
use Rattle.std.specs.Int.{w128}
use Rattle.std.specs.Int.RustNames.{FitsSigned}
use Rattle.std.specs.Str.{bytes_eq}
use Rattle.std.proofs.lemmas.Bool.{false≢true, lt-ltb, le-leb, ltb-true, leb-true}
use Rattle.std.proofs.lemmas.Int.{to_z-of_z}
use Rattle.std.proofs.lemmas.Slice.Eq.{bytes_eq-Decides}
use Rattle.rule_core.proofs.Belows.{both_true}
use Rattle.term_core.specs.HookValues.{is_in_range}
use Rattle.true_facts.specs.Only.{IsOnly}
use Rattle.true_facts.proofs.OnlyLaws.{only_none, only_some}
use Rattle.std.specs.Str.Parse.{ParsesSigned}
use Rattle.std.proofs.lemmas.Fmt.{decimal_is_IsNumeral_wide}
use Rattle.std.proofs.lemmas.Result.{Ok-from_Ok_iff}
use Rattle.std.proofs.lemmas.Str.Parse.{numerals_by_value, tells_digits, parse_signed_digits}
use Rattle.std.proofs.lemmas.Str.Parse.{parse_signed_minus}

pub parsed_back : {E : Type 0} (z : ℤ) (bs : List ℕ) (r : Result ℤ E) → FitsSigned w128 z
    → bs ≡ signed_decimal z → ParsesSigned w128 10 bs r → r ≡ Ok z
parsed_back (pos n) bs r fits is h =
    let k = decimal_is_IsNumeral_wide n (omega arith) in
    let read = parse_signed_digits (numerals_by_value _ tells_digits) w128 (decimal n) r
    (subst (λ l. ParsesSigned w128 10 l r) is h) k.0.1 in
    Ok-from_Ok_iff r _ _ read (k.0.0, omega (arith, k.1, fits.sfits)) ∙ ap (λ m. Ok (pos m)) k.1
parsed_back (negsuc n) bs r fits is h =
    let k = decimal_is_IsNumeral_wide (suc n) (omega arith) in
    let read = parse_signed_minus (numerals_by_value _ tells_digits) w128 (45 ∷ decimal (suc n)) r
    (subst (λ l. ParsesSigned w128 10 l r) is h) refl in
    Ok-from_Ok_iff r _ _ read (k.0.1, k.0.0, omega (arith, k.1, fits.sfits))
    ∙ ap (λ m. Ok (neg_ℤ (pos m))) k.1

-- ---- the range

pub fits_range : (z : ℤ) → FitsSigned w128 z → IsTrue (is_in_range z)
fits_range (pos n) fits = lt-ltb n (2 ^ 127) (omega (arith, fits.sfits))
fits_range (negsuc n) fits =
    let low : nat_le n (2 ^ 127 - 1) ≡ true = le-leb n (2 ^ 127 - 1) (omega (arith, fits.sfits)) in
    rw low refl

pub range_fits : (z : ℤ) → IsTrue (is_in_range z) → FitsSigned w128 z
range_fits (pos n) h =
    let low : n < 2 ^ 127 = ltb-true n (2 ^ 127) h in record { sfits = omega (arith, low) }
range_fits (negsuc n) h =
    let low : n ≤ 2 ^ 127 - 1 = leb-true n (2 ^ 127 - 1) (both_true _ _ h).0 in
    record { sfits = omega (arith, low) }

-- ---- the integer that was read

-- the integer whose text it is
pub parsed_same : {E : Type 0} (n z : ℤ) (bs : List ℕ) (r : Result ℤ E) → r ≡ Ok n
    → ParsesSigned w128 10 bs r → IsTrue (is_in_range z) → signed_decimal z ≡ bs → n ≡ z
parsed_same n z bs r is h range text =
    let same : r ≡ Ok z = parsed_back z bs r (range_fits z range) (sym text) h in cc

parsed_fits : {E : Type 0} (n : ℤ) (bs : List ℕ) (r : Result ℤ E) → r ≡ Ok n
    → ParsesSigned w128 10 bs r → FitsSigned w128 n
parsed_fits {E} n bs r is h =
    let ok : ParsesSigned {E = E} w128 10 bs (Ok n) =
    subst (ParsesSigned {E = E} w128 10 bs) is h in
    subst (FitsSigned w128) (sym ok.1) ok.0.1

abbrev HasText : List ℕ → ℤ → Type 0
HasText bs z = IsTrue (is_in_range z) × (signed_decimal z ≡ bs)

-- the machine's form of an integer
abbrev pub stored : ℤ → ℤ
stored n = to_z w128 (of_z w128 n)

pub parsed_only : {E : Type 0} (n : ℤ) (bs shown : List ℕ) (r : Result ℤ E) → r ≡ Ok n
    → ParsesSigned w128 10 bs r → shown ≡ signed_decimal (stored n) → bytes_eq shown bs ≡ true
    → IsOnly (HasText bs) (Some (stored n))
parsed_only n bs shown r is h text same =
    let fits : FitsSigned w128 n = parsed_fits n bs r is h in
    let plain : stored n ≡ n = to_z-of_z w128 n fits in
    only_some (HasText bs) (stored n) (
      fits_range (stored n) (subst (FitsSigned w128) (sym plain) fits),
      sym text ∙ (bytes_eq-Decides shown bs).0 same,
    )
    (λ z t. plain ∙ parsed_same n z bs r is h t.0 t.1)

pub parsed_other : {E : Type 0} (n : ℤ) (bs shown : List ℕ) (r : Result ℤ E) → r ≡ Ok n
    → ParsesSigned w128 10 bs r → shown ≡ signed_decimal (stored n) → bytes_eq shown bs ≡ false
    → IsOnly (HasText bs) None
parsed_other n bs shown r is h text other =
    let plain : stored n ≡ n = to_z-of_z w128 n (parsed_fits n bs r is h) in
    only_none (HasText bs) (λ z t. false≢true (sym other ∙ (bytes_eq-Decides shown bs).1
    (text ∙ ap signed_decimal (plain ∙ parsed_same n z bs r is h t.0 t.1) ∙ t.1)))

pub not_parsed : {E : Type 0} (bs : List ℕ) (r : Result ℤ E) → ((z : ℤ) → r ≡ Ok z → ⊥)
    → ParsesSigned w128 10 bs r → IsOnly (HasText bs) None
not_parsed bs r none h =
    only_none (HasText bs) (λ z t. none z (parsed_back z bs r (range_fits z t.0) (sym t.1) h))
