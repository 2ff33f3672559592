-- The tokens of values: their sorts and their texts.
use Rattle.std.proofs.Common.{◌≡◌, ◌≢◌, ◌<◌, ◌+◌, ◌/◌, ◌%◌, ℕ, zero, suc, List, [], ◌∷◌, ◌++◌}
use Rattle.std.proofs.Common.{Option, Some, None, option_map, slice_get, refl, sym, ◌∙◌, ap, subst}
use Rattle.std.proofs.Common.{Bool, true, false, cond, arith}
use Rattle.std.specs.Prelude.{codes, nat_lt}
use Rattle.std.specs.Char.{digit_char}
use Rattle.std.proofs.lemmas.Bool.{ltb-true}
use Rattle.ml_pat.specs.Named.{AreDistinct}
use Rattle.ml_pat.specs.Patterns.{Pattern, constant}
use Rattle.term_core.specs.Terms.{DomainValue}
use Rattle.term_core.specs.ValueTexts.{value_text}
use Rattle.rule_core.specs.DistinctNames.{names_of}
use Rattle.rule_core.specs.DistinctNames.{AreDistinct as HaveDistinctNames}
use Rattle.rule_core.specs.Named.{number_of_name}
use Rattle.rule_core.specs.Sorting.{HasValue, IsValueOf}
use Rattle.rule_core.specs.declared.signature.Signature.{Signature}
use Rattle.rule_core.specs.declared.signature.SortInfo.{SortInfo}
use Rattle.rule_core.specs.declared.signature.SortKind.{SortKind}
use Rattle.ml_image.specs.Tokens.{hexadecimal, value_token, name_at, number_in_names}
use Rattle.ml_image.specs.Tokens.{token_of_value}
use Rattle.ml_image.proofs.ImageLaws.{none_some, some_same}
use Rattle.true_facts.specs.Digits.{AreBytes, HasNoColon}
use Rattle.true_facts.specs.Only.{IsOnly}
use Rattle.true_facts.specs.Values.{IsValueAt, IsKindAt}
use Rattle.true_facts.proofs.ColonLaws.{same_parts}
use Rattle.true_facts.proofs.OnlyLaws.{only_none, only_some, pair_same}
use Rattle.true_facts.proofs.TokenLaws.{numbered_from, numbered_to, name_there, named_there}
use Rattle.true_facts.proofs.TokenLaws.{same_name}
use Rattle.true_facts.proofs.ValueLaws.{HasDigits, value_bytes}

-- ---- no digit is a colon

no_colon : (d : ℕ) → d < 16 → digit_char d ≡ 58 → ⊥
no_colon d low h = by_size (nat_lt d 10) refl h
  where
    by_size : (b : Bool) → nat_lt d 10 ≡ b → cond b (48 + d) (87 + d) ≡ 58 → ⊥
    by_size true e h = let small : d < 10 = ltb-true d 10 e in omega (arith, h, small)
    by_size false e h = omega (arith, h)

digits_no_colon : (bytes : List ℕ) → AreBytes bytes → HasNoColon (hexadecimal bytes)
digits_no_colon [] are i low h = omega (arith, low)
digits_no_colon (b ∷ bytes) are zero low h =
    let small : b < 256 = are 0 0 (omega arith) in no_colon (b / 16) (omega arith) h
digits_no_colon (b ∷ bytes) are (suc zero) low h = no_colon (b % 16) (omega arith) h
digits_no_colon (b ∷ bytes) are (suc (suc i)) low h =
    digits_no_colon bytes (λ k d within. are (suc k) d (omega arith)) i (omega (arith, low)) h

-- ---- what is at the place of a value's constant

pub record HasToken (sig : Signature) (names : List (List ℕ)) (p : Pattern)
    (x : ℕ × DomainValue) : Type 0 where
  pub number : ℕ
  pub is_constant : p ≡ constant number
  pub name : List ℕ
  pub named : name_at sig.sorts x.0 ≡ Some name
  pub there : slice_get names number ≡ Some (value_token name x.1)

pub token_at : (sig : Signature) (names : List (List ℕ)) (p : Pattern) (x : ℕ × DomainValue)
    → IsValueAt sig names p x → HasToken sig names p x
token_at sig names p x h = by_number (number_in_names names (token_of_value sig x.0 x.1)) refl h.1
  where
    by_number : (o : Option ℕ) → number_in_names names (token_of_value sig x.0 x.1) ≡ o
        → option_map constant o ≡ Some p → HasToken sig names p x
    by_number None e i = absurd (none_some p i)
    by_number (Some n) e i =
        let t = numbered_from names (λ name. value_token name x.1) (name_at sig.sorts x.0) n e in
        record {
          number = n;
          is_constant = sym (some_same (constant n) p i);
          name = t.0;
          named = t.1;
          there = t.2;
        }

pub not_constant : (sig : Signature) (names : List (List ℕ)) (p : Pattern)
    → ((c : ℕ) → p ≢ constant c) → IsOnly (IsValueAt sig names p) None
not_constant sig names p none =
    only_none (IsValueAt sig names p) (λ x h.
    let t : HasToken sig names p x = token_at sig names p x h in none t.number t.is_constant)

-- the token is at the place of the constant's number
pub there_at : (sig : Signature) (names : List (List ℕ)) (p : Pattern) (x : ℕ × DomainValue) (n : ℕ)
    → p ≡ constant n → (t : HasToken sig names p x)
    → slice_get names n ≡ Some (value_token t.name x.1)
there_at sig names p x n is t =
    let same : constant n ≡ constant t.number = sym is ∙ t.is_constant in
    let numbers : n ≡ t.number = cc in ap (slice_get names) numbers ∙ t.there

pub no_value_prefix : (sig : Signature) (names : List (List ℕ)) (p : Pattern) (n : ℕ)
    → p ≡ constant n → ((rest : List ℕ) → slice_get names n ≢ Some (codes "d:" ++ rest))
    → IsOnly (IsValueAt sig names p) None
no_value_prefix sig names p n is none =
    only_none (IsValueAt sig names p) (λ x h.
    let t : HasToken sig names p x = token_at sig names p x h in
    none (t.name ++ 58 ∷ hexadecimal (value_text x.1)) (there_at sig names p x n is t))

pub no_last_colon : (sig : Signature) (names : List (List ℕ)) (p : Pattern) (n : ℕ) (rest : List ℕ)
    → p ≡ constant n → slice_get names n ≡ Some (codes "d:" ++ rest)
    → ((x y : List ℕ) → rest ≢ x ++ 58 ∷ y) → IsOnly (IsValueAt sig names p) None
no_last_colon sig names p n rest is there none =
    only_none (IsValueAt sig names p) (λ x h.
    let t : HasToken sig names p x = token_at sig names p x h in
    none t.name (hexadecimal (value_text x.1))
    (same_name names n (codes "d:") rest (t.name ++ 58 ∷ hexadecimal (value_text x.1)) there
    (there_at sig names p x n is t)))

-- ---- the parts of a value's token

-- the token with this number has this name and these digits
pub record HasPieces (sig : Signature) (names : List (List ℕ)) (p : Pattern) (name digits : List ℕ)
    : Type 0 where
  pub number : ℕ
  pub is_constant : p ≡ constant number
  pub there : slice_get names number ≡ Some (codes "d:" ++ (name ++ 58 ∷ digits))
  pub last : HasNoColon digits

pub pieces : (sig : Signature) (names : List (List ℕ)) (p : Pattern) (n : ℕ)
    (rest name digits : List ℕ) → p ≡ constant n → slice_get names n ≡ Some (codes "d:" ++ rest)
    → (rest ≡ name ++ 58 ∷ digits) × HasNoColon digits → HasPieces sig names p name digits
pieces sig names p n rest name digits is there parts = record {
  number = n;
  is_constant = is;
  there = there ∙ ap (λ (r : List ℕ). Some (codes "d:" ++ r)) parts.0;
  last = parts.1;
}

has_bytes : (sig : Signature) (s : ℕ) (v : DomainValue) → HasValue sig s v
    → AreBytes (value_text v)
has_bytes sig s v (name, info, there, is) = value_bytes info.kind v is

read_value : (sig : Signature) (names : List (List ℕ)) (p : Pattern) (name digits : List ℕ)
    (x : ℕ × DomainValue) → HasPieces sig names p name digits → IsValueAt sig names p x
    → (name_at sig.sorts x.0 ≡ Some name) × (digits ≡ hexadecimal (value_text x.1))
read_value sig names p name digits x h v =
    let t : HasToken sig names p x = token_at sig names p x v in
    let same : name ++ 58 ∷ digits ≡ t.name ++ 58 ∷ hexadecimal (value_text x.1) =
    same_name names h.number (codes "d:") (name ++ 58 ∷ digits)
    (t.name ++ 58 ∷ hexadecimal (value_text x.1)) h.there
    (there_at sig names p x h.number h.is_constant t) in
    let parts : (name ≡ t.name) × (digits ≡ hexadecimal (value_text x.1)) =
    same_parts name t.name digits (hexadecimal (value_text x.1)) same h.last
    (digits_no_colon (value_text x.1) (has_bytes sig x.0 x.1 v.0)) in
    (t.named ∙ ap (λ (l : List ℕ). Some l) (sym parts.0), parts.1)

pub no_sort : (sig : Signature) (names : List (List ℕ)) (p : Pattern) (name digits : List ℕ)
    → HaveDistinctNames (names_of sig.sorts) → HasPieces sig names p name digits
    → number_of_name sig.sorts name ≡ None → IsOnly (IsValueAt sig names p) None
no_sort sig names p name digits d h none =
    only_none (IsValueAt sig names p) (λ x v.
    none_some x.0 (sym none ∙ named_there sig.sorts name x.0 d
    (read_value sig names p name digits x h v).0))

-- the sort of the value, and its digits
sort_read : (sig : Signature) (names : List (List ℕ)) (p : Pattern) (name digits : List ℕ)
    (place : ℕ) (k : SortKind) (x : ℕ × DomainValue) → HaveDistinctNames (names_of sig.sorts)
    → HasPieces sig names p name digits → number_of_name sig.sorts name ≡ Some place
    → IsKindAt sig place k → IsValueAt sig names p x → (place ≡ x.0) × HasDigits k digits x.1
sort_read sig names p name digits place k x d h named (key, info, there, is) v =
    let read = read_value sig names p name digits x h v in
    let same : place ≡ x.0 =
    some_same place x.0 (sym named ∙ named_there sig.sorts name x.0 d read.0) in
    let entry : ◌≡◌ {A = List ℕ × SortInfo} (v.0.0, v.0.1) (key, info) =
    some_same (v.0.0, v.0.1) (key, info)
    (sym v.0.2 ∙ ap (slice_get sig.sorts) (sym same) ∙ there) in
    let kinds : v.0.1.kind ≡ k = ap (λ (e : List ℕ × SortInfo). e.1.kind) entry ∙ is in
    (same, (subst (λ (j : SortKind). IsValueOf j x.1) kinds v.0.3, read.1))

pub no_digits : (sig : Signature) (names : List (List ℕ)) (p : Pattern) (name digits : List ℕ)
    (place : ℕ) (k : SortKind) → HaveDistinctNames (names_of sig.sorts)
    → HasPieces sig names p name digits → number_of_name sig.sorts name ≡ Some place
    → IsKindAt sig place k → IsOnly (HasDigits k digits) None → IsOnly (IsValueAt sig names p) None
no_digits sig names p name digits place k d h named kind none =
    only_none (IsValueAt sig names p) (λ x v.
    none_some x.1 ((none x.1).0 (sort_read sig names p name digits place k x d h named kind v).1))

pub value_is : (sig : Signature) (names : List (List ℕ)) (p : Pattern) (name digits : List ℕ)
    (place : ℕ) (k : SortKind) (w : DomainValue) → AreDistinct names
    → HaveDistinctNames (names_of sig.sorts) → HasPieces sig names p name digits
    → number_of_name sig.sorts name ≡ Some place → IsKindAt sig place k
    → IsOnly (HasDigits k digits) (Some w) → IsOnly (IsValueAt sig names p) (Some (place, w))
value_is sig names p name digits place k w dn d h named kind one =
    let has : HasDigits k digits w = (one w).1 refl in
    let there : slice_get names h.number ≡ Some (value_token name w) =
    h.there ∙ ap (λ (ds : List ℕ). Some (codes "d:" ++ (name ++ 58 ∷ ds))) has.1 in
    let numbered : number_in_names names (token_of_value sig place w) ≡ Some h.number =
    numbered_to names (λ (l : List ℕ). value_token l w) (name_at sig.sorts place) h.number name dn
    (name_there sig.sorts name place named) there in
    only_some (IsValueAt sig names p) (place, w) (
      (kind.0, kind.1, kind.2, subst (λ (j : SortKind). IsValueOf j w) (sym kind.3) has.0),
      ap (λ (o : Option ℕ). option_map constant o) numbered
          ∙ ap (λ (q : Pattern). Some q) (sym h.is_constant),
    )
    (λ x v.
    let read = sort_read sig names p name digits place k x d h named kind v in
    pair_same place x.0 w x.1 read.0 (some_same w x.1 ((one x.1).0 read.1)))
