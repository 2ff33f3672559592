-- Values, by the kind of their sort.
use Rattle.std.proofs.Common.{◌≡◌, ◌≢◌, ◌<◌, ◌≤◌, ◌+◌, ◌/◌, ℕ, zero, suc, List, [], ◌∷◌, ◌++◌}
use Rattle.std.proofs.Common.{Option, Some, None, option_map, Bool, true, false, cond, ◌⊎◌, inl, inr}
use Rattle.std.proofs.Common.{refl, sym, ◌∙◌, ap, subst, arith}
use Rattle.std.specs.Prelude.{ℤ, IsTrue, codes}
use Rattle.std.specs.Fmt.{signed_decimal}
use Rattle.std.specs.Str.{is_utf8, IsUtf8}
use Rattle.std.proofs.lemmas.Bool.{ltb-true}
use Rattle.std.proofs.lemmas.Str.{IsUtf8-from_is_utf8, IsUtf8-from_ascii}
use Rattle.itoa.proofs.Decimal.{signed_wide}
use Rattle.std.specs.Int.{w128}
use Rattle.std.proofs.lemmas.Int.{to_z-of_z}
use lib.Dec.{ltb}
use lib.Utf8.{scalar, scalars, next, encode, encodes, scalar_cases}
use Rattle.rule_core.proofs.Belows.{both_true}
use Rattle.ml_image.specs.Tokens.{hexadecimal}
use Rattle.true_facts.specs.Digits.{AreBytes}
use Rattle.true_facts.proofs.DigitLaws.{same_bytes}
use Rattle.true_facts.proofs.IntegerLaws.{range_fits, stored}
use Rattle.term_core.specs.Terms.{DomainValue, integer, truth, text}
use Rattle.term_core.specs.HookValues.{is_in_range}
use Rattle.term_core.specs.ValueTexts.{value_text}
use Rattle.rule_core.specs.Sorting.{IsValueOf}
use Rattle.rule_core.specs.declared.signature.SortKind.{SortKind}
use Rattle.rule_core.specs.declared.signature.SortKind.TheVariants as kind
use Rattle.ml_image.proofs.ImageLaws.{none_some, some_same}
use Rattle.true_facts.specs.Only.{IsOnly}
use Rattle.true_facts.specs.Values.{HasValueText}
use Rattle.true_facts.proofs.OnlyLaws.{only_none, only_some}

pub integer_only : (bytes : List ℕ) (o : Option ℤ)
    → IsOnly (λ z. IsTrue (is_in_range z) × (signed_decimal z ≡ bytes)) o
    → IsOnly (HasValueText kind.Int bytes) (option_map integer o)
integer_only bytes None one = only_none (HasValueText kind.Int bytes) others
  where
    others : (v : DomainValue) → HasValueText kind.Int bytes v → ⊥
    others (integer z) h = none_some z ((one z).0 h)
    others (truth b) h = absurd h.0
    others (text words) h = absurd h.0
integer_only bytes (Some n) one =
    only_some (HasValueText kind.Int bytes) (integer n) ((one n).1 refl) others
  where
    others : (v : DomainValue) → HasValueText kind.Int bytes v → integer n ≡ v
    others (integer z) h = ap integer (some_same n z ((one z).0 h))
    others (truth b) h = absurd h.0
    others (text words) h = absurd h.0

-- the same with the machine's form of the integer
pub stored_only : (bytes : List ℕ) (n : ℤ)
    → IsOnly (λ z. IsTrue (is_in_range z) × (signed_decimal z ≡ bytes)) (Some n)
    → IsOnly (HasValueText kind.Int bytes) (Some (integer (stored n)))
stored_only bytes n one =
    let plain : stored n ≡ n = to_z-of_z w128 n (range_fits n ((one n).1 refl).0) in
    subst (λ (z : ℤ). IsOnly (HasValueText kind.Int bytes) (Some (integer z))) (sym plain)
    (integer_only bytes (Some n) one)

pub truth_only : (bytes : List ℕ) (o : Option Bool)
    → IsOnly (λ b. value_text (truth b) ≡ bytes) o
    → IsOnly (HasValueText kind.Bool bytes) (option_map truth o)
truth_only bytes None one = only_none (HasValueText kind.Bool bytes) others
  where
    others : (v : DomainValue) → HasValueText kind.Bool bytes v → ⊥
    others (integer z) h = absurd h.0
    others (truth b) h = none_some b ((one b).0 h.1)
    others (text words) h = absurd h.0
truth_only bytes (Some a) one =
    only_some (HasValueText kind.Bool bytes) (truth a) (tt, (one a).1 refl) others
  where
    others : (v : DomainValue) → HasValueText kind.Bool bytes v → truth a ≡ v
    others (integer z) h = absurd h.0
    others (truth b) h = ap truth (some_same a b ((one b).0 h.1))
    others (text words) h = absurd h.0

-- the kinds of sorts whose values are texts
abbrev pub HasTexts : SortKind → Type 0
HasTexts kind.Map = Unit {0}
HasTexts kind.Other = Unit {0}
HasTexts _ = ⊥

pub text_only : (k : SortKind) (bytes : List ℕ) → HasTexts k → IsTrue (is_utf8 bytes)
    → IsOnly (HasValueText k bytes) (Some (text bytes))
text_only kind.Int bytes h valid = absurd h
text_only kind.Bool bytes h valid = absurd h
text_only kind.Map bytes h valid =
    only_some (HasValueText kind.Map bytes) (text bytes) (valid, refl) others
  where
    others : (v : DomainValue) → HasValueText kind.Map bytes v → text bytes ≡ v
    others (integer z) h = absurd h.0
    others (truth b) h = absurd h.0
    others (text words) h = ap text (sym h.1)
text_only kind.Other bytes h valid =
    only_some (HasValueText kind.Other bytes) (text bytes) (valid, refl) others
  where
    others : (v : DomainValue) → HasValueText kind.Other bytes v → text bytes ≡ v
    others (integer z) h = absurd h.0
    others (truth b) h = absurd h.0
    others (text words) h = ap text (sym h.1)

-- ---- texts of values

text_utf8 : (k : SortKind) (bytes : List ℕ) → IsValueOf k (text bytes) → IsUtf8 bytes
text_utf8 kind.Int bytes h = absurd h
text_utf8 kind.Bool bytes h = absurd h
text_utf8 kind.Map bytes h = IsUtf8-from_is_utf8 bytes h
text_utf8 kind.Other bytes h = IsUtf8-from_is_utf8 bytes h

integer_in_range : (k : SortKind) (z : ℤ) → IsValueOf k (integer z) → IsTrue (is_in_range z)
integer_in_range kind.Int z h = h
integer_in_range kind.Bool z h = absurd h
integer_in_range kind.Map z h = absurd h
integer_in_range kind.Other z h = absurd h

truth_utf8 : (b : Bool) → IsUtf8 (value_text (truth b))
unfolding encode
truth_utf8 true = (codes "true", (refl, refl))
truth_utf8 false = (codes "false", (refl, refl))

pub value_utf8 : (k : SortKind) (v : DomainValue) → IsValueOf k v → IsUtf8 (value_text v)
value_utf8 k (integer z) h =
    IsUtf8-from_ascii (signed_decimal z)
    (signed_wide z (range_fits z (integer_in_range k z h))).0
value_utf8 k (truth true) h = truth_utf8 true
value_utf8 k (truth false) h = truth_utf8 false
value_utf8 k (text bytes) h = text_utf8 k bytes h

-- ---- bytes of texts

byte-cons : (b : ℕ) (bytes : List ℕ) → b < 256 → AreBytes bytes → AreBytes (b ∷ bytes)
byte-cons b bytes low are zero d within = low
byte-cons b bytes low are (suc k) d within = are k d (omega arith)

no_bytes : AreBytes []
no_bytes k d within = absurd (omega arith)

bytes-append : (xs ys : List ℕ) → AreBytes xs → AreBytes ys → AreBytes (xs ++ ys)
bytes-append [] ys hx hy = hy
bytes-append (x ∷ xs) ys hx hy =
    byte-cons x (xs ++ ys) (hx 0 0 (omega arith))
    (bytes-append xs ys (λ k d within. hx (suc k) d (omega arith)) hy)

more_bytes : (c : ℕ) (bytes : List ℕ) → AreBytes bytes → AreBytes (next c ∷ bytes)
more_bytes c bytes are = byte-cons (next c) bytes (omega arith) are

character_bytes : (c : ℕ) → scalar c ≡ true → AreBytes (encode c)
unfolding encode
character_bytes c is = one (ltb c 128) refl
  where
    low : c < 1114112
    low = limit (scalar_cases c is)
      where
        limit : (c < 55296) ⊎ ((57344 ≤ c) × (c < 1114112)) → c < 1114112
        limit (inl h) = omega (arith, h)
        limit (inr h) = h.1

    three : (b : Bool) → ltb c 65536 ≡ b
        → AreBytes (cond b ((224 + c / 4096) ∷ next (c / 64) ∷ next c ∷ [])
        ((240 + c / 262144) ∷ next (c / 4096) ∷ next (c / 64) ∷ next c ∷ []))
    three true e =
        let near : c < 65536 = ltb-true c 65536 e in
        byte-cons (224 + c / 4096) (next (c / 64) ∷ next c ∷ []) (omega (arith, near))
        (more_bytes (c / 64) (next c ∷ []) (more_bytes c [] no_bytes))
    three false e =
        byte-cons (240 + c / 262144) (next (c / 4096) ∷ next (c / 64) ∷ next c ∷ [])
        (omega (arith, low))
        (more_bytes (c / 4096) (next (c / 64) ∷ next c ∷ [])
        (more_bytes (c / 64) (next c ∷ []) (more_bytes c [] no_bytes)))

    two : (b : Bool) → ltb c 2048 ≡ b
        → AreBytes (cond b ((192 + c / 64) ∷ next c ∷ []) (cond (ltb c 65536)
        ((224 + c / 4096) ∷ next (c / 64) ∷ next c ∷ [])
        ((240 + c / 262144) ∷ next (c / 4096) ∷ next (c / 64) ∷ next c ∷ [])))
    two true e =
        let near : c < 2048 = ltb-true c 2048 e in
        byte-cons (192 + c / 64) (next c ∷ []) (omega (arith, near)) (more_bytes c [] no_bytes)
    two false e = three (ltb c 65536) refl

    one : (b : Bool) → ltb c 128 ≡ b
        → AreBytes (cond b (c ∷ []) (cond (ltb c 2048) ((192 + c / 64) ∷ next c ∷ [])
        (cond (ltb c 65536) ((224 + c / 4096) ∷ next (c / 64) ∷ next c ∷ [])
        ((240 + c / 262144) ∷ next (c / 4096) ∷ next (c / 64) ∷ next c ∷ []))))
    one true e =
        let near : c < 128 = ltb-true c 128 e in byte-cons c [] (omega (arith, near)) no_bytes
    one false e = two (ltb c 2048) refl

characters_bytes : (cs : List ℕ) → scalars cs ≡ true → AreBytes (encodes cs)
characters_bytes [] is = no_bytes
characters_bytes (c ∷ cs) is =
    let parts : (scalar c ≡ true) × (scalars cs ≡ true) = both_true (scalar c) (scalars cs) is in
    bytes-append (encode c) (encodes cs) (character_bytes c parts.0)
    (characters_bytes cs parts.1)

utf8_bytes : (bytes : List ℕ) → IsUtf8 bytes → AreBytes bytes
utf8_bytes bytes (cs, (is, spelled)) = subst AreBytes spelled (characters_bytes cs is)

pub value_bytes : (k : SortKind) (v : DomainValue) → IsValueOf k v → AreBytes (value_text v)
value_bytes k v h = utf8_bytes (value_text v) (value_utf8 k v h)

-- ---- values whose texts have these digits

abbrev pub HasDigits : SortKind → List ℕ → DomainValue → Type 0
HasDigits k digits v = IsValueOf k v × (digits ≡ hexadecimal (value_text v))

pub not_digits : (k : SortKind) (digits : List ℕ)
    → ((bytes : List ℕ) → AreBytes bytes → digits ≢ hexadecimal bytes)
    → IsOnly (HasDigits k digits) None
not_digits k digits none =
    only_none (HasDigits k digits) (λ v h. none (value_text v) (value_bytes k v h.0) h.1)

pub not_text : (k : SortKind) (digits bytes : List ℕ) → AreBytes bytes
    → digits ≡ hexadecimal bytes → (IsUtf8 bytes → ⊥) → IsOnly (HasDigits k digits) None
not_text k digits bytes are is none =
    only_none (HasDigits k digits) (λ v h. none (subst IsUtf8
    (same_bytes (value_text v) bytes (value_bytes k v h.0) are (sym h.1 ∙ is))
    (value_utf8 k v h.0)))

pub digits_only : (k : SortKind) (digits bytes : List ℕ) (o : Option DomainValue) → AreBytes bytes
    → digits ≡ hexadecimal bytes → IsOnly (HasValueText k bytes) o
    → IsOnly (HasDigits k digits) o
digits_only k digits bytes o are is one v = (
  λ h. (one v).0
      (h.0, same_bytes (value_text v) bytes (value_bytes k v h.0) are (sym h.1 ∙ is)),
  λ e. let h : HasValueText k bytes v = (one v).1 e in (h.0, is ∙ ap hexadecimal (sym h.1)),
)
