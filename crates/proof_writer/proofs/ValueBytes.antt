-- The canonical text of a domain value has only bytes.
use Rattle.std.proofs.Common.{◌≡◌, ◌≤◌, ◌<◌, ◌/◌, ◌%◌, ℕ, ℤ, Bool, true, false, cond, zero, suc}
use Rattle.std.proofs.Common.{◌+◌, List, [], ◌∷◌, ◌++◌, refl, sym, subst, inl, inr, arith}
use Rattle.std.specs.Prelude.{nat_le, nat_lt, ◌==◌, if◌then◌else◌, decimal, pos, negsuc, ◌⊎◌}
use Rattle.std.specs.List.{list_all}
use Rattle.std.specs.Fmt.{signed_decimal, digits_onto, digits, digit_glyph}
use Rattle.std.specs.Str.{is_utf8, IsUtf8}
use Rattle.std.proofs.lemmas.Str.{IsUtf8-from_is_utf8}
use lib.Utf8.{scalar, scalars, next, encode, encodes, scalar_cases}
use lib.Dec.{T, ltb, ltb→lt}
use Rattle.ml_pat.proofs.LeafLaws.{both_true, split_true}
use Rattle.term_core.specs.Terms.{DomainValue, integer, truth, text}
use Rattle.rule_core.specs.Sorting.{HasValue, IsValueOf}
use Rattle.rule_core.specs.declared.signature.Signature.{Signature}
use Rattle.rule_core.specs.declared.signature.SortKind.{SortKind}
use Rattle.rule_core.specs.declared.signature.SortKind.TheVariants as kind
use Rattle.term_core.specs.ValueTexts.{value_text}

abbrev pub is_byte : ℕ → Bool
is_byte b = nat_le b 255

-- ---- numbers

glyph_byte : (d : ℕ) → d < 10 → is_byte (digit_glyph false d) ≡ true
glyph_byte d h = go (nat_lt d 10)
  where
    go : (b : Bool) → is_byte (if b then 48 + d else (if false then 55 + d else 87 + d)) ≡ true
    go true = grind (arith, h)
    go false = grind (arith, h)

onto_bytes : (k n : ℕ) (acc : List ℕ) → list_all is_byte acc ≡ true
    → list_all is_byte (digits_onto k 10 false n acc) ≡ true
onto_bytes zero n acc h = h
onto_bytes (suc k) n acc h =
    let more : list_all is_byte (digit_glyph false (n % 10) ∷ acc) ≡ true =
    both_true (is_byte (digit_glyph false (n % 10))) (list_all is_byte acc)
    (glyph_byte (n % 10) (omega arith)) h in
    go (n / 10 == 0) more (onto_bytes k (n / 10) (digit_glyph false (n % 10) ∷ acc) more)
  where
    go : (b : Bool) → list_all is_byte (digit_glyph false (n % 10) ∷ acc) ≡ true →
        list_all is_byte (digits_onto k 10 false (n / 10) (digit_glyph false (n % 10) ∷ acc)) ≡ true
        →
        list_all is_byte (if b then digit_glyph false (n % 10) ∷ acc
        else digits_onto k 10 false (n / 10) (digit_glyph false (n % 10) ∷ acc)) ≡ true
    go true more behind = more
    go false more behind = behind

decimal_bytes : (n : ℕ) → list_all is_byte (decimal n) ≡ true
unfolding digits
decimal_bytes n = onto_bytes 64 n [] refl

signed_bytes : (n : ℤ) → list_all is_byte (signed_decimal n) ≡ true
signed_bytes (pos n) = decimal_bytes n
signed_bytes (negsuc n) =
    both_true (is_byte 45) (list_all is_byte (decimal (suc n))) refl (decimal_bytes (suc n))

-- ---- texts

append_bytes : (xs ys : List ℕ) → list_all is_byte xs ≡ true → list_all is_byte ys ≡ true
    → list_all is_byte (xs ++ ys) ≡ true
append_bytes [] ys h k = k
append_bytes (x ∷ xs) ys h k =
    let parts : (is_byte x ≡ true) × (list_all is_byte xs ≡ true) =
    split_true (is_byte x) (list_all is_byte xs) h in
    both_true (is_byte x) (list_all is_byte (xs ++ ys)) parts.0 (append_bytes xs ys parts.1 k)

within : (b : ℕ) → b ≤ 255 → is_byte b ≡ true
within b h = grind (arith, h)

one : (a : ℕ) (bs : List ℕ) → a ≤ 255 → list_all is_byte bs ≡ true
    → list_all is_byte (a ∷ bs) ≡ true
one a bs h k = both_true (is_byte a) (list_all is_byte bs) (within a h) k

next_byte : (c : ℕ) (bs : List ℕ) → list_all is_byte bs ≡ true
    → list_all is_byte (next c ∷ bs) ≡ true
next_byte c bs k = one (next c) bs (omega arith) k

low : (c : ℕ) → scalar c ≡ true → c < 1114112
low c h = go (scalar_cases c h)
  where
    go : (c < 55296) ⊎ ((57344 ≤ c) × (c < 1114112)) → c < 1114112
    go (inl h) = omega (arith, h)
    go (inr h) = h.1

lt_holds : (a b : ℕ) → ltb a b ≡ true → a < b
lt_holds a b h = ltb→lt a b (subst (λ (x : Bool). T x) (sym h) tt)

encode_bytes : (c : ℕ) → scalar c ≡ true → list_all is_byte (encode c) ≡ true
unfolding encode
encode_bytes c h = two (ltb c 128) refl
  where
    three : (b : Bool) → ltb c 65536 ≡ b
        → list_all is_byte (cond b ((224 + c / 4096) ∷ next (c / 64) ∷ next c ∷ [])
        ((240 + c / 262144) ∷ next (c / 4096) ∷ next (c / 64) ∷ next c ∷ [])) ≡ true
    three true is =
        one (224 + c / 4096) (next (c / 64) ∷ next c ∷ []) (omega (arith, lt_holds c 65536 is))
        (next_byte (c / 64) (next c ∷ []) (next_byte c [] refl))
    three false is =
        one (240 + c / 262144) (next (c / 4096) ∷ next (c / 64) ∷ next c ∷ [])
        (omega (arith, low c h)) (next_byte (c / 4096) (next (c / 64) ∷ next c ∷ [])
        (next_byte (c / 64) (next c ∷ []) (next_byte c [] refl)))

    one_more : (b : Bool) → ltb c 2048 ≡ b
        → list_all is_byte (cond b ((192 + c / 64) ∷ next c ∷ []) (cond (ltb c 65536)
        ((224 + c / 4096) ∷ next (c / 64) ∷ next c ∷ [])
        ((240 + c / 262144) ∷ next (c / 4096) ∷ next (c / 64) ∷ next c ∷ []))) ≡ true
    one_more true is =
        one (192 + c / 64) (next c ∷ []) (omega (arith, lt_holds c 2048 is)) (next_byte c [] refl)
    one_more false is = three (ltb c 65536) refl

    two : (b : Bool) → ltb c 128 ≡ b
        → list_all is_byte (cond b (c ∷ []) (cond (ltb c 2048) ((192 + c / 64) ∷ next c ∷ [])
        (cond (ltb c 65536) ((224 + c / 4096) ∷ next (c / 64) ∷ next c ∷ [])
        ((240 + c / 262144) ∷ next (c / 4096) ∷ next (c / 64) ∷ next c ∷ [])))) ≡ true
    two true is = one c [] (omega (arith, lt_holds c 128 is)) refl
    two false is = one_more (ltb c 2048) refl

encodes_bytes : (cs : List ℕ) → scalars cs ≡ true → list_all is_byte (encodes cs) ≡ true
encodes_bytes [] h = refl
encodes_bytes (c ∷ cs) h =
    let parts : (scalar c ≡ true) × (scalars cs ≡ true) = split_true (scalar c) (scalars cs) h in
    append_bytes (encode c) (encodes cs) (encode_bytes c parts.0) (encodes_bytes cs parts.1)

utf8_bytes : (bytes : List ℕ) → is_utf8 bytes ≡ true → list_all is_byte bytes ≡ true
utf8_bytes bytes h =
    let is : IsUtf8 bytes = IsUtf8-from_is_utf8 bytes h in
    subst (λ (bs : List ℕ). list_all is_byte bs ≡ true) is.1.1 (encodes_bytes is.0 is.1.0)

-- ---- domain values

truth_bytes : (b : Bool) → list_all is_byte (value_text (truth b)) ≡ true
truth_bytes true = refl
truth_bytes false = refl

text_bytes : (kind : SortKind) (bytes : List ℕ) → IsValueOf kind (text bytes) → is_utf8 bytes ≡ true
text_bytes kind.Int bytes h = absurd h
text_bytes kind.Bool bytes h = absurd h
text_bytes kind.Map bytes h = h
text_bytes kind.Other bytes h = h

pub value_bytes : (sig : Signature) (s : ℕ) (v : DomainValue) → HasValue sig s v
    → list_all is_byte (value_text v) ≡ true
value_bytes sig s (integer n) h = signed_bytes n
value_bytes sig s (truth b) h = truth_bytes b
value_bytes sig s (text bytes) (name, info, there, is) =
    utf8_bytes bytes (text_bytes info.kind bytes is)
