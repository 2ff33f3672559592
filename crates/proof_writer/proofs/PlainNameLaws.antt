-- The tokens of a program with plain names are names.
use Rattle.std.proofs.Common.{◌≡◌, ℕ, ◌<◌, ◌≤◌, ◌/◌, ◌%◌, Bool, true, List, [], ◌∷◌, ◌++◌, Some}
use Rattle.std.proofs.Common.{None, Option, refl, sym, drop, zero, suc, arith}
use Rattle.std.specs.Prelude.{codes, option_map, nat_le, ◌&&◌}
use Rattle.std.specs.Char.{digit_char}
use Rattle.std.specs.List.{list_all}
use Rattle.mm_text.specs.Bytes.{Token}
use Rattle.rule_core.specs.declared.signature.Signature.{Signature}
use Rattle.term_core.specs.Terms.{DomainValue}
use Rattle.ml_image.specs.Tokens.{name_at, sort_token, symbol_token, value_token, hexadecimal}
use Rattle.term_core.specs.ValueTexts.{value_text}
use Rattle.proof_writer.proofs.ValueBytes.{is_byte, value_bytes}
use Rattle.ml_image.specs.OwnTokens.{IsOwnToken, is_sort_token, is_symbol_token, is_value_token}
use Rattle.ml_image.specs.Gained.{AreOwnTokens}
use Rattle.mm_claims.specs.Statements.{sort_name, symbol_name, value_name, is_name_byte, IsName}
use Rattle.mm_claims.specs.Fitting.{AreNames}
use Rattle.ml_pat.proofs.LeafLaws.{both_true, split_true}
use Rattle.proof_writer.specs.PlainNames.{HasPlainNames}

none_some : {A : Type 0} (a : A) → None ≡ Some a → ⊥
none_some a h = cc

some_same : {A : Type 0} (a b : A) → Some a ≡ Some b → a ≡ b
some_same a b h = cc

-- the name in a token
made_of : (make : Token → Token) (o : Option Token) (token : Token) → option_map make o ≡ Some token
    → (name : Token) × ((o ≡ Some name) × (token ≡ make name))
made_of make None token h = absurd (none_some token h)
made_of make (Some name) token h = (name, (refl, sym (some_same (make name) token h)))

all-append : (test : ℕ → Bool) (xs ys : List ℕ) → list_all test xs ≡ true → list_all test ys ≡ true
    → list_all test (xs ++ ys) ≡ true
all-append test [] ys h k = k
all-append test (x ∷ xs) ys h k =
    let parts : (test x ≡ true) × (list_all test xs ≡ true) =
    split_true (test x) (list_all test xs) h in
    both_true (test x) (list_all test (xs ++ ys)) parts.0 (all-append test xs ys parts.1 k)

digit : (d : ℕ) → d < 16 → is_name_byte (digit_char d) ≡ true
digit d h = grind (arith, h)

within : (b : ℕ) → nat_le b 255 ≡ true → b ≤ 255
within b h = grind (arith, h)

digits : (bytes : List ℕ) → list_all is_byte bytes ≡ true
    → list_all is_name_byte (hexadecimal bytes) ≡ true
digits [] h = refl
digits (b ∷ bytes) h =
    let parts : (is_byte b ≡ true) × (list_all is_byte bytes ≡ true) =
    split_true (is_byte b) (list_all is_byte bytes) h in
    let few : b ≤ 255 = within b parts.0 in
    both_true (is_name_byte (digit_char (b / 16)))
    (is_name_byte (digit_char (b % 16)) && list_all is_name_byte (hexadecimal bytes))
    (digit (b / 16) (omega (arith, few)))
    (both_true (is_name_byte (digit_char (b % 16))) (list_all is_name_byte (hexadecimal bytes))
    (digit (b % 16) (omega arith)) (digits bytes parts.1))

value_rest : (name : Token) (v : DomainValue) → list_all is_name_byte name ≡ true
    → list_all is_byte (value_text v) ≡ true
    → list_all is_name_byte (name ++ (codes ":" ++ hexadecimal (value_text v))) ≡ true
value_rest name v h k =
    all-append is_name_byte name (codes ":" ++ hexadecimal (value_text v)) h
    (digits (value_text v) k)

own_name : (sig : Signature) → HasPlainNames sig → (token : Token) → IsOwnToken sig token
    → IsName token
own_name sig plain token (is_sort_token s h) =
    let made : (name : Token) × ((name_at sig.sorts s ≡ Some name) × (token ≡ sort_token name)) =
    made_of sort_token (name_at sig.sorts s) token h in
    record { kind = sort_name; rest = made.0; is = made.1.1; bytes = plain.sorts s made.0 made.1.0 }
own_name sig plain token (is_symbol_token f h) =
    let made : (name : Token) ×
    ((name_at sig.symbols f ≡ Some name) × (token ≡ symbol_token name)) =
    made_of symbol_token (name_at sig.symbols f) token h in
    record {
      kind = symbol_name;
      rest = made.0;
      is = made.1.1;
      bytes = plain.symbols f made.0 made.1.0;
    }
own_name sig plain token (is_value_token s v has h) =
    let made : (name : Token) × ((name_at sig.sorts s ≡ Some name) × (token ≡ value_token name v)) =
    made_of (λ name. value_token name v) (name_at sig.sorts s) token h in
    let bytes : list_all is_byte (value_text v) ≡ true = value_bytes sig s v has in
    record {
      kind = value_name;
      rest = made.0 ++ (codes ":" ++ hexadecimal (value_text v));
      is = made.1.1;
      bytes = value_rest made.0 v (plain.sorts s made.0 made.1.0) bytes;
    }

-- a program's own tokens are names
pub own_names : (sig : Signature) → HasPlainNames sig → (tokens : List Token)
    → AreOwnTokens sig tokens → AreNames tokens
own_names sig plain [] h = tt
own_names sig plain (t ∷ tokens) h = (own_name sig plain t h.0, own_names sig plain tokens h.1)

pub own_behind : (sig : Signature) (tokens : List Token) (n : ℕ) → AreOwnTokens sig tokens
    → AreOwnTokens sig (drop n tokens)
own_behind sig tokens zero h = h
own_behind sig [] (suc n) h = tt
own_behind sig (t ∷ tokens) (suc n) h = own_behind sig tokens n h.1

pub own_append : (sig : Signature) (tokens more : List Token) → AreOwnTokens sig tokens
    → AreOwnTokens sig more → AreOwnTokens sig (tokens ++ more)
own_append sig [] more h k = k
own_append sig (t ∷ tokens) more h k = (h.0, own_append sig tokens more h.1 k)
