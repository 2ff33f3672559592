-- `parse` reads numbers of one to eight digits.
use Rattle.std.proofs.Common.{◌≡◌, ◌<◌, ◌≤◌, ◌^◌, ◌&&◌, ℕ, Bool, true, false, List, [], ◌∷◌, length}
use Rattle.std.proofs.Common.{Result, Ok, refl, ap, arith, nat_le}
use Rattle.std.proofs.lemmas.Bool.{leb-true}
use Rattle.std.specs.List.{list_all}
use Rattle.std.specs.Str.{all_ascii_digits}
use Rattle.std.specs.Char.{is_ascii_digit}
use Rattle.std.specs.Str.Parse.{ParsesUnsigned, digits_value}
use Rattle.std.proofs.lemmas.Str.Parse.{IsNumeralModel, numerals_by_value, tells_all_ascii_digits}
use Rattle.std.proofs.lemmas.Str.Parse.{digits_value_short, parse_gives}
use Rattle.command_words.specs.CommandLine.{is_number}

pub digits-all : (bs : List ℕ) → list_all is_ascii_digit bs ≡ all_ascii_digits bs
digits-all [] = refl
digits-all (b ∷ bs) = ap (λ (rest : Bool). is_ascii_digit b && rest) (digits-all bs)

model : IsNumeralModel (λ (ds : List ℕ). all_ascii_digits ds ≡ true) (digits_value 10)
model = numerals_by_value (λ (ds : List ℕ). all_ascii_digits ds ≡ true) tells_all_ascii_digits

number_parts : (a b c : Bool) → (a && b) && c ≡ true → (a ≡ true) × (b ≡ true) × (c ≡ true)
number_parts true true true e = (refl, refl, refl)
number_parts true true false e = absurd (let wrong : ⊥ = cc in wrong)
number_parts true false c e = absurd (let wrong : ⊥ = cc in wrong)
number_parts false b c e = absurd (let wrong : ⊥ = cc in wrong)

-- a number is read
pub number-parsed : {E : Type 0} (word : List ℕ) (r : Result ℕ E) → ParsesUnsigned 32 10 word r
    → is_number word ≡ true → r ≡ Ok (digits_value 10 word)
number-parsed word r parses good =
    let parts =
    number_parts (nat_le 1 (length word)) (nat_le (length word) 8) (all_ascii_digits word)
    good in
    let some : 1 ≤ length word = leb-true 1 (length word) parts.0 in
    let few : length word ≤ 8 = leb-true (length word) 8 parts.1 in
    let low : digits_value 10 word < 10 ^ 8 = digits_value_short model word 8 parts.2 few in
    parse_gives model 32 word r parses parts.2 (omega arith) (omega arith)
