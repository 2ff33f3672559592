-- The value that the text of a domain value stands for (K framework, domains `INT.Int` and
-- `BOOL.Bool`). The text of an integer of 128 bits is an optional sign and digits. The text of a
-- truth value is its name. A sort of another kind takes any text. So `007` and `+7` are 7, and `-0`
-- is 0.
use Rattle.std.specs.Prelude.{◌==◌, ◌&&◌, ◌+◌, ◌*◌, ◌-◌, ℕ, ℤ, pos, neg_ℤ, Bool, true, false, List}
use Rattle.std.specs.Prelude.{[], ◌∷◌, length, Option, Some, None, option_map, if◌then◌else◌, codes}
use Rattle.std.specs.Prelude.{nat_lt}
use Rattle.std.specs.Str.{is_utf8, bytes_eq, all_ascii_digits}
use Rattle.std.specs.Result.{result_ok}
use Rattle.term_core.specs.HookValues.{in_range}
use Rattle.term_core.specs.Terms.{DomainValue, integer, truth, text}
use Rattle.rule_core.specs.declared.signature.SortKind.{SortKind}
use Rattle.rule_core.specs.declared.signature.SortKind.TheVariants as kind

-- the number whose digits are those of n and then these
abbrev pub append_digits : ℕ → List ℕ → ℕ
append_digits n [] = n
append_digits n (b ∷ bytes) = append_digits (n * 10 + (b - 48)) bytes

-- the number that one or more digits stand for; None for another text
abbrev pub number_of_digits : List ℕ → Option ℕ
number_of_digits bytes =
    if all_ascii_digits bytes && nat_lt 0 (length bytes) then Some (append_digits 0 bytes) else None

-- the number as an integer, and its negative, if it is in the range of integers
abbrev pub not_negative : Option ℕ → Option ℤ
not_negative None = None
not_negative (Some n) = result_ok (in_range (pos n))

abbrev pub negated : Option ℕ → Option ℤ
negated None = None
negated (Some n) = result_ok (in_range (neg_ℤ (pos n)))

-- the integer that an optional sign, `-` or `+`, and digits stand for
abbrev pub integer_of_text : List ℕ → Option ℤ
integer_of_text [] = None
integer_of_text (b ∷ bytes) =
    if b == 45 then negated (number_of_digits bytes)
    else if b == 43 then not_negative (number_of_digits bytes)
    else not_negative (number_of_digits (b ∷ bytes))

abbrev pub truth_of_text : List ℕ → Option Bool
truth_of_text bytes =
    if bytes_eq bytes (codes "true") then Some true
    else if bytes_eq bytes (codes "false") then Some false
    else None

-- the text itself, if it is valid UTF-8
abbrev pub value_of_words : List ℕ → Option DomainValue
value_of_words bytes = if is_utf8 bytes then Some (text bytes) else None

-- the value of a text in a sort of this kind
abbrev pub value_of_text : SortKind → List ℕ → Option DomainValue
value_of_text kind.Int bytes = option_map integer (integer_of_text bytes)
value_of_text kind.Bool bytes = option_map truth (truth_of_text bytes)
value_of_text kind.Map bytes = value_of_words bytes
value_of_text kind.Other bytes = value_of_words bytes
