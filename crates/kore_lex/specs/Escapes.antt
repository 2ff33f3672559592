-- The escapes in strings (Kore language document, lexical structure).
use Rattle.std.specs.Prelude.{ℕ, zero, suc, ◌+◌, ◌*◌, ◌-◌, ◌&&◌, List, [], ◌∷◌, nat_le, ◌==◌}
use Rattle.std.specs.Prelude.{if◌then◌else◌, Option, Some, None}
use lib.Utf8.{scalar}
use Rattle.kore_lex.specs.declared.escape.Escape.{Escape}

-- the value of a hexadecimal digit, of either case
abbrev pub hex_digit : ℕ → Option ℕ
hex_digit c =
    if nat_le 48 c && nat_le c 57 then Some (c - 48)
    else (if nat_le 97 c && nat_le c 102 then Some (c - 97 + 10)
    else (if nat_le 65 c && nat_le c 70 then Some (c - 65 + 10)
    else None))

abbrev pub bind : Option ℕ → (ℕ → Option ℕ) → Option ℕ
bind None f = None
bind (Some n) f = f n

-- the Unicode scalar value of a hexadecimal number; the first argument is how many digits are still
-- to come, and `n` is the value of the digits before them
unfoldable pub hex_number : ℕ → ℕ → List ℕ → Option ℕ
hex_number zero n bs = if scalar n then Some n else None
hex_number (suc k) n [] = None
hex_number (suc k) n (c ∷ cs) = bind (hex_digit c) (λ d. hex_number k (16 * n + d) cs)

-- an escape by a number of `k` digits, after its letter
abbrev pub by_number : ℕ → Option ℕ → Option Escape
by_number k None = None
by_number k (Some c) = Some (record { character = c; len = k + 1 })

abbrev pub escape_by_number : ℕ → List ℕ → Option Escape
escape_by_number k bs = by_number k (hex_number k 0 bs)

abbrev pub single : ℕ → Option Escape
single c = Some (record { character = c; len = 1 })

-- the escape at the head, after its backslash: its letter is n r t f " \ x u or U
unfoldable pub escape : List ℕ → Option Escape
escape [] = None
escape (c ∷ cs) =
    if c == 110 then single 10
    else (if c == 114 then single 13
    else (if c == 116 then single 9
    else (if c == 102 then single 12
    else (if c == 34 then single 34
    else (if c == 92 then single 92
    else (if c == 120 then escape_by_number 2 cs
    else (if c == 117 then escape_by_number 4 cs
    else (if c == 85 then escape_by_number 8 cs
    else None))))))))

-- the number increased by `n`, if there is one
abbrev pub further : ℕ → Option ℕ → Option ℕ
further n None = None
further n (Some m) = Some (n + m)

-- the result at a backslash: `bad` if no escape begins after it, else `more` of the escape's length
abbrev pub on_escape : {T : Type 0} → T → (ℕ → T) → Option Escape → T
on_escape bad more None = bad
on_escape bad more (Some e) = more e.len

-- how many bytes there are before the first backslash that begins no escape; the first argument is
-- how many bytes at the head belong to an escape that has begun
unfoldable pub bad_at : ℕ → List ℕ → Option ℕ
bad_at n [] = None
bad_at (suc n) (c ∷ cs) = further 1 (bad_at n cs)
bad_at zero (c ∷ cs) =
    if c == 92 then on_escape (Some 0) (λ n. further 1 (bad_at n cs)) (escape cs)
    else further 1 (bad_at 0 cs)
