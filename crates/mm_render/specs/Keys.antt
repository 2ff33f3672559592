-- The bytes by which statements are looked up.
use Rattle.std.specs.Prelude.{ℕ, zero, suc, ◌+◌, ◌/◌, ◌%◌, nat_lt, if◌then◌else◌, List, [], ◌∷◌}
use Rattle.std.specs.Prelude.{flat_map}
use Rattle.ml_pat.specs.Patterns.{Pattern, bot, top, imp, not, and, or, equal, member, fun, ex, all}
use Rattle.ml_pat.specs.Patterns.{app, at_sort, next, ev, var, meta, constant}

-- The numbers of a pattern before others, a form before its parts. For each form there is its
-- number, and two numbers for what else is in it.
abbrev pub numbers : Pattern → List ℕ → List ℕ
numbers bot rest = 0 ∷ 0 ∷ 0 ∷ rest
numbers top rest = 1 ∷ 0 ∷ 0 ∷ rest
numbers (var x) rest = 2 ∷ x ∷ 0 ∷ rest
numbers (meta i) rest = 3 ∷ i ∷ 0 ∷ rest
numbers (constant c) rest = 4 ∷ c ∷ 0 ∷ rest
numbers (not p) rest = 5 ∷ 0 ∷ 0 ∷ numbers p rest
numbers (next p) rest = 6 ∷ 0 ∷ 0 ∷ numbers p rest
numbers (ev p) rest = 7 ∷ 0 ∷ 0 ∷ numbers p rest
numbers (fun p s) rest = 8 ∷ 0 ∷ s ∷ numbers p rest
numbers (at_sort p s) rest = 9 ∷ 0 ∷ s ∷ numbers p rest
numbers (ex x s p) rest = 10 ∷ x ∷ s ∷ numbers p rest
numbers (all x s p) rest = 11 ∷ x ∷ s ∷ numbers p rest
numbers (imp p q) rest = 12 ∷ 0 ∷ 0 ∷ numbers p (numbers q rest)
numbers (and p q) rest = 13 ∷ 0 ∷ 0 ∷ numbers p (numbers q rest)
numbers (or p q) rest = 14 ∷ 0 ∷ 0 ∷ numbers p (numbers q rest)
numbers (equal p q) rest = 15 ∷ 0 ∷ 0 ∷ numbers p (numbers q rest)
numbers (member p q) rest = 16 ∷ 0 ∷ 0 ∷ numbers p (numbers q rest)
numbers (app p q) rest = 17 ∷ 0 ∷ 0 ∷ numbers p (numbers q rest)

-- The bytes of a number. Each byte has seven of its bits, the lowest first. Each byte but the last
-- has 128 added. `room` is how many bytes there may be before the last one.
abbrev pub bytes_within : ℕ → ℕ → List ℕ
bytes_within zero n = n ∷ []
bytes_within (suc room) n =
    if nat_lt n 128 then n ∷ [] else (n % 128 + 128) ∷ bytes_within room (n / 128)

abbrev pub number_bytes : ℕ → List ℕ
number_bytes n = bytes_within n n

abbrev pub all_bytes : List ℕ → List ℕ
all_bytes ns = flat_map number_bytes ns

-- the bytes of a pattern's numbers
abbrev pub pattern_key : Pattern → List ℕ
pattern_key p = all_bytes (numbers p [])

-- and those of a conclusion under hypotheses
abbrev pub statement_key : List Pattern → Pattern → List ℕ
statement_key hypotheses conclusion = flat_map pattern_key (conclusion ∷ hypotheses)
