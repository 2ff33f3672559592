-- How many brackets are open in a text.
use Rattle.std.specs.Prelude.{◌≤◌, ℕ, ◌+◌, ◌-◌, ◌==◌, ◌||◌, if◌then◌else◌}
use Rattle.kore_text.specs.TokenStream.{KoreToken, mark, Stream, end, no_token_at, token}

-- how many brackets `(` and `{` are open after a token, if `n` are open before it
abbrev pub opened : KoreToken → ℕ → ℕ
opened (mark c) n =
    if (c == 40) || (c == 123) then n + 1 else (if (c == 41) || (c == 125) then n - 1 else n)
opened _ n = n

-- at most 500 brackets are open at each place, if `n` are open at the head
abbrev pub IsShallow : ℕ → Stream → Type 0
IsShallow n (end e) = Unit {0}
IsShallow n (no_token_at e) = Unit {0}
IsShallow n (token t p s) = (opened t n ≤ 500) × IsShallow (opened t n) s
