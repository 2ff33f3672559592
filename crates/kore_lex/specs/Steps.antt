-- What the private functions that read a string say about the bytes between its quotes.
use Rattle.std.specs.Prelude.{◌≡◌, ◌≤◌, ◌+◌, ℕ, not, List, [], ◌∷◌, ◌++◌, length, drop, take_while}
use Rattle.std.specs.Prelude.{◌==◌, if◌then◌else◌, Option, Some, None}
use Rattle.kore_lex.specs.Escapes.{escape, on_escape}
use Rattle.kore_lex.specs.Tokens.{IsInner}
use Rattle.kore_lex.specs.Value.{unescaped_text}

-- how many bytes there are before the first backslash
abbrev pub run_len : List ℕ → ℕ
run_len bs = length (take_while (λ c. not (c == 92)) bs)

-- `n` bytes were taken from the head, at least one, and the text grew by what they stand for
pub record Took (bs old new : List ℕ) (n : ℕ) : Type 0 where
  pub some : 1 ≤ n
  pub within : n ≤ length bs
  pub inner : IsInner (drop n bs)
  pub grown : new ++ unescaped_text 0 (drop n bs) ≡ old ++ unescaped_text 0 bs

-- how many bytes the unit at the head has inside a string. A unit is a byte, or an escape with its
-- backslash. There is none at a backslash that begins no escape.
abbrev pub unit_len : List ℕ → Option ℕ
unit_len [] = Some 1
unit_len (c ∷ cs) = if c == 92 then on_escape None (λ n. Some (n + 1)) (escape cs) else Some 1
