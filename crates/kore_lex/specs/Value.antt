-- The text that a string stands for.
use Rattle.std.specs.Prelude.{ℕ, zero, suc, ◌-◌, List, [], ◌∷◌, ◌++◌, length, take, drop, ◌==◌}
use Rattle.std.specs.Prelude.{if◌then◌else◌, Option, Some, None}
use Rattle.std.specs.Char.{encode_utf8}
use Rattle.kore_lex.specs.declared.escape.Escape.{Escape}
use Rattle.kore_lex.specs.Escapes.{escape}

-- what an escape stands for, and then the rest; a bad escape is left out
abbrev pub unescaped : (ℕ → List ℕ) → Option Escape → List ℕ
unescaped more None = more 0
unescaped more (Some e) = encode_utf8 e.character ++ more e.len

-- the text of the bytes between the quotes: each escape becomes its character in UTF-8, and each
-- other byte stays. The first argument is how many bytes at the head belong to an escape that has
-- been read.
unfoldable pub unescaped_text : ℕ → List ℕ → List ℕ
unescaped_text n [] = []
unescaped_text (suc n) (c ∷ cs) = unescaped_text n cs
unescaped_text zero (c ∷ cs) = if c == 92 then unescaped (λ n. unescaped_text n cs) (escape cs) else
    c ∷ unescaped_text 0 cs

-- the text of a whole string, without its quotes
abbrev pub string_value : List ℕ → List ℕ
string_value bs = unescaped_text 0 (take (length bs - 2) (drop 1 bs))
