-- Statements whose tokens are ASCII, as those of a text are.
use Rattle.std.specs.Prelude.{◌≡◌, ℕ, Bool, true, nat_lt, List}
use Rattle.std.specs.List.{list_all}
use Rattle.mm_text.specs.Bytes.{Token}
use Rattle.mm_text.specs.Statements.{Statements, no_statement, unended, bad_statement}
use Rattle.mm_text.specs.Statements.{next_statement}

abbrev pub is_ascii_token : Token → Bool
is_ascii_token t = list_all (λ (b : ℕ). nat_lt b 128) t

abbrev pub are_ascii : List Token → Bool
are_ascii ts = list_all is_ascii_token ts

abbrev pub AreAscii : Statements → Type 0
AreAscii no_statement = Unit {0}
AreAscii (unended at) = Unit {0}
AreAscii (bad_statement f) = Unit {0}
AreAscii (next_statement s ss) = (are_ascii s.tokens ≡ true) × AreAscii ss
