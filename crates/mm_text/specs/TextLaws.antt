-- Laws on Metamath texts: on appended texts and on written statements.
use Rattle.std.specs.Prelude.{◌≡◌, ℕ, ◌+◌, Bool, true, false, List, ◌++◌, length}
use Rattle.std.specs.List.{list_all}
use Rattle.mm_text.specs.Bytes.{Token}
use Rattle.mm_text.specs.Statements.{Statements, no_statement, unended, bad_statement}
use Rattle.mm_text.specs.Statements.{next_statement, statement, statements_from}
use Rattle.mm_text.specs.Written.{ends_white, written}
use Rattle.mm_text.specs.PlainTokens.{is_plain_token, is_one_statement}

-- a text ends between statements
abbrev pub end_well : Statements → Bool
end_well no_statement = true
end_well (unended at) = false
end_well (bad_statement f) = false
end_well (next_statement s statements) = end_well statements

-- statements, with others instead of their end
abbrev pub followed_by : Statements → Statements → Statements
followed_by no_statement more = more
followed_by (unended at) more = more
followed_by (bad_statement f) more = more
followed_by (next_statement s statements) more = next_statement s (followed_by statements more)

-- a text after a text that ends with white space between statements is read the same as on its own,
-- from its place on
abbrev pub AppendedText : Type 0
AppendedText =
    (at : ℕ) (text more : List ℕ) → ends_white text ≡ true →
    end_well (statements_from at text) ≡ true →
    statements_from at (text ++ more)
    ≡ followed_by (statements_from at text) (statements_from (at + length text) more)

-- a written statement is read back, and then what comes after it
abbrev pub WrittenStatement : Type 0
WrittenStatement =
    (at : ℕ) (tokens : List Token) (more : List ℕ) → list_all is_plain_token tokens ≡ true →
    is_one_statement tokens ≡ true →
    statements_from at (written tokens ++ more)
    ≡ next_statement (statement at tokens) (statements_from (at + length (written tokens)) more)
