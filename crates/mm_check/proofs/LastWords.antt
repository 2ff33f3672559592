-- The words of the last assertion of a text are UTF-8.
use Rattle.std.proofs.Common.{◌≡◌, ℕ, true, List, [], ◌∷◌, ◌++◌, Bor, refl, ap, sym, ◌∙◌, subst}
use Rattle.std.specs.Prelude.{Option, Some, None, IfSome}
use Rattle.mm_text.specs.Bytes.{Token}
use Rattle.mm_text.specs.Statements.{Statements, no_statement, unended, bad_statement}
use Rattle.mm_text.specs.Statements.{next_statement, statements_of}
use Rattle.mm_database.specs.Forms.{declares_constants, declares_variables, types_variable, assumes}
use Rattle.mm_database.specs.Forms.{separates, asserts, proves, Form, block_start, block_end, plain}
use Rattle.mm_database.specs.Forms.{form_of}
use Rattle.mm_database.specs.Database.{Context, empty_context, context_after}
use Rattle.mm_database.specs.Assertions.{Assertion, form_assertion, assertions_in, assertions_of}
use Rattle.mm_database.specs.Assertions.{with_assertion_first}
use Rattle.pattern_reader.specs.Readings.{AreUtf8}
use Rattle.mm_check.specs.Stated.{words}
use Rattle.mm_check.specs.PlainStatements.{are_ascii, AreAscii}
use Rattle.mm_check.proofs.AsciiTexts.{text_ascii}
use Rattle.mm_check.proofs.AssertingLaws.{ascii_words}
use Rattle.mm_check.proofs.StepLaws.{ascii_symbols}

abbrev SaysAscii : Assertion → Type 0
SaysAscii a = are_ascii a.frame.statement ≡ true

abbrev SayAscii : List Assertion → Type 0
SayAscii [] = Unit {0}
SayAscii (a ∷ xs) = SaysAscii a × SayAscii xs

form_ascii : (c : Context) (tokens : List Token) (o : Option Form) → form_of tokens ≡ o
    → are_ascii tokens ≡ true → IfSome (form_assertion c o) SaysAscii
form_ascii c tokens None is all = tt
form_ascii c tokens (Some block_start) is all = tt
form_ascii c tokens (Some block_end) is all = tt
form_ascii c tokens (Some (plain ls declares_constants ss ps)) is all = tt
form_ascii c tokens (Some (plain ls declares_variables ss ps)) is all = tt
form_ascii c tokens (Some (plain ls types_variable ss ps)) is all = tt
form_ascii c tokens (Some (plain ls assumes ss ps)) is all = tt
form_ascii c tokens (Some (plain ls separates ss ps)) is all = tt
form_ascii c tokens (Some (plain ls asserts ss ps)) is all =
    ascii_symbols tokens ls ss ps asserts is all
form_ascii c tokens (Some (plain ls proves ss ps)) is all =
    ascii_symbols tokens ls ss ps proves is all

first_ascii : (o : Option Assertion) (xs : List Assertion) → IfSome o SaysAscii → SayAscii xs
    → SayAscii (with_assertion_first o xs)
first_ascii None xs first rest = rest
first_ascii (Some a) xs first rest = (first, rest)

assertions_ascii : (c : Context) (ss : Statements) → AreAscii ss → SayAscii (assertions_in c ss)
assertions_ascii c no_statement all = tt
assertions_ascii c (unended at) all = tt
assertions_ascii c (bad_statement f) all = tt
assertions_ascii c (next_statement s ss) all =
    first_ascii (form_assertion c (form_of s.tokens)) (assertions_in (context_after c s) ss)
    (form_ascii c s.tokens (form_of s.tokens) refl all.0)
    (assertions_ascii (context_after c s) ss all.1)

last_ascii : (xs : List Assertion) (a : Assertion) → SayAscii (xs ++ a ∷ []) → SaysAscii a
last_ascii [] a all = all.0
last_ascii (x ∷ xs) a all = last_ascii xs a all.1

pub last_words : (bytes : List ℕ) (before : List Assertion) (a : Assertion)
    (ws : List (Bor Token)) → assertions_of bytes ≡ before ++ a ∷ []
    → a.frame.statement ≡ words ws → AreUtf8 ws
last_words bytes before a ws all says =
    let plain_words =
    last_ascii before a (subst SayAscii all
    (assertions_ascii empty_context (statements_of bytes) (text_ascii bytes))) in
    ascii_words ws (ap are_ascii (sym says) ∙ plain_words)
