-- A written statement is read back.
use Rattle.std.proofs.Common.{◌≡◌, ℕ, ◌+◌, Bool, true, false, List, [], ◌∷◌, ◌++◌, length, refl, ap}
use Rattle.std.proofs.Common.{◌∙◌, arith, append_assoc, length-append}
use Rattle.std.specs.Prelude.{not, ◌&&◌, if◌then◌else◌}
use Rattle.std.specs.List.{list_all}
use Rattle.mm_text.specs.Bytes.{Token, printable, white, class_of, is_printable_class}
use Rattle.mm_text.specs.Tokens.{Piece, run, with_byte, pieces_from, outside, opens_comment}
use Rattle.mm_text.specs.Tokens.{closes_comment, Tokens, next_token, tokens_in, tokens_from}
use Rattle.mm_text.specs.Statements.{next_statement, between, within, statement, ends_statement}
use Rattle.mm_text.specs.Statements.{is_whole, statements_in, statements_from}
use Rattle.mm_text.specs.TextLaws.{WrittenStatement}
use Rattle.mm_text.proofs.Truths.{both_true, not_true, printable_class}
use Rattle.mm_text.specs.Written.{white_after, written}
use Rattle.mm_text.specs.PlainTokens.{is_plain_token, ends_once}

abbrev are_printable : List ℕ → Bool
are_printable bytes = list_all (λ c. is_printable_class (class_of c)) bytes

-- the byte after a token is white space
behind_is_white : (token : Token) → class_of (white_after token) ≡ white
behind_is_white token = go (is_whole token)
  where
    go : (b : Bool) → class_of (if b then 10 else 32) ≡ white
    go true = refl
    go false = refl

-- printable bytes with white space after them are one piece
pub pieces_from-token : (at b w : ℕ) (bytes rest : List ℕ) → class_of w ≡ white
    → are_printable (b ∷ bytes) ≡ true
    → pieces_from at ((b ∷ bytes) ++ (w ∷ rest))
    ≡ run at (b ∷ bytes) ∷ pieces_from (at + length (b ∷ bytes) + 1) rest
pieces_from-token at b w [] rest blank h =
    rw (printable_class (class_of b) ((both_true _ _ h).0), blank) refl
pieces_from-token at b w (c ∷ bytes) rest blank h =
    let first : class_of b ≡ printable =
    printable_class (class_of b)
    (both_true (is_printable_class (class_of b)) (are_printable (c ∷ bytes)) h).0 in
    let second : class_of c ≡ printable =
    printable_class (class_of c) (both_true (is_printable_class (class_of c))
    (are_printable bytes)
    (both_true (is_printable_class (class_of b)) (are_printable (c ∷ bytes)) h).1).0 in
    ap (with_byte (class_of b) (is_printable_class (class_of c)) at b) (pieces_from-token (at + 1) c
    w bytes rest blank
    (both_true (is_printable_class (class_of b)) (are_printable (c ∷ bytes)) h).1)
    ∙ rw (first, second) (ap (λ n. run at (b ∷ (c ∷ bytes)) ∷ pieces_from n rest) (omega arith))

-- a plain token is given as it is
given_plain : (at : ℕ) (token : Token) (ps : List Piece) → opens_comment token ≡ false
    → closes_comment token ≡ false
    → tokens_in outside (run at token ∷ ps) ≡ next_token at token (tokens_in outside ps)
given_plain at token ps o c = rw (o, c) refl

pub tokens_from-token : (at : ℕ) (token : Token) (rest : List ℕ) → is_plain_token token ≡ true
    → tokens_from at ((token ++ (white_after token ∷ [])) ++ rest)
    ≡ next_token at token (tokens_from (at + length (token ++ (white_after token ∷ []))) rest)
tokens_from-token at [] rest h = absurd (cc)
tokens_from-token at (b ∷ bytes) rest h =
    let parts : (are_printable (b ∷ bytes) ≡ true) ×
    ((not (opens_comment (b ∷ bytes)) && not (closes_comment (b ∷ bytes))) ≡ true) =
    both_true (are_printable (b ∷ bytes))
    (not (opens_comment (b ∷ bytes)) && not (closes_comment (b ∷ bytes))) h in
    let marks : (not (opens_comment (b ∷ bytes)) ≡ true) ×
    (not (closes_comment (b ∷ bytes)) ≡ true) =
    both_true (not (opens_comment (b ∷ bytes))) (not (closes_comment (b ∷ bytes))) parts.1 in
    ap (λ text. tokens_from at text) (append_assoc (b ∷ bytes) (white_after (b ∷ bytes) ∷ []) rest)
    ∙ ap (tokens_in outside) (pieces_from-token at b (white_after (b ∷ bytes)) bytes rest
    (behind_is_white (b ∷ bytes)) parts.0)
    ∙ given_plain at (b ∷ bytes) (pieces_from (at + length (b ∷ bytes) + 1) rest)
    (not_true _ marks.0) (not_true _ marks.1)
    ∙ ap (λ n. next_token at (b ∷ bytes) (tokens_from n rest))
    (omega (arith, length-append (b ∷ bytes) (white_after (b ∷ bytes) ∷ [])))

-- the tokens of a text that begins with a token
tokens_from-written : (at : ℕ) (token : Token) (tokens : List Token) (more : List ℕ)
    → is_plain_token token ≡ true
    → tokens_from at (written (token ∷ tokens) ++ more)
    ≡ next_token at token
    (tokens_from (at + length (token ++ (white_after token ∷ []))) (written tokens ++ more))
tokens_from-written at token tokens more h =
    ap (tokens_from at) (append_assoc (token ++ (white_after token ∷ [])) (written tokens) more)
    ∙ tokens_from-token at token (written tokens ++ more) h

-- reading a token that does not end the statement, and a token that does
statement_count-inner : (begun at : ℕ) (done : List Token) (token : Token) (s : Tokens)
    → ends_statement token ≡ false
    → statements_in (within begun done) (next_token at token s)
    ≡ statements_in (within begun (done ++ token ∷ [])) s
statement_count-inner begun at done token s h = rw h refl

statement_count-last : (begun at : ℕ) (done : List Token) (token : Token) (s : Tokens)
    → ends_statement token ≡ true
    → statements_in (within begun done) (next_token at token s)
    ≡ next_statement (statement begun (done ++ token ∷ [])) (statements_in between s)
statement_count-last begun at done token s h = rw h refl

statement_count-first : (at : ℕ) (token : Token) (s : Tokens) → is_whole token ≡ false
    → statements_in between (next_token at token s) ≡ statements_in (within at (token ∷ [])) s
statement_count-first at token s h = rw h refl

statement_count-whole : (at : ℕ) (token : Token) (s : Tokens) → is_whole token ≡ true
    → statements_in between (next_token at token s)
    ≡ next_statement (statement at (token ∷ [])) (statements_in between s)
statement_count-whole at token s h = rw h refl

-- the place after the text of some tokens
place_behind : (at : ℕ) (token : Token) (tokens : List Token)
    → at + length (token ++ (white_after token ∷ [])) + length (written tokens)
    ≡ at + length (written (token ∷ tokens))
place_behind at token tokens =
    omega (arith, length-append (token ++ (white_after token ∷ [])) (written tokens))

place_last : (at : ℕ) (token : Token)
    → at + length (token ++ (white_after token ∷ [])) ≡ at + length (written (token ∷ []))
place_last at token = omega (arith, length-append (token ++ (white_after token ∷ [])) [])

statement_count-within : (begun at : ℕ) (done tokens : List Token) (more : List ℕ)
    → list_all is_plain_token tokens ≡ true → ends_once tokens ≡ true
    → statements_in (within begun done) (tokens_from at (written tokens ++ more))
    ≡ next_statement (statement begun (done ++ tokens))
    (statements_from (at + length (written tokens)) more)
statement_count-within begun at done [] more plain once = absurd (cc)
statement_count-within begun at done (token ∷ []) more plain once =
    ap (statements_in (within begun done))
    (tokens_from-written at token [] more (both_true (is_plain_token token) true plain).0)
    ∙ statement_count-last begun at done token
    (tokens_from (at + length (token ++ (white_after token ∷ []))) more) once
    ∙ ap (λ n. next_statement (statement begun (done ++ token ∷ [])) (statements_from n more))
    (place_last at token)
statement_count-within begun at done (token ∷ (next ∷ tokens)) more plain once =
    let plains : (is_plain_token token ≡ true) × (list_all is_plain_token (next ∷ tokens) ≡ true) =
    both_true (is_plain_token token) (list_all is_plain_token (next ∷ tokens)) plain in
    let onces : (not (ends_statement token) ≡ true) × (ends_once (next ∷ tokens) ≡ true) =
    both_true (not (ends_statement token)) (ends_once (next ∷ tokens)) once in
    ap (statements_in (within begun done))
    (tokens_from-written at token (next ∷ tokens) more plains.0)
    ∙ statement_count-inner begun at done token (tokens_from
    (at + length (token ++ (white_after token ∷ []))) (written (next ∷ tokens) ++ more))
    (not_true (ends_statement token) onces.0)
    ∙ statement_count-within begun (at + length (token ++ (white_after token ∷ [])))
    (done ++ token ∷ []) (next ∷ tokens) more plains.1 onces.1
    ∙ ap (λ ts. next_statement (statement begun ts) (statements_from
    (at + length (token ++ (white_after token ∷ [])) + length (written (next ∷ tokens)))
    more)) (append_assoc done (token ∷ []) (next ∷ tokens))
    ∙ ap (λ n. next_statement (statement begun (done ++ (token ∷ (next ∷ tokens))))
    (statements_from n more)) (place_behind at token (next ∷ tokens))

pub written_statement : WrittenStatement
written_statement at [] more plain one = absurd (cc)
written_statement at (token ∷ []) more plain one =
    ap (statements_in between)
    (tokens_from-written at token [] more (both_true (is_plain_token token) true plain).0)
    ∙ statement_count-whole at token
    (tokens_from (at + length (token ++ (white_after token ∷ []))) more) one
    ∙ ap (λ n. next_statement (statement at (token ∷ [])) (statements_from n more))
    (place_last at token)
written_statement at (token ∷ (next ∷ tokens)) more plain one =
    let plains : (is_plain_token token ≡ true) × (list_all is_plain_token (next ∷ tokens) ≡ true) =
    both_true (is_plain_token token) (list_all is_plain_token (next ∷ tokens)) plain in
    let ones : (not (is_whole token) ≡ true) × (ends_once (next ∷ tokens) ≡ true) =
    both_true (not (is_whole token)) (ends_once (next ∷ tokens)) one in
    ap (statements_in between) (tokens_from-written at token (next ∷ tokens) more plains.0)
    ∙ statement_count-first at token (tokens_from (at + length (token ++ (white_after token ∷ [])))
    (written (next ∷ tokens) ++ more)) (not_true (is_whole token) ones.0)
    ∙ statement_count-within at (at + length (token ++ (white_after token ∷ []))) (token ∷ [])
    (next ∷ tokens) more plains.1 ones.1
    ∙ ap (λ n. next_statement (statement at (token ∷ (next ∷ tokens))) (statements_from n more))
    (place_behind at token (next ∷ tokens))
