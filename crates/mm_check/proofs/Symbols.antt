-- The symbols of each assertion of a text are printable and without `$`.
use Rattle.std.proofs.Common.{◌≡◌, ℕ, ◌+◌, Bool, true, false, List, [], ◌∷◌, ◌++◌, refl, ap}
use Rattle.std.proofs.Common.{Option, Some, None, subst}
use Rattle.std.specs.Prelude.{◌||◌, ◌==◌, if◌then◌else◌, option_and_then}
use Rattle.std.specs.List.{list_all}
use Rattle.std.specs.Cmp.Derive.{both_true}
use Rattle.std.proofs.lemmas.Bool.{and_parts}
use Rattle.mm_text.specs.Bytes.{Token, Class, printable, white, foreign, class_of, is_white}
use Rattle.mm_text.specs.Bytes.{is_printable}
use Rattle.mm_text.specs.Tokens.{Piece, run, stray, with_byte, begins_printable, pieces_from}
use Rattle.mm_text.specs.Tokens.{opens_comment, closes_comment, has_comment_mark, Place, outside}
use Rattle.mm_text.specs.Tokens.{in_comment, place_after, Given, nothing, a_token, a_fault}
use Rattle.mm_text.specs.Tokens.{comment_end, given, Tokens, no_token, bad_text, next_token}
use Rattle.mm_text.specs.Tokens.{with_given, tokens_at_end, tokens_in}
use Rattle.mm_text.specs.Statements.{Statement, Statements, no_statement, unended, bad_statement}
use Rattle.mm_text.specs.Statements.{next_statement, Reading, between, within, ends_statement}
use Rattle.mm_text.specs.Statements.{is_whole, reading_after, ended_by, statement, with_ended}
use Rattle.mm_text.specs.Statements.{statements_at_end, statements_in, statements_of}
use Rattle.mm_database.specs.Forms.{Keyword, declares_constants, declares_variables, types_variable}
use Rattle.mm_database.specs.Forms.{assumes, separates, asserts, proves, Form, block_start}
use Rattle.mm_database.specs.Forms.{block_end, plain, has_dollar, before_dollar, from_dollar}
use Rattle.mm_database.specs.Forms.{keyword_of, is_end, form_if, declaration_form, proof_form}
use Rattle.mm_database.specs.Forms.{keyword_form, labelled_form, form_of}
use Rattle.mm_database.specs.Database.{Context, empty_context, context_after}
use Rattle.mm_database.specs.Assertions.{Assertion, form_assertion, with_assertion_first}
use Rattle.mm_database.specs.Assertions.{assertions_in, assertions_of}
use Rattle.mm_justify.specs.Stating.{is_name_byte}
use Rattle.mm_check.specs.Conclusions.{is_symbol, are_symbols}

abbrev is_printed : Token → Bool
is_printed t = list_all is_printable t

abbrev are_printed : List Token → Bool
are_printed ts = list_all is_printed ts

-- ---- tokens

abbrev PiecesPrint : List Piece → Type 0
PiecesPrint [] = Unit {0}
PiecesPrint (run at t ∷ ps) = (is_printed t ≡ true) × PiecesPrint ps
PiecesPrint (stray at ∷ ps) = PiecesPrint ps

byte_prints : (b : ℕ) → class_of b ≡ printable → is_printable b ≡ true
byte_prints b h = go (is_white b) (is_printable b) h
  where
    go : (w p : Bool) → (if w then white else (if p then printable else foreign)) ≡ printable
        → p ≡ true
    go true p h = absurd (let no : ⊥ = cc in no)
    go false true h = refl
    go false false h = absurd (let no : ⊥ = cc in no)

with_byte_prints : (k : Class) (begins : Bool) (at b : ℕ) (ps : List Piece) → class_of b ≡ k
    → PiecesPrint ps → PiecesPrint (with_byte k begins at b ps)
with_byte_prints printable true at b [] is h = (both_true (byte_prints b is) refl, tt)
with_byte_prints printable true at b (run later t ∷ ps) is h =
    (both_true (byte_prints b is) h.0, h.1)
with_byte_prints printable true at b (stray later ∷ ps) is h =
    (both_true (byte_prints b is) refl, h)
with_byte_prints printable false at b ps is h = (both_true (byte_prints b is) refl, h)
with_byte_prints white begins at b ps is h = h
with_byte_prints foreign begins at b ps is h = h

pieces_print : (at : ℕ) (bytes : List ℕ) → PiecesPrint (pieces_from at bytes)
pieces_print at [] = tt
pieces_print at (b ∷ bytes) =
    with_byte_prints (class_of b) (begins_printable bytes) at b (pieces_from (at + 1) bytes) refl
    (pieces_print (at + 1) bytes)

abbrev TokensPrint : Tokens → Type 0
TokensPrint no_token = Unit {0}
TokensPrint (bad_text f) = Unit {0}
TokensPrint (next_token at t ts) = (is_printed t ≡ true) × TokensPrint ts

abbrev GivenPrints : Given → Type 0
GivenPrints nothing = Unit {0}
GivenPrints (a_token at t) = is_printed t ≡ true
GivenPrints (a_fault f) = Unit {0}

with_given_prints : (g : Given) (ts : Tokens) → GivenPrints g → TokensPrint ts
    → TokensPrint (with_given g ts)
with_given_prints nothing ts h k = k
with_given_prints (a_token at t) ts h k = (h, k)
with_given_prints (a_fault f) ts h k = tt

end_prints : (o : Option ℕ) → GivenPrints (comment_end o)
end_prints None = tt
end_prints (Some at) = tt

if_prints : (b : Bool) (g g' : Given) → GivenPrints g → GivenPrints g'
    → GivenPrints (if b then g else g')
if_prints true g g' h k = h
if_prints false g g' h k = k

given_prints : (place : Place) (at : ℕ) (t : Token) → is_printed t ≡ true
    → GivenPrints (given place (run at t))
given_prints outside at t h =
    if_prints (opens_comment t) nothing _ tt (if_prints (closes_comment t) _ (a_token at t) tt h)
given_prints (in_comment opened bad) at t h =
    if_prints (closes_comment t) (comment_end bad) _ (end_prints bad)
    (if_prints (has_comment_mark t) _ nothing tt tt)

stray_prints : (place : Place) (at : ℕ) → GivenPrints (given place (stray at))
stray_prints outside at = tt
stray_prints (in_comment opened bad) at = tt

at_end_prints : (place : Place) → TokensPrint (tokens_at_end place)
at_end_prints outside = tt
at_end_prints (in_comment opened bad) = tt

tokens_print : (place : Place) (ps : List Piece) → PiecesPrint ps
    → TokensPrint (tokens_in place ps)
tokens_print place [] h = at_end_prints place
tokens_print place (run at t ∷ ps) h =
    with_given_prints (given place (run at t)) (tokens_in (place_after place (run at t)) ps)
    (given_prints place at t h.0) (tokens_print (place_after place (run at t)) ps h.1)
tokens_print place (stray at ∷ ps) h =
    with_given_prints (given place (stray at)) (tokens_in (place_after place (stray at)) ps)
    (stray_prints place at) (tokens_print (place_after place (stray at)) ps h)

-- ---- statements

abbrev StatementsPrint : Statements → Type 0
StatementsPrint no_statement = Unit {0}
StatementsPrint (unended at) = Unit {0}
StatementsPrint (bad_statement f) = Unit {0}
StatementsPrint (next_statement s ss) = (are_printed s.tokens ≡ true) × StatementsPrint ss

abbrev ReadingPrints : Reading → Type 0
ReadingPrints between = Unit {0}
ReadingPrints (within at ts) = are_printed ts ≡ true

abbrev EndedPrints : Option Statement → Type 0
EndedPrints None = Unit {0}
EndedPrints (Some s) = are_printed s.tokens ≡ true

one_more : (ts : List Token) (t : Token) → are_printed ts ≡ true → is_printed t ≡ true
    → are_printed (ts ++ t ∷ []) ≡ true
one_more [] t h k = both_true k refl
one_more (u ∷ ts) t h k =
    let both = and_parts (is_printed u) (are_printed ts) h in
    both_true both.0 (one_more ts t both.1 k)

after_prints : (r : Reading) (at : ℕ) (t : Token) → ReadingPrints r → is_printed t ≡ true
    → ReadingPrints (reading_after r at t)
after_prints between at t h k = go (is_whole t)
  where
    go : (b : Bool) → ReadingPrints (if b then between else within at (t ∷ []))
    go true = tt
    go false = both_true k refl
after_prints (within begun ts) at t h k = go (ends_statement t)
  where
    go : (b : Bool) → ReadingPrints (if b then between else within begun (ts ++ t ∷ []))
    go true = tt
    go false = one_more ts t h k

ended_prints : (r : Reading) (at : ℕ) (t : Token) → ReadingPrints r → is_printed t ≡ true
    → EndedPrints (ended_by r at t)
ended_prints between at t h k = go (is_whole t)
  where
    go : (b : Bool) → EndedPrints (if b then Some (statement at (t ∷ [])) else None)
    go true = both_true k refl
    go false = tt
ended_prints (within begun ts) at t h k = go (ends_statement t)
  where
    go : (b : Bool) → EndedPrints (if b then Some (statement begun (ts ++ t ∷ [])) else None)
    go true = one_more ts t h k
    go false = tt

with_ended_prints : (o : Option Statement) (ss : Statements) → EndedPrints o → StatementsPrint ss
    → StatementsPrint (with_ended o ss)
with_ended_prints None ss h k = k
with_ended_prints (Some s) ss h k = (h, k)

left_prints : (r : Reading) → StatementsPrint (statements_at_end r)
left_prints between = tt
left_prints (within at ts) = tt

statements_print : (r : Reading) (ts : Tokens) → ReadingPrints r → TokensPrint ts
    → StatementsPrint (statements_in r ts)
statements_print r no_token h k = left_prints r
statements_print r (bad_text f) h k = tt
statements_print r (next_token at t ts) h k =
    with_ended_prints (ended_by r at t) (statements_in (reading_after r at t) ts)
    (ended_prints r at t h k.0)
    (statements_print (reading_after r at t) ts (after_prints r at t h k.0) k.1)

all_print : (bytes : List ℕ) → StatementsPrint (statements_of bytes)
all_print bytes =
    statements_print between (tokens_in outside (pieces_from 0 bytes)) tt
    (tokens_print outside (pieces_from 0 bytes) (pieces_print 0 bytes))

-- ---- symbols

none_of_two : (a b : Bool) → (a || b) ≡ false → (a ≡ false) × (b ≡ false)
none_of_two true b h = absurd (let no : ⊥ = cc in no)
none_of_two false b h = (refl, h)

symbol_prints : (t : Token) → is_printed t ≡ true → has_dollar t ≡ false → is_symbol t ≡ true
symbol_prints [] h none = refl
symbol_prints (b ∷ t) h none =
    let prints = and_parts (is_printable b) (is_printed t) h in
    let other = none_of_two (b == 36) (has_dollar t) none in
    let here : is_name_byte b ≡ true =
    both_true prints.0 (ap (λ (d : Bool). if d then false else true) other.0) in
    both_true here (symbol_prints t prints.1 other.1)

before_prints : (ts : List Token) → are_printed ts ≡ true → are_symbols (before_dollar ts) ≡ true
before_prints [] h = refl
before_prints (t ∷ ts) h =
    let both = and_parts (is_printed t) (are_printed ts) h in
    go (has_dollar t) refl both.0 (before_prints ts both.1)
  where
    go : (b : Bool) → has_dollar t ≡ b → is_printed t ≡ true
        → are_symbols (before_dollar ts) ≡ true
        → are_symbols (if b then [] else t ∷ before_dollar ts) ≡ true
    go true is here rest = refl
    go false is here rest = both_true (symbol_prints t here is) rest

from_prints : (ts : List Token) → are_printed ts ≡ true → are_printed (from_dollar ts) ≡ true
from_prints [] h = refl
from_prints (t ∷ ts) h =
    go (has_dollar t) (from_prints ts (and_parts (is_printed t) (are_printed ts) h).1)
  where
    go : (b : Bool) → are_printed (from_dollar ts) ≡ true
        → are_printed (if b then t ∷ ts else from_dollar ts) ≡ true
    go true rest = h
    go false rest = rest

-- ---- forms

-- the symbols of a form
abbrev FormHasSymbols : Option Form → Type 0
FormHasSymbols None = Unit {0}
FormHasSymbols (Some block_start) = Unit {0}
FormHasSymbols (Some block_end) = Unit {0}
FormHasSymbols (Some (plain labels k symbols proof)) = are_symbols symbols ≡ true

if_form : (b : Bool) (form : Form) → FormHasSymbols (Some form) → FormHasSymbols (form_if b form)
if_form true form h = h
if_form false form h = tt

declared_symbols : (labels : List Token) (k : Keyword) (symbols rest : List Token)
    → are_symbols symbols ≡ true → FormHasSymbols (declaration_form labels k symbols rest)
declared_symbols labels k [] rest h = tt
declared_symbols labels k (x ∷ xs) rest h =
    if_form (is_end rest) (plain labels k (x ∷ xs) []) h

proved_symbols : (labels symbols rest : List Token) → are_symbols symbols ≡ true
    → FormHasSymbols (proof_form labels symbols rest)
proved_symbols labels symbols [] h = tt
proved_symbols labels symbols (t ∷ rest) h =
    if_form _ (plain labels proves symbols (before_dollar rest)) h

keyword_symbols : (labels symbols rest : List Token) (k : Keyword) → are_symbols symbols ≡ true
    → FormHasSymbols (keyword_form labels symbols rest k)
keyword_symbols labels symbols rest declares_constants h =
    declared_symbols labels declares_constants symbols rest h
keyword_symbols labels symbols rest declares_variables h =
    declared_symbols labels declares_variables symbols rest h
keyword_symbols labels symbols rest types_variable h =
    if_form (is_end rest) (plain labels types_variable symbols []) h
keyword_symbols labels symbols rest assumes h =
    if_form (is_end rest) (plain labels assumes symbols []) h
keyword_symbols labels symbols rest separates h =
    if_form (is_end rest) (plain labels separates symbols []) h
keyword_symbols labels symbols rest asserts h =
    if_form (is_end rest) (plain labels asserts symbols []) h
keyword_symbols labels symbols rest proves h = proved_symbols labels symbols rest h

labelled_symbols : (labels tokens : List Token) → are_printed tokens ≡ true
    → FormHasSymbols (labelled_form labels tokens)
labelled_symbols labels [] h = tt
labelled_symbols labels (token ∷ rest) h = go (keyword_of token)
  where
    symbols : are_symbols (before_dollar rest) ≡ true
    symbols = before_prints rest (and_parts (is_printed token) (are_printed rest) h).1

    go : (o : Option Keyword) → FormHasSymbols
        (option_and_then (keyword_form labels (before_dollar rest) (from_dollar rest)) o)
    go None = tt
    go (Some k) = keyword_symbols labels (before_dollar rest) (from_dollar rest) k symbols

block_symbols : (b e : Bool)
    → FormHasSymbols (if b then Some block_start else (if e then Some block_end else None))
block_symbols true e = tt
block_symbols false true = tt
block_symbols false false = tt

form_symbols : (tokens : List Token) → are_printed tokens ≡ true
    → FormHasSymbols (form_of tokens)
form_symbols [] h = tt
form_symbols (t ∷ []) h = block_symbols _ _
form_symbols (t ∷ (u ∷ ts)) h =
    labelled_symbols (before_dollar (t ∷ (u ∷ ts))) (from_dollar (t ∷ (u ∷ ts)))
    (from_prints (t ∷ (u ∷ ts)) h)

-- ---- assertions

abbrev AssertionsHaveSymbols : List Assertion → Type 0
AssertionsHaveSymbols [] = Unit {0}
AssertionsHaveSymbols (a ∷ others) =
    (are_symbols a.frame.statement ≡ true) × AssertionsHaveSymbols others

first_symbols : (c : Context) (o : Option Form) (others : List Assertion) → FormHasSymbols o
    → AssertionsHaveSymbols others
    → AssertionsHaveSymbols (with_assertion_first (form_assertion c o) others)
first_symbols c None others h k = k
first_symbols c (Some block_start) others h k = k
first_symbols c (Some block_end) others h k = k
first_symbols c (Some (plain ls declares_constants ss ws)) others h k = k
first_symbols c (Some (plain ls declares_variables ss ws)) others h k = k
first_symbols c (Some (plain ls types_variable ss ws)) others h k = k
first_symbols c (Some (plain ls assumes ss ws)) others h k = k
first_symbols c (Some (plain ls separates ss ws)) others h k = k
first_symbols c (Some (plain ls asserts ss ws)) others h k = (h, k)
first_symbols c (Some (plain ls proves ss ws)) others h k = (h, k)

assertion_symbols : (c : Context) (ss : Statements) → StatementsPrint ss
    → AssertionsHaveSymbols (assertions_in c ss)
assertion_symbols c no_statement h = tt
assertion_symbols c (unended at) h = tt
assertion_symbols c (bad_statement f) h = tt
assertion_symbols c (next_statement s ss) h =
    first_symbols c (form_of s.tokens) (assertions_in (context_after c s) ss)
    (form_symbols s.tokens h.0) (assertion_symbols (context_after c s) ss h.1)

last_of : (before : List Assertion) (a : Assertion) → AssertionsHaveSymbols (before ++ a ∷ [])
    → are_symbols a.frame.statement ≡ true
last_of [] a h = h.0
last_of (b ∷ before) a h = last_of before a h.1

pub last_symbols : (bytes : List ℕ) (before : List Assertion) (a : Assertion)
    → assertions_of bytes ≡ before ++ a ∷ [] → are_symbols a.frame.statement ≡ true
last_symbols bytes before a is =
    last_of before a
    (subst AssertionsHaveSymbols is
    (assertion_symbols empty_context (statements_of bytes) (all_print bytes)))
