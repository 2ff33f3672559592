-- The texts of the header's rows, and which row has a text.
use Rattle.std.proofs.Common.{◌≡◌, ℕ, ◌+◌, ◌<◌, zero, suc, Bool, true, false, List, [], ◌∷◌, ◌++◌}
use Rattle.std.proofs.Common.{take, map, length, refl, ap, sym, ◌∙◌, subst, arith}
use Rattle.std.specs.Prelude.{Option, Some, None, slice_get, option_map, bytes_eq, Contains, ◌==◌}
use Rattle.std.specs.Prelude.{codes}
use Rattle.std.specs.List.{list_all}
use Rattle.std.specs.Str.{IsUtf8}
use Rattle.std.proofs.lemmas.Option.{slice_get-get_or}
use Rattle.std.proofs.lemmas.Slice.Eq.{bytes_eq-Decides}
use Rattle.rule_core.specs.Named.{number_of_name}
use Rattle.rule_core.specs.DistinctNames.{names_of}
use Rattle.mm_text.specs.Bytes.{Token, has_repeated}
use Rattle.mm_header.specs.Header.{Row, header_rows}
use Rattle.mm_header.specs.HeaderRows.{words_of, expression_of}
use Rattle.mm_header.specs.HeaderTable.{row_of}
use Rattle.mm_header.specs.declared.rows.HeaderRow.{HeaderRow}
use Rattle.mm_check.specs.RowTexts.{joined, key_of}
use Rattle.mm_check.specs.HeaderLookup.{header_statements, statement_texts, StatesNothing, IsRowOf}
use Rattle.mm_check.specs.HeaderLookup.{HasNoRow, IsOnlyRow}
use Rattle.mm_check.proofs.Lists.{take_next}
use Rattle.std.proofs.Common.{lit<, ltb-true}
use Rattle.mm_check.proofs.Found.{Placed, placed, once}
use Rattle.std.proofs.lemmas.Bool.{eqb-true, and_parts}
use Rattle.std.proofs.lemmas.Option.{slice_get-map, slice_get_within, get_or_from_slice_get}
use Rattle.std.proofs.lemmas.Str.{IsUtf8-from_ascii}
use Rattle.std.proofs.lemmas.List.{length-take}
use Rattle.std.specs.Prelude.{nat_lt, slice_index_or}
use Rattle.mm_scope.proofs.Namings.{slice_get-take}
use Rattle.std.specs.Prelude.{is_none, MatchOption}
use Rattle.std.specs.Borrow.{Bor}

-- ---- texts

-- a text has a first word
pub first_of_words : (text : List ℕ)
    → (w : Token) × ((ws : List Token) × (words_of text ≡ w ∷ ws))
first_of_words [] = ([], ([], refl))
first_of_words (b ∷ text) = go (b == 32) refl (first_of_words text)
  where
    go : (t : Bool) → (b == 32) ≡ t → (w : Token) × ((ws : List Token) × (words_of text ≡ w ∷ ws))
        → (w : Token) × ((ws : List Token) × (words_of (b ∷ text) ≡ w ∷ ws))
    go true is rest = ([], (words_of text, rw is refl))
    go false is (w, (ws, all)) = (b ∷ w, (ws, rw (is, all) refl))

pub joined-words : (text : List ℕ) → joined (words_of text) ≡ text
joined-words [] = refl
joined-words (b ∷ text) = go (b == 32) refl (first_of_words text) (joined-words text)
  where
    go : (t : Bool) → (b == 32) ≡ t → (w : Token) × ((ws : List Token) × (words_of text ≡ w ∷ ws))
        → joined (words_of text) ≡ text → joined (words_of (b ∷ text)) ≡ b ∷ text
    go true is (w, (ws, all)) rest =
        let space : b ≡ 32 = eqb-true b 32 is in
        let front : joined (w ∷ ws) ≡ text = ap joined (sym all) ∙ rest in
        rw (is, all, space) (ap (λ (t : List ℕ). 32 ∷ t) front)
    go false is (w, (ws, all)) rest =
        let front : joined (w ∷ ws) ≡ text = ap joined (sym all) ∙ rest in
        rw (is, all) (ap (λ (t : List ℕ). b ∷ t) front)

turnstile : (text : List ℕ)
    → words_of (codes "|- " ++ text) ≡ codes "|-" ∷ words_of text
turnstile text = refl

marked : (text : List ℕ) → key_of (words_of (35 ∷ text)) ≡ joined (words_of (35 ∷ text))
marked text = go (first_of_words text)
  where
    go : (w : Token) × ((ws : List Token) × (words_of text ≡ w ∷ ws))
        → key_of (words_of (35 ∷ text)) ≡ joined (words_of (35 ∷ text))
    go (w, (ws, all)) = rw all refl

pub key-expression : (text : List ℕ) → key_of (expression_of text) ≡ text
key-expression [] = refl
key-expression (b ∷ text) = go (b == 35) refl
  where
    go : (t : Bool) → (b == 35) ≡ t → key_of (expression_of (b ∷ text)) ≡ b ∷ text
    go true is =
        let mark : b ≡ 35 = eqb-true b 35 is in
        rw mark (marked text ∙ joined-words (35 ∷ text))
    go false is = rw is (joined-words (b ∷ text))

-- ---- rows

statements_differ : has_repeated header_statements ≡ false
unfolding header_rows
statements_differ = refl

abbrev pub is_plain : List ℕ → Bool
is_plain text = list_all (λ (b : ℕ). nat_lt b 128) text

statements_are_plain : list_all is_plain header_statements ≡ true
unfolding header_rows
statements_are_plain = refl

pub plain_is_text : (text : List ℕ) → is_plain text ≡ true → IsUtf8 text
plain_is_text text plain = IsUtf8-from_ascii text (λ i. below text i plain)
  where
    below : (text : List ℕ) (i : ℕ) → is_plain text ≡ true → slice_index_or text i 0 < 128
    below [] i all = lit< tt
    below (b ∷ text) zero all =
        ltb-true b 128 (and_parts (nat_lt b 128) (is_plain text) all).0
    below (b ∷ text) (suc i) all =
        below text i (and_parts (nat_lt b 128) (is_plain text) all).1

-- what a list has is at a place
pub at_place : {X : Type 0} (xs : List X) (x : X) → Contains xs x
    → (k : ℕ) × (slice_get xs k ≡ Some x)
at_place xs x (k, within, is) = (k, slice_get-get_or xs k x within ∙ ap Some is)

pub all_at : {X : Type 0} (test : X → Bool) (xs : List X) (k : ℕ) (x : X)
    → list_all test xs ≡ true → slice_get xs k ≡ Some x → test x ≡ true
all_at test [] k x all there = let no : ⊥ = cc in absurd no
all_at test (y ∷ xs) zero x all there =
    let same : y ≡ x = cc in
    let first : test y ≡ true = (and_parts (test y) (list_all test xs) all).0 in rw (← same) first
all_at test (y ∷ xs) (suc k) x all there =
    all_at test xs k x (and_parts (test y) (list_all test xs) all).1 there

-- the place of a row's statement
pub statement_at : (r : Row) → Contains header_rows r
    → (k : ℕ) × ((slice_get header_rows k ≡ Some r)
    × (slice_get header_statements k ≡ Some r.statement))
statement_at r there =
    let place : (k : ℕ) × (slice_get header_rows k ≡ Some r) = at_place header_rows r there in (
      place.0,
      (
        place.1,
        slice_get-map (λ (r : Row). r.statement) header_rows place.0
            ∙ ap (option_map (λ (r : Row). r.statement)) place.1,
      ),
    )

-- a statement of a row is text
pub statement_is_text : (r : Row) → Contains header_rows r → IsUtf8 r.statement
statement_is_text r there =
    let place = statement_at r there in
    plain_is_text r.statement
    (all_at is_plain header_statements place.0 r.statement statements_are_plain place.1.1)

-- the number of a name
pub number_some : (es : List (List ℕ × Unit {0})) (name : List ℕ) (n : ℕ)
    → number_of_name es name ≡ Some n → slice_get (names_of es) n ≡ Some name
number_some es name n is =
    let found : (k : ℕ) × ((n ≡ 0 + k) × ((e : List ℕ × Unit {0}) × ((slice_get es k ≡ Some e)
    × (bytes_eq name e.0 ≡ true)))) =
    subst (λ (o : Option ℕ). Placed (λ (e : List ℕ × Unit {0}). bytes_eq name e.0) es o 0) is
    (placed (λ (e : List ℕ × Unit {0}). bytes_eq name e.0) es 0) in
    let same : n ≡ found.0 = omega (arith, found.1.0) in
    let text : name ≡ found.1.1.0.0 = (bytes_eq-Decides name found.1.1.0.0).0 found.1.1.1.1 in
    rw same (slice_get-map (λ (e : List ℕ × Unit {0}). e.0) es found.0
    ∙ ap (option_map (λ (e : List ℕ × Unit {0}). e.0)) found.1.1.1.0 ∙ ap Some (sym text))

pub number_none : (es : List (List ℕ × Unit {0})) (name : List ℕ) (k : ℕ)
    → number_of_name es name ≡ None → slice_get (names_of es) k ≡ Some name → ⊥
number_none es name k is there =
    go (slice_get es k) refl (sym (slice_get-map (λ (e : List ℕ × Unit {0}). e.0) es k) ∙ there)
  where
    none : Placed (λ (e : List ℕ × Unit {0}). bytes_eq name e.0) es None 0
    none =
        subst (λ (o : Option ℕ). Placed (λ (e : List ℕ × Unit {0}). bytes_eq name e.0) es o 0) is
        (placed (λ (e : List ℕ × Unit {0}). bytes_eq name e.0) es 0)

    go : (o : Option (List ℕ × Unit {0})) → slice_get es k ≡ o
        → option_map (λ (e : List ℕ × Unit {0}). e.0) o ≡ Some name → ⊥
    go None at has = let no : ⊥ = cc in no
    go (Some e) at has =
        let text : name ≡ e.0 = cc in none k e at ((bytes_eq-Decides name e.0).1 text)

-- the row at the number of a statement
pub row_at : (key : List ℕ) (n : ℕ) (o : Option (Bor HeaderRow))
    → option_map (λ (r : Bor HeaderRow). row_of r.now) o ≡ slice_get header_rows n
    → slice_get header_statements n ≡ Some key
    → MatchOption o (StatesNothing key) (λ (row : Bor HeaderRow). IsRowOf key row.now)
row_at key n None there states = absurd (none_there (slice_get header_rows n) there stated)
  where
    stated : option_map (λ (r : Row). r.statement) (slice_get header_rows n) ≡ Some key
    stated = sym (slice_get-map (λ (r : Row). r.statement) header_rows n) ∙ states

    none_there : (o : Option Row) → None ≡ o → option_map (λ (r : Row). r.statement) o ≡ Some key
        → ⊥
    none_there None h k = let no : ⊥ = cc in no
    none_there (Some r) h k = let no : ⊥ = cc in no
row_at key n (Some row) there states = record {
  there = (
    n,
    slice_get_within header_rows n (row_of row.now) here,
    get_or_from_slice_get header_rows n (row_of row.now) (row_of row.now) here,
  );
  states = some_same (sym stated ∙ states);
  only = λ r has is. same_row r has is;
}
  where
    here : slice_get header_rows n ≡ Some (row_of row.now)
    here = sym there

    stated : slice_get header_statements n ≡ Some row.now.statement.now
    stated =
        slice_get-map (λ (r : Row). r.statement) header_rows n
        ∙ ap (option_map (λ (r : Row). r.statement)) here

    some_same : {X : Type 0} {x y : X} → Some x ≡ Some y → x ≡ y
    some_same h = cc

    same_row : (r : Row) → Contains header_rows r → r.statement ≡ key → r ≡ row_of row.now
    same_row r has is =
        let place = statement_at r has in
        let one : n ≡ place.0 =
        once header_statements n place.0 key statements_differ states
        (place.1.1 ∙ ap Some is) in
        some_same (sym place.1.0 ∙ ap (slice_get header_rows) (sym one) ∙ here)

-- each row's statement is among them
pub no_row_at : (key : List ℕ) → ((k : ℕ) → slice_get header_statements k ≡ Some key → ⊥)
    → StatesNothing key
no_row_at key none r there is =
    let place = statement_at r there in none place.0 (place.1.1 ∙ ap Some is)

-- a new statement is not among the ones before it
pub statement_is_new : (es : List (List ℕ × Unit {0})) (i : ℕ) (x : List ℕ)
    → names_of es ≡ take i header_statements → slice_get header_statements i ≡ Some x
    → is_none (number_of_name es x) ≡ true
statement_is_new es i x before there = go (number_of_name es x) refl
  where
    go : (o : Option ℕ) → number_of_name es x ≡ o → is_none o ≡ true
    go None at = refl
    go (Some n) at =
        let found : slice_get (take i header_statements) n ≡ Some x =
        ap (λ (xs : List (List ℕ)). slice_get xs n) (sym before) ∙ number_some es x n at in
        let within = slice_get_within (take i header_statements) n x found in
        let same : n ≡ i =
        once header_statements n i x statements_differ
        (slice_get-take header_statements i n x found) there in
        absurd (omega (arith, within, length-take i header_statements, same))

-- ---- words

pub found_words : (words : List Token) (row : HeaderRow) → IsRowOf (key_of words) row
    → words ≡ expression_of row.statement.now → IsOnlyRow words row
found_words words row found is = record {
  there = found.there;
  states = is;
  only = λ r has same. found.only r has (sym (key-expression r.statement) ∙ ap key_of (sym same));
}

pub other_words : (words : List Token) (row : HeaderRow) → IsRowOf (key_of words) row
    → (words ≡ expression_of row.statement.now → ⊥) → HasNoRow words
other_words words row found differ r has same =
    let one : r ≡ row_of row =
    found.only r has (sym (key-expression r.statement) ∙ ap key_of (sym same)) in
    differ (same ∙ ap (λ (x : Row). expression_of x.statement) one)

pub no_words : (words : List Token) → StatesNothing (key_of words) → HasNoRow words
no_words words none r has same =
    none r has (sym (key-expression r.statement) ∙ ap key_of (sym same))

-- the statements before a row, and its own
pub statements_next : (rows : List HeaderRow) (old new : List (List ℕ × Unit {0})) (i : ℕ)
    (d : HeaderRow) → map row_of rows ≡ header_rows → i < length rows
    → names_of old ≡ take i (statement_texts (map row_of rows))
    → (is_none (number_of_name old (slice_index_or rows i d).statement.now) ≡ true
    → names_of new ≡ names_of old ++ (slice_index_or rows i d).statement.now ∷ [])
    → names_of new ≡ take (i + 1) (statement_texts (map row_of rows))
statements_next rows old new i d all within before adds =
    adds (statement_is_new old i text
    (before ∙ ap (λ (rs : List Row). take i (statement_texts rs)) all)
    (ap (λ (rs : List Row). slice_get (statement_texts rs) i) (sym all) ∙ there))
    ∙ ap (λ (xs : List (List ℕ)). xs ++ text ∷ []) before
    ∙ sym (take_next (statement_texts (map row_of rows)) i text there)
  where
    text : List ℕ
    text = (slice_index_or rows i d).statement.now

    there : slice_get (statement_texts (map row_of rows)) i ≡ Some text
    there =
        slice_get-map (λ (r : Row). r.statement) (map row_of rows) i
        ∙ ap (option_map (λ (r : Row). r.statement)) (slice_get-map row_of rows i
        ∙ ap (option_map row_of) (slice_get-get_or rows i d within))
