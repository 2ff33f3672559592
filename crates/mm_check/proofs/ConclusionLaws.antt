-- What the words of a theorem say, by what is read from them.
use Rattle.std.proofs.Common.{◌≡◌, ◌≢◌, ℕ, ◌<◌, ◌≤◌, ◌-◌, zero, suc, Bool, true, false, List, []}
use Rattle.std.proofs.Common.{◌∷◌, ◌++◌, map, take, drop, length, refl, ap, sym, ◌∙◌, subst, arith}
use Rattle.std.proofs.Common.{◌⊎◌, inl, inr, Bor}
use Rattle.std.specs.Prelude.{codes, All, Contains, bytes_eq, slice_index_or, ◌||◌}
use Rattle.std.specs.Prelude.{if◌then◌else◌, nat_le, nat_lt, ◌==◌, not}
use Rattle.std.specs.List.{list_any, list_all}
use Rattle.std.proofs.lemmas.Bool.{and_parts, leb-true, lt-ltb, false≢true}
use Rattle.std.specs.Cmp.Derive.{both_true}
use Rattle.std.proofs.lemmas.List.{take_all}
use Rattle.std.proofs.lemmas.List.Elements.{Contains-get_or}
use Rattle.std.proofs.lemmas.Slice.Eq.{bytes_eq-Decides}
use Rattle.mm_text.specs.Bytes.{Token, has_token, is_printable}
use Rattle.ml_pat.specs.Patterns.{Pattern, nullary, unary, binary, sorted, quantified, var, meta}
use Rattle.ml_pat.specs.Patterns.{constant, imp, ev}
use Rattle.ml_pat.specs.Named.{AreDistinct}
use Rattle.ml_pat.specs.Leaves.{EachLeaf}
use Rattle.mm_proof.specs.Tokens.{name_of, object_token, pattern_tokens}
use Rattle.pattern_reader.specs.Readings.{IsSortToken, IsConstantToken, IsNameToken, GainsOnly}
use Rattle.pattern_reader.specs.Readings.{IsReading, SayNoPattern, AreUtf8, written_with}
use Rattle.pattern_reader.specs.ReadingLaws.{ReadingsAgree, IsRenumbered, renumbered}
use Rattle.pattern_reader.proofs.TokenLaws.{starts-sort, starts-constant}
use Rattle.mm_justify.specs.Counting.{is_object}
use Rattle.mm_justify.specs.Stating.{IsName, fronts, is_name_byte, typecode_of, variables_in}
use Rattle.mm_justify.specs.Stating.{closed_over, holds_text}
use Rattle.mm_check.specs.Stated.{words}
use Rattle.mm_check.specs.PlainStatements.{is_ascii_token, are_ascii}
use Rattle.mm_check.specs.Conclusions.{is_symbol, are_symbols, SaysReached, SaysNothing}
use Rattle.mm_check.specs.Conclusions.{IsClosedText}
use Rattle.mm_check.proofs.AssertingLaws.{ascii_words}
use Rattle.mm_check.proofs.ObjectTokens.{no_objects, object_in_text}

-- ---- tokens of names

sort_typecode : (t : Token) → IsSortToken t → typecode_of t ≡ codes "#Sort"
sort_typecode t h = ap typecode_of h.1

constant_typecode : (t : Token) → IsConstantToken t → typecode_of t ≡ codes "#Pattern"
constant_typecode t (inl h) = ap typecode_of h.1
constant_typecode t (inr h) = ap typecode_of h.1

typecodes_differ : codes "#Sort" ≡ codes "#Pattern" → ⊥
typecodes_differ h =
    let second : 83 ≡ 80 = ap (λ (t : Token). slice_index_or t 1 0) h in omega (arith, second)

name_kind : (t : Token) → IsName t → IsNameToken t
name_kind t n = go n.is_front
  where
    is_behind : (front : Token) → front ≡ n.front → t ≡ front ++ n.rest
    is_behind front same = n.is ∙ ap (λ (f : Token). f ++ n.rest) (sym same)

    go : Contains fronts n.front → IsNameToken t
    go (zero, lt, is) = inl (n.rest, is_behind (codes "s:") is)
    go (suc zero, lt, is) = inr (inl (n.rest, is_behind (codes "f:") is))
    go (suc (suc zero), lt, is) = inr (inr (n.rest, is_behind (codes "d:") is))
    go (suc (suc (suc k)), lt, is) = absurd (omega (arith, lt))

sort_kind : (t : Token) → IsName t → typecode_of t ≡ codes "#Sort" → IsSortToken t
sort_kind t n is = go (name_kind t n)
  where
    go : IsNameToken t → IsSortToken t
    go (inl s) = s
    go (inr c) = absurd (typecodes_differ (sym is ∙ constant_typecode t c))

constant_kind : (t : Token) → IsName t → typecode_of t ≡ codes "#Pattern" → IsConstantToken t
constant_kind t n is = go (name_kind t n)
  where
    go : IsNameToken t → IsConstantToken t
    go (inl s) = absurd (typecodes_differ (sym (sort_typecode t s) ∙ is))
    go (inr c) = c

sort_is_other : (t : Token) → IsSortToken t → is_object t ≡ false
sort_is_other t h = ap is_object h.1

constant_is_other : (t : Token) → IsConstantToken t → is_object t ≡ false
constant_is_other t (inl h) = ap is_object h.1
constant_is_other t (inr h) = ap is_object h.1

-- a symbol with such a front is a name
name_made : (t : Token) → is_symbol t ≡ true → IsNameToken t → IsName t
name_made t symbol (inl h) = record {
  front = codes "s:";
  rest = h.0;
  is_front = (0, omega arith, refl);
  is = h.1;
  bytes = ap is_symbol (sym h.1) ∙ symbol;
}
name_made t symbol (inr (inl h)) = record {
  front = codes "f:";
  rest = h.0;
  is_front = (1, omega arith, refl);
  is = h.1;
  bytes = ap is_symbol (sym h.1) ∙ symbol;
}
name_made t symbol (inr (inr h)) = record {
  front = codes "d:";
  rest = h.0;
  is_front = (2, omega arith, refl);
  is = h.1;
  bytes = ap is_symbol (sym h.1) ∙ symbol;
}

-- ---- leaves

starts : (t : Token) → IsNameToken t → (b : ℕ) × ((rest : Token) × (t ≡ (b ∷ rest)))
starts t (inl s) = let w = starts-sort t s in (115, (w.0, w.1))
starts t (inr c) = starts-constant t c

within : (names : List Token) (i : ℕ) → IsNameToken (name_of names i) → i < length names
within [] i h =
    let w : (b : ℕ) × ((rest : Token) × (name_of [] i ≡ (b ∷ rest))) = starts (name_of [] i) h in
    let is : name_of [] i ≡ (w.0 ∷ w.1.0) = w.1.1 in
    absurd (let no : ⊥ = cc in no)
within (t ∷ names) zero h = omega arith
within (t ∷ names) (suc i) h = omega (arith, within names i h)

none_both : (xs ys : List ℕ) → xs ++ ys ≡ [] → (xs ≡ []) × (ys ≡ [])
none_both [] ys h = (refl, h)
none_both (x ∷ xs) ys h = absurd (let no : ⊥ = cc in no)

sort_closed : (names : List Token) (i : ℕ) → IsSortToken (name_of names i)
    → (i < length names) × (typecode_of (name_of names i) ≡ codes "#Sort")
sort_closed names i h = (within names i (inl h), sort_typecode (name_of names i) h)

closed_leaves : (names : List Token) (p : Pattern) → EachLeaf (written_with names) p
    → variables_in p ≡ [] → EachLeaf (closed_over names) p
closed_leaves names (nullary c) h none = tt
closed_leaves names (unary c p) h none = closed_leaves names p h none
closed_leaves names (binary c p q) h none =
    let both : (variables_in p ≡ []) × (variables_in q ≡ []) =
    none_both (variables_in p) (variables_in q) none in
    (closed_leaves names p h.0 both.0, closed_leaves names q h.1 both.1)
closed_leaves names (sorted c p s) h none =
    (closed_leaves names p h.0 none, sort_closed names s h.1)
closed_leaves names (quantified c x s p) h none = absurd (let no : ⊥ = cc in no)
closed_leaves names (var x) h none = absurd (let no : ⊥ = cc in no)
closed_leaves names (meta i) h none = h
closed_leaves names (constant c) h none =
    (within names c (inr h), constant_typecode (name_of names c) h)

written_leaves : (names : List Token) (p : Pattern) → All IsName names
    → EachLeaf (closed_over names) p → EachLeaf (written_with names) p
written_leaves names (nullary c) each h = tt
written_leaves names (unary c p) each h = written_leaves names p each h
written_leaves names (binary c p q) each h =
    (written_leaves names p each h.0, written_leaves names q each h.1)
written_leaves names (sorted c p s) each h = (
  written_leaves names p each h.0,
  sort_kind (name_of names s) (each s [] h.1.0) h.1.1,
)
written_leaves names (quantified c x s p) each h = absurd h.1.0
written_leaves names (var x) each h = absurd h
written_leaves names (meta i) each h = h
written_leaves names (constant c) each h = constant_kind (name_of names c) (each c [] h.0) h.1

closed_has_none : (names : List Token) (p : Pattern) → EachLeaf (closed_over names) p
    → variables_in p ≡ []
closed_has_none names (nullary c) h = refl
closed_has_none names (unary c p) h = closed_has_none names p h
closed_has_none names (binary c p q) h =
    ap (λ (xs : List ℕ). xs ++ variables_in q) (closed_has_none names p h.0)
    ∙ closed_has_none names q h.1
closed_has_none names (sorted c p s) h = closed_has_none names p h.0
closed_has_none names (quantified c x s p) h = absurd h.1.0
closed_has_none names (var x) h = absurd h
closed_has_none names (meta i) h = absurd h
closed_has_none names (constant c) h = refl

other_leaves : (names : List Token) (p : Pattern) → EachLeaf (written_with names) p
    → EachLeaf (no_objects names) p
other_leaves names (nullary c) h = tt
other_leaves names (unary c p) h = other_leaves names p h
other_leaves names (binary c p q) h = (other_leaves names p h.0, other_leaves names q h.1)
other_leaves names (sorted c p s) h =
    (other_leaves names p h.0, sort_is_other (name_of names s) h.1)
other_leaves names (quantified c x s p) h =
    (other_leaves names p h.0, (tt, sort_is_other (name_of names s) h.1.1))
other_leaves names (var x) h = tt
other_leaves names (meta i) h = h
other_leaves names (constant c) h = constant_is_other (name_of names c) h

-- ---- object variables in a text

object_found : (ts : List Token) (v : Token) → has_token ts v ≡ true → is_object v ≡ true
    → list_any is_object ts ≡ true
object_found [] v has object = absurd (false≢true has)
object_found (t ∷ ts) v has object =
    go (bytes_eq t v) (is_object t) refl refl has (object_found ts v)
  where
    go : (b o : Bool) → bytes_eq t v ≡ b → is_object t ≡ o → (b || has_token ts v) ≡ true
        → (has_token ts v ≡ true → is_object v ≡ true → list_any is_object ts ≡ true)
        → (o || list_any is_object ts) ≡ true
    go b true same here has rest = refl
    go true false same here has rest =
        absurd (false≢true (sym here ∙ ap is_object ((bytes_eq-Decides t v).0 same) ∙ object))
    go false false same here has rest = rest has object

an_object : (ts : List Token) → list_any is_object ts ≡ true
    → (v : Token) × (has_token ts v ≡ true) × (is_object v ≡ true)
an_object [] any = absurd (false≢true any)
an_object (t ∷ ts) any = go (is_object t) refl any (an_object ts)
  where
    go : (o : Bool) → is_object t ≡ o → (o || list_any is_object ts) ≡ true
        → (list_any is_object ts ≡ true
        → (v : Token) × (has_token ts v ≡ true) × (is_object v ≡ true))
        → (v : Token) × (has_token (t ∷ ts) v ≡ true) × (is_object v ≡ true)
    go true here any rest =
        (t, ap (λ (b : Bool). b || has_token ts t) ((bytes_eq-Decides t t).1 refl), here)
    go false here any rest =
        let w = rest any in (w.0, or_right (bytes_eq t w.0) (has_token ts w.0) w.1, w.2)
      where
        or_right : (a b : Bool) → b ≡ true → (a || b) ≡ true
        or_right true b h = refl
        or_right false b h = h

said_object : (names : List Token) (p : Pattern) (x : ℕ) (xs : List ℕ)
    → EachLeaf (no_objects names) p → variables_in p ≡ (x ∷ xs)
    → list_any is_object (pattern_tokens names p) ≡ true
said_object names p x xs leaves is =
    let v : Token = object_token x in
    let there : has_token (map object_token (variables_in p)) v ≡ true =
    ap (λ (ys : List ℕ). has_token (map object_token ys) v) is
    ∙ ap (λ (b : Bool). b || has_token (map object_token xs) v) ((bytes_eq-Decides v v).1 refl) in
    let both : (has_token (holds_text names p) v ≡ true) × (is_object v ≡ true) =
    and_parts (has_token (holds_text names p) v) (is_object v)
    (sym (object_in_text names p v leaves) ∙ there) in
    object_found (holds_text names p) v both.0 both.1

none_said : (names : List Token) (p : Pattern) → EachLeaf (no_objects names) p
    → list_any is_object (pattern_tokens names p) ≡ false → variables_in p ≡ []
none_said names p leaves none = go (variables_in p) refl
  where
    go : (xs : List ℕ) → variables_in p ≡ xs → xs ≡ []
    go [] is = refl
    go (x ∷ xs) is = absurd (false≢true (sym none ∙ said_object names p x xs leaves is))

says_none : (names : List Token) (p : Pattern) → EachLeaf (no_objects names) p
    → variables_in p ≡ [] → list_any is_object (pattern_tokens names p) ≡ true → ⊥
says_none names p leaves none any =
    let w : (v : Token) × (has_token (holds_text names p) v ≡ true) × (is_object v ≡ true) =
    an_object (holds_text names p) any in
    let there : has_token (map object_token (variables_in p)) w.0 ≡ true =
    object_in_text names p w.0 leaves ∙ both_true w.1 w.2 in
    false≢true (sym (ap (λ (ys : List ℕ). has_token (map object_token ys) w.0) none) ∙ there)

-- ---- conclusions

-- a text that says that one pattern reaches another
record Reaches (turnstile : Token) (text names : List Token) (p : Pattern) : Type 0 where
  mark : turnstile ≡ codes "|-"
  reading : IsReading names text p
  closed : list_any is_object text ≡ true → ⊥

reaches : (whole : List Token) (turnstile : Token) (text names : List Token) (a b : Pattern)
    → whole ≡ turnstile ∷ text → SaysReached whole names a b
    → Reaches turnstile text names (imp a (ev b))
reaches whole turnstile text names a b is says =
    let p : Pattern = imp a (ev b) in
    let same : turnstile ∷ text ≡ codes "|-" ∷ pattern_tokens names p = sym is ∙ says.says in
    let tokens : text ≡ pattern_tokens names p = cc in
    let leaves : EachLeaf (written_with names) p =
    written_leaves names p says.are_names says.closed in
    record {
      mark = cc;
      reading = record { leaves = leaves; text = tokens };
      closed = λ any. says_none names p (other_leaves names p leaves)
          (closed_has_none names p says.closed) (ap (list_any is_object) (sym tokens) ∙ any);
    }

another_mark : (whole : List Token) (turnstile : Token) (text : List Token)
    → whole ≡ turnstile ∷ text → bytes_eq turnstile (codes "|-") ≡ false → SaysNothing whole
another_mark whole turnstile text is differs names a b says =
    let r : Reaches turnstile text names (imp a (ev b)) =
    reaches whole turnstile text names a b is says in
    false≢true (sym differs ∙ (bytes_eq-Decides turnstile (codes "|-")).1 r.mark)

has_objects : (whole : List Token) (turnstile : Token) (text : List Token)
    → whole ≡ turnstile ∷ text → list_any is_object text ≡ true → SaysNothing whole
has_objects whole turnstile text is any names a b says =
    let r : Reaches turnstile text names (imp a (ev b)) =
    reaches whole turnstile text names a b is says in
    r.closed any

pub unread : (whole text : List Token) → IsClosedText whole text → SayNoPattern text → SaysNothing whole
unread whole text c none names a b says =
    let r : Reaches (codes "|-") text names (imp a (ev b)) =
    reaches whole (codes "|-") text names a b c.is says in
    none names (imp a (ev b)) r.reading

pub another_form : (whole text names : List Token) (p : Pattern) → ReadingsAgree
    → IsClosedText whole text → AreDistinct names → IsReading names text p
    → ((a b : Pattern) → p ≢ imp a (ev b)) → SaysNothing whole
another_form whole text names p agree c distinct reading other others a b says =
    let r : Reaches (codes "|-") text others (imp a (ev b)) =
    reaches whole (codes "|-") text others a b c.is says in
    let n : IsRenumbered names others p (imp a (ev b)) =
    agree names others text p (imp a (ev b)) distinct reading r.reading in
    other (renumbered n.number a) (renumbered n.number b) n.is

-- each of the names that were gained is a name
all_contained : (f : Token → Bool) (ts : List Token) (t : Token) → list_all f ts ≡ true
    → Contains ts t → f t ≡ true
all_contained f [] t whole (k, lt, is) = absurd (omega (arith, lt))
all_contained f (u ∷ ts) t whole (zero, lt, is) =
    sym (ap f is) ∙ (and_parts (f u) (list_all f ts) whole).0
all_contained f (u ∷ ts) t whole (suc k, lt, is) =
    all_contained f ts t (and_parts (f u) (list_all f ts) whole).1 (k, omega (arith, lt), is)

gained_names : (text names : List Token) → are_symbols text ≡ true → GainsOnly text [] names
    → All IsName names
gained_names text names symbols gained k d lt =
    go (gained.each (slice_index_or names k d) (Contains-get_or names k d lt))
  where
    go : Contains [] (slice_index_or names k d)
        ⊎ (Contains text (slice_index_or names k d) × IsNameToken (slice_index_or names k d))
        → IsName (slice_index_or names k d)
    go (inl h) = absurd (omega (arith, h.1))
    go (inr h) = name_made (slice_index_or names k d)
        (all_contained is_symbol text (slice_index_or names k d) symbols h.0) h.1

text_symbols : (whole text : List Token) → IsClosedText whole text → are_symbols whole ≡ true
    → are_symbols text ≡ true
text_symbols whole text c symbols =
    (and_parts (is_symbol (codes "|-")) (are_symbols text) (ap are_symbols (sym c.is) ∙ symbols)).1

pub says_reached : (whole text old names : List Token) (p a b x y : Pattern)
    → are_symbols whole ≡ true → IsClosedText whole text → old ≡ [] → GainsOnly text old names
    → AreDistinct names → IsReading names text p → p ≡ imp a (ev b) → x ≡ a → y ≡ b
    → SaysReached whole names x y
says_reached whole text old names p a b x y symbols c new gained distinct reading is from to =
    let same : p ≡ imp x (ev y) =
    is ∙ ap (λ (q : Pattern). imp q (ev b)) (sym from)
    ∙ ap (λ (q : Pattern). imp x (ev q)) (sym to) in
    let only : GainsOnly text [] names =
    subst (λ (ns : List Token). GainsOnly text ns names) new gained in
    let none : variables_in p ≡ [] =
    none_said names p (other_leaves names p reading.leaves)
    (ap (list_any is_object) (sym reading.text) ∙ c.closed) in
    record {
      are_names = gained_names text names (text_symbols whole text c symbols) only;
      distinct = distinct;
      closed = subst (EachLeaf (closed_over names)) same
          (closed_leaves names p reading.leaves none);
      says = c.is ∙ ap (λ (ts : List Token). codes "|-" ∷ ts) reading.text
          ∙ ap (holds_text names) same;
    }

-- ---- words

name_byte_ascii : (b : ℕ) → is_name_byte b ≡ true → nat_lt b 128 ≡ true
name_byte_ascii b is =
    let prints : is_printable b ≡ true =
    (and_parts (is_printable b) (if b == 36 then false else true) is).0 in
    let low : b ≤ 126 = leb-true b 126 (and_parts (nat_le 33 b) (nat_le b 126) prints).1 in
    lt-ltb b 128 (omega arith)

symbol_ascii : (t : Token) → is_symbol t ≡ true → is_ascii_token t ≡ true
symbol_ascii [] is = refl
symbol_ascii (b ∷ t) is =
    let both = and_parts (is_name_byte b) (is_symbol t) is in
    both_true (name_byte_ascii b both.0) (symbol_ascii t both.1)

symbols_ascii : (ts : List Token) → are_symbols ts ≡ true → are_ascii ts ≡ true
symbols_ascii [] are = refl
symbols_ascii (t ∷ ts) are =
    let both = and_parts (is_symbol t) (are_symbols ts) are in
    both_true (symbol_ascii t both.0) (symbols_ascii ts both.1)

pub text_utf8 : (ws text : List (Bor Token)) → IsClosedText (words ws) (words text)
    → are_symbols (words ws) ≡ true → AreUtf8 text
text_utf8 ws text c symbols =
    ascii_words text
    (symbols_ascii (words text) (text_symbols (words ws) (words text) c symbols))

-- ---- the first word and the others

abbrev others : List (Bor Token) → List (Bor Token)
others ws = take (length ws - 1) (drop 1 ws)

first_word : (ws : List (Bor Token)) (d : Bor Token) → 1 ≤ length ws
    → words ws ≡ (slice_index_or ws 0 d).now ∷ words (others ws)
first_word [] d low = absurd (omega arith)
first_word (w ∷ ws) d low =
    let same : take (length (w ∷ ws) - 1) ws ≡ ws =
    take_all (length (w ∷ ws) - 1) ws (omega arith) in
    ap (λ (us : List (Bor Token)). w.now ∷ words us) (sym same)

not_true : (b : Bool) → not b ≡ true → b ≡ false
not_true true h = sym h
not_true false h = refl

not_false : (b : Bool) → not b ≡ false → b ≡ true
not_false true h = refl
not_false false h = sym h

pub other_mark : (ws : List (Bor Token)) (d : Bor Token) (mark : Token) (b : Bool)
    → 1 ≤ length ws → mark ≡ codes "|-" → b ≡ not (bytes_eq (slice_index_or ws 0 d).now mark)
    → b ≡ true → SaysNothing (words ws)
other_mark ws d mark b low is test differs =
    let first : Token = (slice_index_or ws 0 d).now in
    another_mark (words ws) first (words (others ws)) (first_word ws d low)
    (ap (bytes_eq first) (sym is) ∙ not_true (bytes_eq first mark) (sym test ∙ differs))

pub objects_behind : (ws : List (Bor Token)) (d : Bor Token) (b : Bool) → 1 ≤ length ws
    → b ≡ list_any is_object (words (take (length ws - 1) (drop 1 ws))) → b ≡ true
    → SaysNothing (words ws)
objects_behind ws d b low test any =
    has_objects (words ws) (slice_index_or ws 0 d).now (words (others ws)) (first_word ws d low)
    (sym test ∙ any)

pub closed_behind : (ws : List (Bor Token)) (d : Bor Token) (mark : Token) (b o : Bool)
    → 1 ≤ length ws → mark ≡ codes "|-" → b ≡ not (bytes_eq (slice_index_or ws 0 d).now mark)
    → b ≡ false → o ≡ list_any is_object (words (take (length ws - 1) (drop 1 ws)))
    → o ≡ false → IsClosedText (words ws) (words (take (length ws - 1) (drop 1 ws)))
closed_behind ws d mark b o low is test same objects none =
    let first : Token = (slice_index_or ws 0 d).now in
    let marked : first ≡ codes "|-" =
    (bytes_eq-Decides first mark).0 (not_false (bytes_eq first mark) (sym test ∙ same)) ∙ is in
    record {
      is = first_word ws d low ∙ ap (λ (t : Token). t ∷ words (others ws)) marked;
      closed = sym objects ∙ none;
    }
