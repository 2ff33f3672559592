-- What an assertion says, compared with the row of its statement.
use Rattle.std.proofs.Common.{◌≡◌, ℕ, ◌<◌, Bool, true, false, map, zero, suc, List, [], ◌∷◌, length}
use Rattle.std.proofs.Common.{refl, ap, sym, ◌∙◌, subst}
use Rattle.std.specs.Prelude.{bytes_eq, Option, Some, None, slice_index_or, slice_get, option_map}
use Rattle.std.specs.List.{list_all}
use Rattle.std.specs.Borrow.{Bor}
use Rattle.std.specs.Global.{Vec}
use Rattle.std.specs.Cmp.Derive.{both_true}
use Rattle.std.proofs.lemmas.Bool.{and_parts, both_ways, true≢false}
use Rattle.std.proofs.lemmas.Option.{slice_get-get_or, slice_get-map}
use Rattle.std.proofs.lemmas.Slice.Eq.{bytes_eq-Decides}
use Rattle.mm_text.specs.Bytes.{Token}
use Rattle.mm_header.specs.Header.{Row}
use Rattle.mm_header.specs.HeaderRows.{expression_of, types_texts}
use Rattle.mm_header.specs.HeaderTable.{row_of}
use Rattle.mm_header.specs.declared.rows.HeaderRow.{HeaderRow}
use Rattle.mm_check.specs.Stated.{PlainTyped, PlainStated, words, plain_premises}
use Rattle.mm_check.specs.HeaderLookup.{IsOnlyRow}
use Rattle.mm_check.specs.RowTexts.{type_among, type_wanted, header_type, same_type, is_named}
use Rattle.mm_check.specs.RowTexts.{agrees}
use Rattle.mm_check.specs.RowTexts.{are_header_types, is_kept, IsOfRow, SaysRow}

-- ---- premises

some_same : {X : Type 0} {x y : X} → Some x ≡ Some y → x ≡ y
some_same h = cc

pub premise_at : (ps : List (Vec (Bor Token))) (hs : List (Bor (List ℕ))) (i : ℕ)
    (p : Vec (Bor Token)) (h : Bor (List ℕ)) → i < length ps → i < length hs
    → plain_premises ps ≡ map expression_of (map (λ (h : Bor (List ℕ)). h.now) hs)
    → words (slice_index_or ps i p).items ≡ expression_of (slice_index_or hs i h).now
premise_at ps hs i p h within within' same =
    some_same (sym one ∙ ap (λ (xs : List (List Token)). slice_get xs i) same ∙ other)
  where
    one : slice_get (plain_premises ps) i ≡ Some (words (slice_index_or ps i p).items)
    one =
        slice_get-map (λ (p : Vec (Bor Token)). words p.items) ps i
        ∙ ap (option_map (λ (p : Vec (Bor Token)). words p.items)) (slice_get-get_or ps i p within)

    other : slice_get (map expression_of (map (λ (h : Bor (List ℕ)). h.now) hs)) i
        ≡ Some (expression_of (slice_index_or hs i h).now)
    other =
        slice_get-map expression_of (map (λ (h : Bor (List ℕ)). h.now) hs) i
        ∙ ap (option_map expression_of) (slice_get-map (λ (h : Bor (List ℕ)). h.now) hs i
        ∙ ap (option_map (λ (h : Bor (List ℕ)). h.now)) (slice_get-get_or hs i h within'))

-- ---- types

same_type-sound : (a b : Option Token) → same_type a b ≡ true → a ≡ b
same_type-sound None None h = refl
same_type-sound None (Some y) h = let no : ⊥ = cc in absurd no
same_type-sound (Some x) None h = let no : ⊥ = cc in absurd no
same_type-sound (Some x) (Some y) h = ap Some ((bytes_eq-Decides x y).0 h)

same_type-whole : (a b : Option Token) → a ≡ b → same_type a b ≡ true
same_type-whole None None h = refl
same_type-whole None (Some y) h = let no : ⊥ = cc in absurd no
same_type-whole (Some x) None h = let no : ⊥ = cc in absurd no
same_type-whole (Some x) (Some y) h = (bytes_eq-Decides x y).1 (some_same h)

abbrev Text : Type 0
Text = List ℕ × List ℕ × List ℕ

-- a token that is no variable of these has no type of theirs
not_wanted : (xs : List Text) (s : PlainStated) (v : Token) → is_named xs v ≡ false
    → type_wanted xs s v ≡ None
not_wanted [] s v h = refl
not_wanted (x ∷ xs) s v h = go (bytes_eq x.2 v) refl (not_wanted xs s v)
  where
    go : (b : Bool) → bytes_eq x.2 v ≡ b → (is_named xs v ≡ false → type_wanted xs s v ≡ None)
        → type_wanted (x ∷ xs) s v ≡ None
    go true is rest = let never : true ≡ false = rw is at h in absurd (true≢false never)
    go false is rest =
        let none : is_named xs v ≡ false = rw is at h in rw is (rest none)

-- a variable that has a type is one of these
not_typed : (ts : List PlainTyped) (v : Token)
    → list_all (λ (t : PlainTyped). is_named types_texts t.variable) ts ≡ true
    → is_named types_texts v ≡ false → type_among ts v ≡ None
not_typed [] v all h = refl
not_typed (t ∷ ts) v all h = go (bytes_eq t.variable v) refl (λ a. not_typed ts v a h)
  where
    parts : (is_named types_texts t.variable ≡ true)
        × (list_all (λ (t : PlainTyped). is_named types_texts t.variable) ts ≡ true)
    parts = and_parts _ _ all

    go : (b : Bool) → bytes_eq t.variable v ≡ b
        → (list_all (λ (t : PlainTyped). is_named types_texts t.variable) ts ≡ true
        → type_among ts v ≡ None) → type_among (t ∷ ts) v ≡ None
    go true is rest =
        let same : t.variable ≡ v = (bytes_eq-Decides t.variable v).0 is in
        absurd (both_ways (is_named types_texts v) h
        (subst (λ (w : Token). is_named types_texts w ≡ true) same parts.0))
    go false is rest = rw is (rest parts.1)

-- what holds of each of some variables holds of the one with this name
named_agrees : (xs : List Text) (s : PlainStated) (v : Token) → list_all (agrees s) xs ≡ true
    → is_named xs v ≡ true → same_type (type_among s.types v) (header_type s v) ≡ true
named_agrees [] s v all named = let no : ⊥ = cc in absurd no
named_agrees (x ∷ xs) s v all named = go (bytes_eq x.2 v) refl (named_agrees xs s v)
  where
    parts : (agrees s x ≡ true) × (list_all (agrees s) xs ≡ true)
    parts = and_parts _ _ all

    go : (b : Bool) → bytes_eq x.2 v ≡ b
        → (list_all (agrees s) xs ≡ true → is_named xs v ≡ true
        → same_type (type_among s.types v) (header_type s v) ≡ true)
        → same_type (type_among s.types v) (header_type s v) ≡ true
    go true is rest =
        let same : x.2 ≡ v = (bytes_eq-Decides x.2 v).0 is in
        subst (λ (w : Token). same_type (type_among s.types w) (header_type s w) ≡ true) same
        parts.0
    go false is rest = let other : is_named xs v ≡ true = rw is at named in rest parts.1 other

pub types_sound : (s : PlainStated) → are_header_types s ≡ true → (v : Token)
    → type_among s.types v ≡ header_type s v
types_sound s all v = go (is_named types_texts v) refl
  where
    parts : (list_all (λ (t : PlainTyped). is_named types_texts t.variable) s.types ≡ true)
        × (list_all (agrees s) types_texts ≡ true)
    parts = and_parts _ _ all

    go : (b : Bool) → is_named types_texts v ≡ b → type_among s.types v ≡ header_type s v
    go true is = same_type-sound _ _ (named_agrees types_texts s v parts.1 is)
    go false is = not_typed s.types v parts.0 is ∙ sym (not_wanted types_texts s v is)

each_agrees : (xs : List Text) (s : PlainStated)
    → ((v : Token) → type_among s.types v ≡ header_type s v) → list_all (agrees s) xs ≡ true
each_agrees [] s each = refl
each_agrees (x ∷ xs) s each =
    both_true (same_type-whole _ _ (each x.2)) (each_agrees xs s each)

-- a variable with a type of the header is one of its variables
typed_named : (s : PlainStated) (t : PlainTyped) (k : Token)
    → header_type s t.variable ≡ Some k → is_named types_texts t.variable ≡ true
typed_named s t k is = go (is_named types_texts t.variable) refl
  where
    go : (b : Bool) → is_named types_texts t.variable ≡ b → b ≡ true
    go true e = refl
    go false e =
        let none : header_type s t.variable ≡ None = not_wanted types_texts s t.variable e in
        let no : ⊥ = cc in absurd no

-- each variable of a list has a type there
pub typed_some : (ts : List PlainTyped) (k : ℕ) (t : PlainTyped) → slice_get ts k ≡ Some t
    → (x : Token) × (type_among ts t.variable ≡ Some x)
typed_some [] k t there = let never : ⊥ = cc in absurd never
typed_some (u ∷ ts) zero t there =
    let same : u ≡ t = cc in
    let here : bytes_eq u.variable t.variable ≡ true =
    (bytes_eq-Decides u.variable t.variable).1 (ap (λ (t : PlainTyped). t.variable) same) in
    (u.typecode, rw here refl)
typed_some (u ∷ ts) (suc k) t there =
    go (bytes_eq u.variable t.variable) refl (typed_some ts k t there)
  where
    go : (b : Bool) → bytes_eq u.variable t.variable ≡ b
        → (x : Token) × (type_among ts t.variable ≡ Some x)
        → (x : Token) × (type_among (u ∷ ts) t.variable ≡ Some x)
    go true is rest = (u.typecode, rw is refl)
    go false is (x, rest) = (x, rw is rest)

pub all_from : {X : Type 0} (test : X → Bool) (xs : List X)
    → ((k : ℕ) (x : X) → slice_get xs k ≡ Some x → test x ≡ true) → list_all test xs ≡ true
all_from test [] each = refl
all_from test (x ∷ xs) each =
    both_true (each 0 x refl) (all_from test xs (λ k y there. each (suc k) y there))

pub types_whole : (s : PlainStated) → ((v : Token) → type_among s.types v ≡ header_type s v)
    → are_header_types s ≡ true
types_whole s each =
    both_true (all_from (λ (t : PlainTyped). is_named types_texts t.variable) s.types named)
    (each_agrees types_texts s each)
  where
    named : (k : ℕ) (t : PlainTyped) → slice_get s.types k ≡ Some t
        → is_named types_texts t.variable ≡ true
    named k t there =
        let typed = typed_some s.types k t there in
        typed_named s t typed.0 (sym (each t.variable) ∙ typed.1)

-- ---- the row of the statement

pub says : (pairs : ℕ → ℕ → Bool) (s : PlainStated) (row : HeaderRow) → IsOnlyRow s.words row
    → s.premises ≡ map expression_of (row_of row).hypotheses → are_header_types s ≡ true
    → list_all (is_kept pairs s.types) (row_of row).apart ≡ true → SaysRow pairs s
says pairs s row only premises types kept = (
  row_of row,
  only.there,
  record {
    statement = only.states;
    premises = premises;
    types = types_sound s types;
    apart = kept;
  },
)

-- the only row that may be said
pub said : (pairs : ℕ → ℕ → Bool) (s : PlainStated) (row : HeaderRow) → IsOnlyRow s.words row
    → SaysRow pairs s → IsOfRow pairs (row_of row) s
said pairs s row only (r, there, is) =
    subst (λ (x : Row). IsOfRow pairs x s) (only.only r there is.statement) is
