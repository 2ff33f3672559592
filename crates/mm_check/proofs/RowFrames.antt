-- An assertion says what a row says exactly if its frame says no more than a frame of the row.
use Rattle.std.proofs.Common.{◌≡◌, ℕ, zero, suc, Bool, true, false, map, List, [], ◌∷◌, ◌++◌}
use Rattle.std.proofs.Common.{length}
use Rattle.std.proofs.Common.{refl, ap, sym, ◌∙◌, filter, arith}
use Rattle.std.specs.Prelude.{Option, Some, None, slice_get, ◌&&◌, ◌||◌, bytes_eq, Contains, nat_le}
use Rattle.std.specs.Prelude.{is_some}
use Rattle.std.specs.List.{list_any, list_all, zip}
use Rattle.std.proofs.lemmas.Bool.{and_parts, false≢true, leb-true}
use Rattle.std.proofs.lemmas.Slice.Eq.{bytes_eq-Decides}
use Rattle.mm_text.specs.Bytes.{Token, has_token}
use Rattle.mm_database.specs.Frames.{Hypothesis, floating, essential, Frame}
use Rattle.mm_header.specs.Header.{Row, header_rows}
use Rattle.mm_header.specs.HeaderRows.{expression_of, types_texts, header_types, type_of}
use Rattle.mm_header.specs.HeaderRows.{premise_of}
use Rattle.mm_header.specs.HeaderRows.{premises, is_in_row, is_pair, labelled, endings}
use Rattle.mm_header.specs.HeaderRows.{IsFrameOfRow}
use Rattle.rule_core.specs.Theories.{RewriteTheory}
use Rattle.mm_justify.specs.Justifying.{premises_in, typecode_in, SaysNoMore, IsAxiomOf, header_row}
use Rattle.mm_check.specs.Stated.{PlainTyped, PlainStated}
use Rattle.mm_check.specs.StatedFrames.{IsStated}
use Rattle.mm_check.specs.RowTexts.{type_among, number_among, type_wanted, header_type, occurs}
use Rattle.mm_check.specs.RowTexts.{is_kept, both_apart, SaysRow}
use Rattle.std.proofs.Common.{inl, inr}
use Rattle.std.specs.Prelude.{◌⊎◌}
use Rattle.mm_check.proofs.RowLaws.{all_from}
use Rattle.mm_check.proofs.Scans.{any_map}
use Rattle.mm_check.proofs.HeaderTexts.{at_place, all_at}

-- ---- the hypotheses of a row

premises_in-append : (xs ys : List Hypothesis)
    → premises_in (xs ++ ys) ≡ premises_in xs ++ premises_in ys
premises_in-append [] ys = refl
premises_in-append (floating l k v ∷ xs) ys = premises_in-append xs ys
premises_in-append (essential l st ∷ xs) ys =
    ap (λ (ps : List (List Token)). st ∷ ps) (premises_in-append xs ys)

abbrev Text : Type 0
Text = List ℕ × List ℕ × List ℕ

no_premises : (r : Row) (xs : List Text)
    → premises_in (filter (is_in_row r) (map type_of xs)) ≡ []
no_premises r [] = refl
no_premises r ((l, k, v) ∷ xs) = go (is_in_row r (floating l k v)) refl ∙ no_premises r xs
  where
    go : (b : Bool) → is_in_row r (floating l k v) ≡ b
        → premises_in (filter (is_in_row r) (map type_of ((l, k, v) ∷ xs)))
        ≡ premises_in (filter (is_in_row r) (map type_of xs))
    go true is = rw is refl
    go false is = rw is refl

-- a row has at most two hypotheses
has_two_at_most : Row → Bool
has_two_at_most r = nat_le (length r.hypotheses) 2

rows_have_two : list_all has_two_at_most header_rows ≡ true
unfolding has_two_at_most header_rows
rows_have_two = refl

two_at_most : (r : Row) → Contains header_rows r → has_two_at_most r ≡ true
two_at_most r there =
    let place = at_place header_rows r there in
    all_at has_two_at_most header_rows place.0 r rows_have_two place.1

labelled_premises : (r : Row) (hs : List (List ℕ)) → nat_le (length hs) 2 ≡ true
    → premises_in (map (premise_of r) (zip endings hs)) ≡ map expression_of hs
labelled_premises r [] h = refl
labelled_premises r (x ∷ []) h = refl
labelled_premises r (x ∷ (y ∷ [])) h = refl
labelled_premises r (x ∷ (y ∷ (z ∷ hs))) h =
    absurd (omega (arith, leb-true (length (x ∷ (y ∷ (z ∷ hs)))) 2 h))

row_premises : (r : Row) → Contains header_rows r
    → premises_in (filter (is_in_row r) header_types ++ premises r) ≡ map expression_of r.hypotheses
unfolding has_two_at_most
row_premises r there =
    premises_in-append (filter (is_in_row r) header_types) (premises r)
    ∙ ap (λ (ps : List (List Token)). ps ++ premises_in (premises r)) (no_premises r types_texts)
    ∙ labelled_premises r r.hypotheses (two_at_most r there)

-- ---- the types of a row

no_types : (r : Row) (hs : List (List ℕ × List ℕ)) (v : Token)
    → typecode_in (map (premise_of r) hs) v ≡ None
no_types r [] v = refl
no_types r ((e, t) ∷ hs) v = no_types r hs v

-- what occurs in the assertion occurs in the row
same_occurs : (r : Row) (s : PlainStated) (v : Token) → s.words ≡ expression_of r.statement
    → s.premises ≡ map expression_of r.hypotheses
    → list_any (λ (text : List ℕ). has_token (expression_of text) v) (r.statement ∷ r.hypotheses)
    ≡ occurs s v
same_occurs r s v statement premises =
    sym (any_map (λ (ws : List Token). has_token ws v) expression_of (r.statement ∷ r.hypotheses))
    ∙ ap (λ (ws : List Token).
    has_token ws v || list_any (λ (ws : List Token). has_token ws v)
    (map expression_of r.hypotheses))
    (sym statement)
    ∙ ap (λ (ps : List (List Token)).
    has_token s.words v || list_any (λ (ws : List Token). has_token ws v) ps) (sym premises)

wanted_types : (r : Row) (s : PlainStated) (v : Token) (xs : List Text)
    → s.words ≡ expression_of r.statement → s.premises ≡ map expression_of r.hypotheses
    → type_wanted xs s v
    ≡ typecode_in (filter (is_in_row r) (map type_of xs) ++ premises r) v
wanted_types r s v [] statement is = sym (no_types r (labelled r) v)
wanted_types r s v ((l, k, x) ∷ xs) statement is =
    go (bytes_eq x v) (occurs s x) refl refl (wanted_types r s v xs statement is)
  where
    in_row : is_in_row r (floating l k x) ≡ occurs s x
    in_row = same_occurs r s x statement is

    go : (b o : Bool) → bytes_eq x v ≡ b → occurs s x ≡ o
        → type_wanted xs s v ≡ typecode_in (filter (is_in_row r) (map type_of xs) ++ premises r) v
        → type_wanted ((l, k, x) ∷ xs) s v
        ≡ typecode_in (filter (is_in_row r) (map type_of ((l, k, x) ∷ xs)) ++ premises r) v
    go true true same o rest =
        let there : is_in_row r (floating l k x) ≡ true = in_row ∙ o in
        let here : occurs s v ≡ true =
        ap (occurs s) (sym ((bytes_eq-Decides x v).0 same)) ∙ o in
        rw (there, same, here) refl
    go true false same o rest =
        let there : is_in_row r (floating l k x) ≡ false = in_row ∙ o in
        let here : occurs s v ≡ false =
        ap (occurs s) (sym ((bytes_eq-Decides x v).0 same)) ∙ o in
        rw (there, same, here) rest
    go false true other o rest =
        let there : is_in_row r (floating l k x) ≡ true = in_row ∙ o in rw (there, other) rest
    go false false other o rest =
        let there : is_in_row r (floating l k x) ≡ false = in_row ∙ o in rw (there, other) rest

-- ---- pairs

-- the entry of a variable
pub number_entry : (ts : List PlainTyped) (v : Token) (n : ℕ) → number_among ts v ≡ Some n
    → (k : ℕ) × ((t : PlainTyped) × ((slice_get ts k ≡ Some t) × ((t.variable ≡ v)
    × (t.number ≡ n))))
number_entry [] v n is = let never : ⊥ = cc in absurd never
number_entry (t ∷ ts) v n is = go (bytes_eq t.variable v) refl (number_entry ts v n)
  where
    go : (b : Bool) → bytes_eq t.variable v ≡ b
        → (number_among ts v ≡ Some n → (k : ℕ) × ((t : PlainTyped) × ((slice_get ts k ≡ Some t)
        × ((t.variable ≡ v) × (t.number ≡ n)))))
        → (k : ℕ) × ((u : PlainTyped) × ((slice_get (t ∷ ts) k ≡ Some u) × ((u.variable ≡ v)
        × (u.number ≡ n))))
    go true same rest =
        let here : Some t.number ≡ Some n = rw same at is in
        let number : t.number ≡ n = cc in
        (0, (t, (refl, ((bytes_eq-Decides t.variable v).0 same, number))))
    go false other rest =
        let later : number_among ts v ≡ Some n = rw other at is in
        let found = rest later in (suc found.0, (found.1.0, found.1.1))

-- a variable with a type has a number
pub typed_number : (ts : List PlainTyped) (v x : Token) → type_among ts v ≡ Some x
    → (n : ℕ) × (number_among ts v ≡ Some n)
typed_number [] v x is = let never : ⊥ = cc in absurd never
typed_number (t ∷ ts) v x is = go (bytes_eq t.variable v) refl (typed_number ts v x)
  where
    go : (b : Bool) → bytes_eq t.variable v ≡ b
        → (type_among ts v ≡ Some x → (n : ℕ) × (number_among ts v ≡ Some n))
        → (n : ℕ) × (number_among (t ∷ ts) v ≡ Some n)
    go true same rest = (t.number, rw same refl)
    go false other rest =
        let later : type_among ts v ≡ Some x = rw other at is in
        let found = rest later in (found.0, rw other found.1)

-- two variables are kept apart by number exactly if their tokens are
pub kept_apart : (pairs : ℕ → ℕ → Bool) (s : PlainStated) (f : Frame) (a b : Token) (n m : ℕ)
    → IsStated pairs s f → number_among s.types a ≡ Some n → number_among s.types b ≡ Some m
    → f.apart a b ≡ pairs n m
kept_apart pairs s f a b n m stated one other =
    let t = number_entry s.types a n one in
    let u = number_entry s.types b m other in
    ap (λ (x : Token). f.apart x b) (sym t.1.1.1.0)
    ∙ ap (f.apart t.1.0.variable) (sym u.1.1.1.0)
    ∙ stated.apart t.0 u.0 t.1.0 u.1.0 t.1.1.0 u.1.1.0
    ∙ ap (λ (i : ℕ). pairs i u.1.0.number) t.1.1.1.1 ∙ ap (pairs n) u.1.1.1.1

-- ---- frames

-- a frame of the row
frame_for : Row → Frame
frame_for r = record {
  label = r.label;
  hypotheses = filter (is_in_row r) header_types ++ premises r;
  apart = λ a b. list_any (is_pair a b) r.apart;
  statement = expression_of r.statement;
}

is_frame_for : (r : Row) → IsFrameOfRow r (frame_for r)
unfolding frame_for
is_frame_for r = record {
  label = refl;
  hypotheses = refl;
  apart = λ a b. refl;
  statement = refl;
}

or_cases : (a b : Bool) → (a || b) ≡ true → (a ≡ true) ⊎ (b ≡ true)
or_cases true b h = inl refl
or_cases false b h = inr h

-- both variables of a pair have numbers
kept_numbers : (pairs : ℕ → ℕ → Bool) (a b : Option ℕ) → both_apart pairs a b ≡ true
    → (n : ℕ) × ((m : ℕ) × ((a ≡ Some n) × ((b ≡ Some m) × (pairs n m ≡ true))))
kept_numbers pairs None b is = absurd (false≢true is)
kept_numbers pairs (Some n) None is = absurd (false≢true is)
kept_numbers pairs (Some n) (Some m) is = (n, (m, (refl, (refl, is))))

pairs_kept : (pairs : ℕ → ℕ → Bool) → ((n m : ℕ) → pairs n m ≡ pairs m n) → (s : PlainStated)
    (f : Frame) → IsStated pairs s f → (ps : List (List ℕ × List ℕ))
    → list_all (is_kept pairs s.types) ps ≡ true → (x y : Token)
    → list_any (is_pair x y) ps ≡ true → f.apart x y ≡ true
pairs_kept pairs turned s f stated [] all x y is = absurd (false≢true is)
pairs_kept pairs turned s f stated ((a, b) ∷ ps) all x y is =
    split (or_cases (is_pair x y (a, b)) (list_any (is_pair x y) ps) is)
    (pairs_kept pairs turned s f stated ps parts.1 x y)
  where
    parts : (is_kept pairs s.types (a, b) ≡ true)
        × (list_all (is_kept pairs s.types) ps ≡ true)
    parts = and_parts _ _ all

    kept : (n : ℕ) × ((m : ℕ) × ((number_among s.types a ≡ Some n)
        × ((number_among s.types b ≡ Some m) × (pairs n m ≡ true))))
    kept = kept_numbers pairs (number_among s.types a) (number_among s.types b) parts.0

    in_order : (bytes_eq a x && bytes_eq b y) ≡ true → f.apart x y ≡ true
    in_order both =
        let same = and_parts (bytes_eq a x) (bytes_eq b y) both in
        ap (λ (t : Token). f.apart t y) (sym ((bytes_eq-Decides a x).0 same.0))
        ∙ ap (f.apart a) (sym ((bytes_eq-Decides b y).0 same.1))
        ∙ kept_apart pairs s f a b kept.0 kept.1.0 stated kept.1.1.0 kept.1.1.1.0
        ∙ kept.1.1.1.1

    turned_round : (bytes_eq b x && bytes_eq a y) ≡ true → f.apart x y ≡ true
    turned_round both =
        let same = and_parts (bytes_eq b x) (bytes_eq a y) both in
        ap (λ (t : Token). f.apart t y) (sym ((bytes_eq-Decides b x).0 same.0))
        ∙ ap (f.apart b) (sym ((bytes_eq-Decides a y).0 same.1))
        ∙ kept_apart pairs s f b a kept.1.0 kept.0 stated kept.1.1.1.0 kept.1.1.0
        ∙ turned kept.1.0 kept.0 ∙ kept.1.1.1.1

    either : ((bytes_eq a x && bytes_eq b y) ≡ true) ⊎ ((bytes_eq b x && bytes_eq a y) ≡ true)
        → f.apart x y ≡ true
    either (inl h) = in_order h
    either (inr h) = turned_round h

    split : (is_pair x y (a, b) ≡ true) ⊎ (list_any (is_pair x y) ps ≡ true)
        → (list_any (is_pair x y) ps ≡ true → f.apart x y ≡ true) → f.apart x y ≡ true
    split (inl here) rest =
        either (or_cases (bytes_eq a x && bytes_eq b y) (bytes_eq b x && bytes_eq a y) here)
    split (inr later) rest = rest later

pub says_axiom : (theory : RewriteTheory) (pairs : ℕ → ℕ → Bool)
    → ((n m : ℕ) → pairs n m ≡ pairs m n) → (s : PlainStated) (f : Frame) → IsStated pairs s f
    → SaysRow pairs s → IsAxiomOf theory f
unfolding frame_for
says_axiom theory pairs turned s f stated (r, there, is) =
    header_row r (frame_for r) there (is_frame_for r) (record {
      statement = stated.statement ∙ is.statement;
      premises = stated.premises ∙ is.premises ∙ sym (row_premises r there);
      types = λ v. stated.types v ∙ is.types v
          ∙ wanted_types r s v types_texts is.statement is.premises;
      apart = pairs_kept pairs turned s f stated r.apart is.apart;
    })

-- ---- the other way round

any_at : {X : Type 0} (test : X → Bool) (xs : List X) (k : ℕ) (x : X) → slice_get xs k ≡ Some x
    → test x ≡ true → list_any test xs ≡ true
any_at test [] k x there is = let never : ⊥ = cc in absurd never
any_at test (y ∷ xs) zero x there is =
    let same : y ≡ x = cc in
    let here : test y ≡ true = ap test same ∙ is in rw here refl
any_at test (y ∷ xs) (suc k) x there is = go (test y) (any_at test xs k x there is)
  where
    go : (b : Bool) → list_any test xs ≡ true → (b || list_any test xs) ≡ true
    go true h = refl
    go false h = h

-- the variables of the pairs of a row have types in it
is_typed_in : Row → List ℕ × List ℕ → Bool
is_typed_in r (a, b) =
    is_some (typecode_in (filter (is_in_row r) header_types ++ premises r) a)
    && is_some (typecode_in (filter (is_in_row r) header_types ++ premises r) b)

has_typed_pairs : Row → Bool
has_typed_pairs r = list_all (is_typed_in r) r.apart

pairs_are_typed : list_all has_typed_pairs header_rows ≡ true
unfolding has_typed_pairs is_typed_in header_rows
pairs_are_typed = refl

the_some : {X : Type 0} (o : Option X) → is_some o ≡ true → (x : X) × (o ≡ Some x)
the_some None is = absurd (false≢true is)
the_some (Some x) is = (x, refl)

pair_itself : (a b : Token) → is_pair a b (a, b) ≡ true
pair_itself a b =
    let one : bytes_eq a a ≡ true = (bytes_eq-Decides a a).1 refl in
    let other : bytes_eq b b ≡ true = (bytes_eq-Decides b b).1 refl in rw (one, other) refl

pub row_said : (pairs : ℕ → ℕ → Bool) (s : PlainStated) (f other : Frame) (r : Row)
    → IsStated pairs s f → Contains header_rows r → IsFrameOfRow r other → SaysNoMore f other
    → SaysRow pairs s
unfolding has_typed_pairs is_typed_in
row_said pairs s f other r stated there of_row no_more = (
  r,
  there,
  record {
    statement = statement;
    premises = said;
    types = λ v. types v;
    apart = all_from (is_kept pairs s.types) r.apart kept;
  },
)
  where
    statement : s.words ≡ expression_of r.statement
    statement = sym stated.statement ∙ no_more.statement ∙ of_row.statement

    said : s.premises ≡ map expression_of r.hypotheses
    said =
        sym stated.premises ∙ no_more.premises ∙ ap premises_in of_row.hypotheses
        ∙ row_premises r there

    in_row : (v : Token) → type_among s.types v
        ≡ typecode_in (filter (is_in_row r) header_types ++ premises r) v
    in_row v =
        sym (stated.types v) ∙ no_more.types v
        ∙ ap (λ (hs : List Hypothesis). typecode_in hs v) of_row.hypotheses

    types : (v : Token) → type_among s.types v ≡ header_type s v
    types v = in_row v ∙ sym (wanted_types r s v types_texts statement said)

    typed : has_typed_pairs r ≡ true
    typed =
        let place = at_place header_rows r there in
        all_at has_typed_pairs header_rows place.0 r pairs_are_typed place.1

    kept : (k : ℕ) (p : List ℕ × List ℕ) → slice_get r.apart k ≡ Some p
        → is_kept pairs s.types p ≡ true
    kept k (a, b) at =
        let both = and_parts _ _ (all_at (is_typed_in r) r.apart k (a, b) typed at) in
        let x = the_some (typecode_in (filter (is_in_row r) header_types ++ premises r) a) both.0 in
        let y = the_some (typecode_in (filter (is_in_row r) header_types ++ premises r) b) both.1 in
        let n = typed_number s.types a x.0 (in_row a ∙ x.1) in
        let m = typed_number s.types b y.0 (in_row b ∙ y.1) in
        let apart : f.apart a b ≡ true =
        no_more.apart a b (of_row.apart a b
        ∙ any_at (is_pair a b) r.apart k (a, b) at (pair_itself a b)) in
        rw (n.1, m.1) (sym (kept_apart pairs s f a b n.0 m.0 stated n.1 m.1) ∙ apart)
