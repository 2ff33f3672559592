-- The frames of the header are those of its rows.
use Rattle.std.proofs.Common.{◌≡◌, ℕ, ◌<◌, Bool, true, false, List, [], ◌∷◌, ◌++◌, map, length}
use Rattle.std.proofs.Common.{refl, sym, ap, ◌∙◌}
use Rattle.std.specs.Prelude.{not, ◌&&◌, ◌||◌, if◌then◌else◌, Option, Some, None, filter, fold}
use Rattle.std.specs.Prelude.{bytes_eq, slice_index_or, All}
use Rattle.std.specs.List.{list_any}
use Rattle.std.proofs.lemmas.List.{get_or-map}
use Rattle.mm_text.specs.Bytes.{Token, has_token}
use Rattle.mm_database.specs.Frames.{Frame, is_needed}
use Rattle.mm_database.specs.Database.{with_apart, with_frame}
use Rattle.mm_header.specs.Header.{Row, header_rows}
use Rattle.mm_header.specs.HeaderContext.{header_context, header_labels, row_scope, frame_of_row}
use Rattle.mm_header.specs.HeaderRows.{header_types, premises, expression_of, is_in_row, is_pair}
use Rattle.mm_header.specs.HeaderLaws.{HasRow, HasOnlyRows}
use Rattle.mm_header.proofs.Pairs.{same_token, token_same, needed_pair}

-- two lists of values that are equal are equal at each place
map_same : {X Y : Type 0} (f g : X → Y) (xs : List X) → map f xs ≡ map g xs → (k : ℕ) (d : X)
    → k < length xs → f (slice_index_or xs k d) ≡ g (slice_index_or xs k d)
map_same f g xs same k d lt =
    sym (get_or-map f xs k d (f d) lt) ∙ ap (λ ys. slice_index_or ys k (f d)) same
    ∙ get_or-map g xs k d (f d) lt

row_kept : map (λ r. header_context.frames r.label) header_rows
    ≡ map (λ r. Some (frame_of_row r)) header_rows
unfolding header_context header_rows header_labels
row_kept = refl

row_hypotheses : map (λ r. (frame_of_row r).hypotheses) header_rows
    ≡ map (λ r. filter (is_in_row r) header_types ++ premises r) header_rows
unfolding header_rows
row_hypotheses = refl

-- no pair, or one pair of two different variables that are needed
abbrev has_good_pairs : (Token → Bool) → List (List ℕ × List ℕ) → Bool
has_good_pairs needed [] = true
has_good_pairs needed ((x, y) ∷ []) = not (bytes_eq x y) && (needed x && needed y)
has_good_pairs needed (pair ∷ (other ∷ pairs)) = false

row_pairs : map (λ r. has_good_pairs (is_needed (row_scope r) (expression_of r.statement)) r.apart)
    header_rows ≡ map (λ r. true) header_rows
unfolding header_rows
row_pairs = refl

three_true : (p q r : Bool) → (not p && (q && r)) ≡ true → (p ≡ false) × (q ≡ true) × (r ≡ true)
three_true true q r h = absurd (cc)
three_true false true true h = (refl, refl, refl)
three_true false true false h = absurd (cc)
three_true false false r h = absurd (cc)

kept_apart : (needed : Token → Bool) (pairs : List (List ℕ × List ℕ)) (a b : Token)
    → has_good_pairs needed pairs ≡ true
    → (fold (λ (table : Token → Token → Bool) (pair : List ℕ × List ℕ).
    with_apart table (pair.0 ∷ (pair.1 ∷ []))) (λ a b. false) pairs a b
    && (needed a && needed b)) ≡ list_any (is_pair a b) pairs
kept_apart needed [] a b good = refl
kept_apart needed ((x, y) ∷ []) a b good =
    let w : (bytes_eq x y ≡ false) × (needed x ≡ true) × (needed y ≡ true) =
    three_true (bytes_eq x y) (needed x) (needed y) good in
    needed_pair needed x y a b w.0 w.1 w.2
kept_apart needed (pair ∷ (other ∷ pairs)) a b good = absurd (cc)

row_apart : (r : Row)
    → has_good_pairs (is_needed (row_scope r) (expression_of r.statement)) r.apart ≡ true
    → (a b : Token) → (frame_of_row r).apart a b ≡ list_any (is_pair a b) r.apart
row_apart r good a b =
    kept_apart (is_needed (row_scope r) (expression_of r.statement)) r.apart a b good

pub header_frames : All (HasRow header_context) header_rows
header_frames k d lt = record {
  frame = frame_of_row (slice_index_or header_rows k d);
  kept =
      map_same (λ r. header_context.frames r.label) (λ r. Some (frame_of_row r)) header_rows
      row_kept k d lt;
  fits = record {
    label = refl;
    hypotheses =
        map_same (λ r. (frame_of_row r).hypotheses)
        (λ r. filter (is_in_row r) header_types ++ premises r) header_rows row_hypotheses k d
        lt;
    apart =
        row_apart (slice_index_or header_rows k d) (map_same
        (λ r. has_good_pairs (is_needed (row_scope r) (expression_of r.statement)) r.apart)
        (λ r. true) header_rows row_pairs k d lt);
    statement = refl;
  };
}

neither : (p q : Bool) → (p || q) ≡ false → (p ≡ false) × (q ≡ false)
neither true q h = absurd (cc)
neither false q h = (refl, h)

-- rows with other labels add no frame under this label
other_rows : (rows : List Row) (table : Token → Option Frame) (label : Token)
    → has_token (map (λ r. r.label) rows) label ≡ false
    → fold (λ (frames : Token → Option Frame) (r : Row). with_frame frames r.label (frame_of_row r))
    table rows label ≡ table label
other_rows [] table label none = refl
other_rows (r ∷ rows) table label none =
    let w : (bytes_eq r.label label ≡ false) ×
    (has_token (map (λ (q : Row). q.label) rows) label ≡ false) =
    neither (bytes_eq r.label label) (has_token (map (λ (q : Row). q.label) rows) label) none in
    other_rows rows (with_frame table r.label (frame_of_row r)) label w.1
    ∙ ap (λ test. if test then Some (frame_of_row r) else table label)
    (differ (bytes_eq label r.label) refl w.0)
  where
    differ : (test : Bool) → bytes_eq label r.label ≡ test → bytes_eq r.label label ≡ false
        → bytes_eq label r.label ≡ false
    differ false is other = is
    differ true is other =
        let yes : bytes_eq r.label label ≡ true =
        token_same r.label label (sym (same_token label r.label is)) in
        absurd (cc)

pub header_only : HasOnlyRows header_context header_rows
unfolding header_context
header_only label none = other_rows header_rows (λ t. None) label none
