-- What the header states: each of its axioms is a row, and each typing is that of one of its
-- variables.
use Rattle.std.proofs.Common.{◌≡◌, ℕ, ◌<◌, false, List, [], ◌∷◌, map, length, suc, refl, sym, ap}
use Rattle.std.proofs.Common.{◌∙◌, subst, arith}
use Rattle.std.specs.Prelude.{Option, Some, slice_index_or, count_by}
use Rattle.std.proofs.lemmas.List.{get_or-map}
use Rattle.std.proofs.lemmas.List.Elements.{All-contains_itself}
use Rattle.mm_database.specs.Frames.{Frame}
use Rattle.mm_database.specs.Assertions.{Assertion, assertions_of, typings_of}
use Rattle.mm_header.specs.Header.{Row, header_rows}
use Rattle.mm_header.specs.HeaderText.{header_bytes}
use Rattle.mm_header.specs.HeaderContext.{header_context, header_labels, frame_of_row}
use Rattle.mm_header.specs.HeaderRows.{header_types, IsFrameOfRow}
use Rattle.mm_header.specs.HeaderLaws.{HasRow}
use Rattle.mm_header.proofs.HeaderFrames.{header_frames}
use Rattle.rule_core.specs.Theories.{RewriteTheory}
use Rattle.mm_justify.specs.Justifying.{SaysNoMore, IsAxiomOf, header_row, AreAllowed, AreTypings}
use Rattle.mm_justify.specs.JustifyingLaws.{HeaderHasOnly}
use Rattle.mm_justify.specs.Counting.{is_fact, capped}
use Rattle.mm_justify.specs.CountingLaws.{HeaderCounts}

-- the `$a` of a row
abbrev row_assertion : Row → Assertion
row_assertion r = record { is_proved = false; frame = frame_of_row r }

header_assertions : assertions_of header_bytes ≡ map row_assertion header_rows
unfolding header_bytes header_rows
header_assertions = refl

header_typings : typings_of header_bytes ≡ header_types
unfolding header_bytes header_rows
header_typings = refl

-- the frame that is kept under a row's label is that of the row
rows_kept : map (λ (r : Row). header_context.frames r.label) header_rows
    ≡ map (λ (r : Row). Some (frame_of_row r)) header_rows
unfolding header_context header_rows header_labels
rows_kept = refl

row_kept : (k : ℕ) (d : Row) → k < length header_rows
    → header_context.frames (slice_index_or header_rows k d).label
    ≡ Some (frame_of_row (slice_index_or header_rows k d))
row_kept k d lt =
    sym (get_or-map (λ (r : Row).
    header_context.frames r.label) header_rows k d (Some (frame_of_row d)) lt)
    ∙ ap (λ (fs : List (Option Frame)). slice_index_or fs k (Some (frame_of_row d))) rows_kept
    ∙ get_or-map (λ (r : Row). Some (frame_of_row r)) header_rows k d (Some (frame_of_row d)) lt

same_frame : (f g : Frame) → Some f ≡ Some g → f ≡ g
same_frame f g h = cc

row_frame : (r : Row) → HasRow header_context r
    → header_context.frames r.label ≡ Some (frame_of_row r) → IsFrameOfRow r (frame_of_row r)
row_frame r has kept =
    subst (λ (f : Frame). IsFrameOfRow r f)
    (same_frame has.frame (frame_of_row r) (sym has.kept ∙ kept)) has.fits

itself : (f : Frame) → SaysNoMore f f
itself f = record { statement = refl; premises = refl; types = λ v. refl; apart = λ x y h. h }

all_rows : (theory : RewriteTheory) (rows : List Row)
    → ((k : ℕ) (d : Row) → k < length rows
    → IsAxiomOf theory (frame_of_row (slice_index_or rows k d)))
    → AreAllowed theory (map row_assertion rows)
all_rows theory [] each = tt
all_rows theory (r ∷ rows) each = (
  λ proved.
      each 0 r (omega arith),
  all_rows theory rows (λ k d lt. each (suc k) d (omega (arith, lt))),
)

header_allowed : (theory : RewriteTheory) → AreAllowed theory (map row_assertion header_rows)
header_allowed theory =
    all_rows theory header_rows (λ k d lt. header_row (slice_index_or header_rows k d)
    (frame_of_row (slice_index_or header_rows k d)) (All-contains_itself header_rows k d lt)
    (row_frame (slice_index_or header_rows k d) (header_frames k d lt) (row_kept k d lt))
    (itself (frame_of_row (slice_index_or header_rows k d))))

header_typed : AreTypings header_types
header_typed = (refl, (refl, (refl, (refl, (refl, (refl, (refl, (refl, (refl, tt)))))))))

pub header_has_only : HeaderHasOnly
header_has_only theory = record {
  axioms = subst (AreAllowed theory) (sym header_assertions) (header_allowed theory);
  types = subst AreTypings (sym header_typings) header_typed;
}

-- ---- how many they are

no_facts : count_by is_fact (map row_assertion header_rows) ≡ 0
unfolding header_rows
no_facts = refl

all_statements : length (map row_assertion header_rows) ≡ 88
unfolding header_rows
all_statements = refl

pub header_counts : HeaderCounts
header_counts = record {
  facts_are =
      sym (ap (λ (stated : List Assertion).
      capped (count_by is_fact stated)) header_assertions ∙ ap capped no_facts);
  statements_are =
      sym (ap (λ (stated : List Assertion).
      capped (length stated)) header_assertions ∙ ap capped all_statements);
}
