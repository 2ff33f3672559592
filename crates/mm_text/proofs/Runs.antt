-- What bytes begin with: white space, a run, or a byte that is not allowed.
use Rattle.std.proofs.Common.{◌≡◌, ℕ, ◌+◌, ◌<◌, ◌≤◌, Bool, true, false, List, [], ◌∷◌, length, take}
use Rattle.std.proofs.Common.{drop, refl, ap, sym, ◌∙◌, arith, cond, if◌then◌else◌}
use Rattle.std.proofs.Math.Numerals.{one-add}
use Rattle.std.proofs.lemmas.List.{drop-drop, length-drop}
use Rattle.std.proofs.lemmas.List.Sums.{prefix_len-le-length}
use Rattle.std.proofs.lemmas.List.Folds.{length-prefix_len}
use Rattle.std.specs.Prelude.{◌||◌}
use Rattle.std.specs.List.{prefix_len, slice_range}
use Rattle.mm_text.specs.Bytes.{Class, printable, white, foreign, class_of, is_white}
use Rattle.mm_text.specs.Bytes.{is_printable_class}
use Rattle.mm_text.specs.Tokens.{Piece, run, stray, with_byte, pieces_from, has_comment_mark}
use Rattle.mm_text.specs.Ahead.{pieces_at, in_run, white as white_bytes, printed, begins_white}
use Rattle.mm_text.specs.Ahead.{mark_ahead}
use Rattle.mm_text.proofs.Truths.{printable_class, white_class}

drop-more : (n b : ℕ) (bs : List ℕ) → drop (1 + n) (b ∷ bs) ≡ drop n bs
drop-more n b bs = ap (λ m. drop m (b ∷ bs)) (one-add n)

take-more : (n b : ℕ) (bs : List ℕ) → take (1 + n) (b ∷ bs) ≡ b ∷ take n bs
take-more n b bs = ap (λ m. take m (b ∷ bs)) (one-add n)

abbrev blanks : List ℕ → ℕ
blanks bs = prefix_len is_white bs

abbrev letters : List ℕ → ℕ
letters bs = prefix_len in_run bs

white_pick : (at b : ℕ) (bs : List ℕ) (t : Bool) → is_white b ≡ t
    → pieces_from (at + 1 + blanks bs) (drop (blanks bs) bs) ≡ pieces_from (at + 1) bs
    → pieces_from (at + cond t (1 + blanks bs) 0) (drop (cond t (1 + blanks bs) 0) (b ∷ bs))
    ≡ pieces_from at (b ∷ bs)
white_pick at b bs true e ih =
    ap (pieces_from (at + (1 + blanks bs))) (drop-more (blanks bs) b bs)
    ∙ ap (λ m. pieces_from m (drop (blanks bs) bs)) (omega arith)
    ∙ ih
    ∙ rw (white_class b e) refl
white_pick at b bs false e ih = ap (λ m. pieces_from m (b ∷ bs)) (omega arith)

white_from : (at : ℕ) (bs : List ℕ)
    → pieces_from (at + blanks bs) (drop (blanks bs) bs) ≡ pieces_from at bs
white_from at [] = refl
white_from at (b ∷ bs) = white_pick at b bs (is_white b) refl (white_from (at + 1) bs)

stop_pick : (b : ℕ) (bs : List ℕ) (t : Bool) → is_white b ≡ t
    → begins_white (drop (blanks bs) bs) ≡ false
    → begins_white (drop (cond t (1 + blanks bs) 0) (b ∷ bs)) ≡ false
stop_pick b bs true e ih = ap begins_white (drop-more (blanks bs) b bs) ∙ ih
stop_pick b bs false e ih = e

white_stops : (bs : List ℕ) → begins_white (drop (blanks bs) bs) ≡ false
white_stops [] = refl
white_stops (b ∷ bs) = stop_pick b bs (is_white b) refl (white_stops bs)

-- the white space from a place on is skipped
pub skip-pieces : (bytes : List ℕ) (from n : ℕ) → n ≡ length (white_bytes (drop from bytes))
    → pieces_at bytes (from + n) ≡ pieces_at bytes from
skip-pieces bytes from n h =
    ap (λ m. pieces_at bytes (from + m)) (h ∙ length-prefix_len is_white (drop from bytes))
    ∙ ap (pieces_from (from + blanks (drop from bytes)))
    (sym (drop-drop (blanks (drop from bytes)) from bytes))
    ∙ white_from from (drop from bytes)

pub skip-stops : (bytes : List ℕ) (from n : ℕ) → n ≡ length (white_bytes (drop from bytes))
    → begins_white (drop (from + n) bytes) ≡ false
skip-stops bytes from n h =
    ap (λ m. begins_white (drop (from + m) bytes))
    (h ∙ length-prefix_len is_white (drop from bytes))
    ∙ ap begins_white (sym (drop-drop (blanks (drop from bytes)) from bytes))
    ∙ white_stops (drop from bytes)

-- a single printable byte, and a printable byte before a run
alone : (k : Class) (at b : ℕ) (ps : List Piece) → k ≡ printable
    → with_byte k false at b ps ≡ run at (b ∷ []) ∷ ps
alone k at b ps e = rw e refl

in_front : (k : Class) (at b later : ℕ) (token : List ℕ) (ps : List Piece) → k ≡ printable
    → with_byte k true at b (run later token ∷ ps) ≡ run at (b ∷ token) ∷ ps
in_front k at b later token ps e = rw e refl

abbrev split : ℕ → ℕ → ℕ → List ℕ → List Piece
split at b n bs = run at (b ∷ take n bs) ∷ pieces_from (at + 1 + n) (drop n bs)

split-none : (at b : ℕ) (bs : List ℕ) → run at (b ∷ []) ∷ pieces_from (at + 1) bs ≡ split at b 0 bs
split-none at b bs = ap (λ m. run at (b ∷ []) ∷ pieces_from m bs) (omega arith)

split-more : (at b c n : ℕ) (cs : List ℕ)
    → run at (b ∷ (c ∷ take n cs)) ∷ pieces_from (at + 1 + 1 + n) (drop n cs)
    ≡ split at b (1 + n) (c ∷ cs)
split-more at b c n cs =
    rw (take-more n c cs, drop-more n c cs)
    (ap (λ m. run at (b ∷ (c ∷ take n cs)) ∷ pieces_from m (drop n cs)) (omega arith))

run_pick : (at b c : ℕ) (cs : List ℕ) (t : Bool) → class_of b ≡ printable → in_run c ≡ t
    → (class_of c ≡ printable → pieces_from (at + 1) (c ∷ cs) ≡ split (at + 1) c (letters cs) cs)
    → with_byte (class_of b) t at b (pieces_from (at + 1) (c ∷ cs))
    ≡ split at b (cond t (1 + letters cs) 0) (c ∷ cs)
run_pick at b c cs true e q ih =
    ap (with_byte (class_of b) true at b) (ih (printable_class (class_of c) q))
    ∙ in_front (class_of b) at b (at + 1) (c ∷ take (letters cs) cs)
    (pieces_from (at + 1 + 1 + letters cs) (drop (letters cs) cs)) e
    ∙ split-more at b c (letters cs) cs
run_pick at b c cs false e q ih =
    alone (class_of b) at b (pieces_from (at + 1) (c ∷ cs)) e ∙ split-none at b (c ∷ cs)

run_from : (at b : ℕ) (bs : List ℕ) → class_of b ≡ printable
    → pieces_from at (b ∷ bs) ≡ split at b (letters bs) bs
run_from at b [] e = alone (class_of b) at b [] e
run_from at b (c ∷ cs) e = run_pick at b c cs (in_run c) e refl (λ q. run_from (at + 1) c cs q)

counted : (t : Bool) (n : ℕ) → cond t (1 + n) 0 ≡ 0 → t ≡ false
counted true n h = absurd (omega arith)
counted false n h = refl

uncounted : (t : Bool) (n : ℕ) → 0 < cond t (1 + n) 0 → t ≡ true
uncounted true n h = refl
uncounted false n h = absurd (omega arith)

counts : (t : Bool) (n : ℕ) → t ≡ true → cond t (1 + n) 0 ≡ 1 + n
counts t n h = rw h refl

foreign_of : (w p : Bool) → w ≡ false
    → is_printable_class (if w then white else if p then printable else foreign) ≡ false
    → (if w then white else if p then printable else foreign) ≡ foreign
foreign_of true p e h = absurd (cc)
foreign_of false true e h = absurd (cc)
foreign_of false false e h = refl

run_here : (at : ℕ) (bs : List ℕ) → 0 < letters bs
    → pieces_from at bs
    ≡ run at (take (letters bs) bs) ∷ pieces_from (at + letters bs) (drop (letters bs) bs)
run_here at [] h = absurd (omega arith)
run_here at (b ∷ bs) h =
    let q : in_run b ≡ true = uncounted (in_run b) (letters bs) h in
    rw (counts (in_run b) (letters bs) q, take-more (letters bs) b bs, drop-more (letters bs) b bs)
    (run_from at b bs (printable_class (class_of b) q)
    ∙ ap (λ m. run at (b ∷ take (letters bs) bs) ∷ pieces_from m (drop (letters bs) bs))
    (omega arith))

stray_byte : (k : Class) (begins : Bool) (at b : ℕ) (ps : List Piece) → k ≡ foreign
    → with_byte k begins at b ps ≡ stray at ∷ ps
stray_byte k begins at b ps e = rw e refl

stray_here : (at : ℕ) (bs : List ℕ) → 0 < length bs → begins_white bs ≡ false → letters bs ≡ 0
    → pieces_from at bs ≡ stray at ∷ pieces_from (at + 1) (drop 1 bs)
stray_here at [] some w h = absurd (omega arith)
stray_here at (b ∷ bs) some w h =
    stray_byte (class_of b) _ at b (pieces_from (at + 1) bs)
    (foreign_of (is_white b) _ w (counted (in_run b) (letters bs) h))

-- what comes at a place that has no white space
pub stray-at : (bytes : List ℕ) (from at n : ℕ) → pieces_at bytes at ≡ pieces_at bytes from
    → at < length bytes → begins_white (drop at bytes) ≡ false
    → n ≡ length (printed (drop at bytes)) → n ≡ 0
    → pieces_at bytes from ≡ stray at ∷ pieces_at bytes (at + 1)
stray-at bytes from at n same some w h z =
    sym same
    ∙ stray_here at (drop at bytes) (omega (arith, length-drop at bytes)) w
    (sym (length-prefix_len in_run (drop at bytes)) ∙ sym h ∙ z)
    ∙ ap (λ bs. stray at ∷ pieces_from (at + 1) bs) (drop-drop 1 at bytes)

run_law : (bytes : List ℕ) (at n : ℕ) → n ≡ letters (drop at bytes) → 0 < n
    → pieces_at bytes at ≡ run at (slice_range bytes at (at + n)) ∷ pieces_at bytes (at + n)
run_law bytes at n h some =
    run_here at (drop at bytes) (omega arith)
    ∙ ap (λ m. run at (take m (drop at bytes)) ∷ pieces_from (at + m) (drop m (drop at bytes)))
    (sym h)
    ∙ ap (λ bs. run at (take n (drop at bytes)) ∷ pieces_from (at + n) bs) (drop-drop n at bytes)
    ∙ ap (λ m. run at (take m (drop at bytes)) ∷ pieces_at bytes (at + n)) (omega arith)

pub run-at : (bytes : List ℕ) (from at n : ℕ) → pieces_at bytes at ≡ pieces_at bytes from
    → n ≡ length (printed (drop at bytes)) → 0 < n
    → pieces_at bytes from ≡ run at (slice_range bytes at (at + n)) ∷ pieces_at bytes (at + n)
run-at bytes from at n same h some =
    sym same ∙ run_law bytes at n (h ∙ length-prefix_len in_run (drop at bytes)) some

pub run-within : (bytes : List ℕ) (at n : ℕ) → at ≤ length bytes
    → n ≡ length (printed (drop at bytes)) → at + n ≤ length bytes
run-within bytes at n within h =
    omega (
      arith,
      length-prefix_len in_run (drop at bytes),
      prefix_len-le-length in_run (drop at bytes),
      length-drop at bytes,
    )

mark-split : (bs : List ℕ) → has_comment_mark bs ≡ (mark_ahead bs || has_comment_mark (drop 1 bs))
mark-split [] = refl
mark-split (b ∷ bs) = refl

pub mark-pass : (bytes : List ℕ) (at : ℕ) → mark_ahead (drop at bytes) ≡ false
    → has_comment_mark (drop (at + 1) bytes) ≡ has_comment_mark (drop at bytes)
mark-pass bytes at h =
    ap has_comment_mark (sym (drop-drop 1 at bytes))
    ∙ ap (λ b. b || has_comment_mark (drop 1 (drop at bytes))) (sym h)
    ∙ sym (mark-split (drop at bytes))
