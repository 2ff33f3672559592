-- Labels that clash, looked for from the end.
use Rattle.std.proofs.Common.{◌≡◌, ℕ, ◌+◌, ◌-◌, ◌<◌, ◌≤◌, zero, suc, length, drop, take, Bool, true}
use Rattle.std.proofs.Common.{false, List, [], ◌∷◌, ◌++◌, slice_index_or, get_or, map, drop-cons}
use Rattle.std.proofs.Common.{refl, ap, sym, ◌∙◌, arith, cond}
use Rattle.std.specs.Prelude.{◌||◌, Option, Some, None, is_some, bytes_eq}
use Rattle.std.proofs.lemmas.Bool.{or_left, or_right}
use Rattle.std.proofs.lemmas.List.{drop-map, take_more, map-append}
use Rattle.mm_text.specs.Bytes.{Token, has_token}
use Rattle.mm_text.specs.Reader.{word_of, words_of}
use Rattle.std.specs.List.{list_any}
use Rattle.mm_frame.specs.PlainFrames.{plain_hypotheses, has_number}
use Rattle.mm_frame.specs.Labels.{label_in}
use Rattle.mm_frame.specs.declared.frames.Hyp.{Hyp}
use Rattle.mm_frame.proofs.Labelled.{is_some-cond, or-swap, labels-scope_state}
use Rattle.mm_text.specs.declared.tokens.MmToken.{MmToken}
use Rattle.mm_scope.specs.ScopeState.{ScopeState}
use Rattle.mm_scope.specs.StateReads.{hypothesis_named, is_some_mandatory, is_mandatory_named}
use Rattle.mm_frame.specs.NeededNumbers.{is_needed_number, number_stands_in}
use Rattle.mm_frame.specs.Numbered.{NumberedHypothesis, NumberedFrame}
use Rattle.mm_database.specs.Frames.{floating, essential}
use Rattle.mm_verify.specs.ProofSteps.{clashes, labels_in, IsLabelled}

both-false : (a b : Bool) → a ≡ false → b ≡ false → (a || b) ≡ false
both-false a b h k = rw (h, k) refl

clashes-drop : (others : List Token) (k : ℕ) (ws : List Token) → clashes others (drop k ws) ≡ true
    → clashes others ws ≡ true
clashes-drop others zero ws h = h
clashes-drop others (suc k) [] h = h
clashes-drop others (suc k) (w ∷ ws) h =
    or_right (has_token others w || has_token ws w) (clashes others ws) (clashes-drop others k ws h)

-- the tokens from the one before a place to the end
pub words-before : (bytes : List ℕ) (ts : List MmToken) (at : ℕ) (d : MmToken) → 0 < at
    → at ≤ length ts
    → words_of bytes (drop (at - 1) ts)
    ≡ word_of bytes (slice_index_or ts (at - 1) d) ∷ words_of bytes (drop at ts)
words-before bytes ts at d some within =
    let low : at - 1 < length ts = omega arith in
    let next : suc (at - 1) ≡ at = omega arith in
    ap (words_of bytes) (drop-cons ts (at - 1) d low)
    ∙ ap (λ n. word_of bytes (slice_index_or ts (at - 1) d) ∷ words_of bytes (drop n ts)) next

pub clash-found : (others : List Token) (bytes : List ℕ) (ts : List MmToken) (at : ℕ) (d : MmToken)
    (w : Token) → 0 < at → at ≤ length ts → w ≡ word_of bytes (slice_index_or ts (at - 1) d)
    → (has_token others w || has_token (words_of bytes (drop at ts)) w) ≡ true
    → clashes others (words_of bytes ts) ≡ true
clash-found others bytes ts at d w some within is found =
    let here : clashes others (words_of bytes (drop (at - 1) ts)) ≡ true =
    ap (clashes others) (words-before bytes ts at d some within)
    ∙ or_left _ (clashes others (words_of bytes (drop at ts))) (ap
    (λ u. has_token others u || has_token (words_of bytes (drop at ts)) u) (sym is)
    ∙ found) in
    clashes-drop others (at - 1) (words_of bytes ts)
    (ap (clashes others) (drop-map (word_of bytes) (at - 1) ts) ∙ here)

pub no-clash : (others : List Token) (bytes : List ℕ) (ts : List MmToken) (at : ℕ) (d : MmToken)
    (w : Token) → 0 < at → at ≤ length ts → w ≡ word_of bytes (slice_index_or ts (at - 1) d)
    → (has_token others w || has_token (words_of bytes (drop at ts)) w) ≡ false
    → clashes others (words_of bytes (drop at ts)) ≡ false
    → clashes others (words_of bytes (drop (at - 1) ts)) ≡ false
no-clash others bytes ts at d w some within is new tail =
    ap (clashes others) (words-before bytes ts at d some within)
    ∙ both-false _ (clashes others (words_of bytes (drop at ts))) (ap
    (λ u. has_token others u || has_token (words_of bytes (drop at ts)) u) (sym is)
    ∙ new) tail

pub seen-more : {V : Type 0} (others : List Token) (bytes : List ℕ) (ts : List MmToken) (at : ℕ)
    (d : MmToken) (w q : Token) (old new : Option V) (v : V) → 0 < at → at ≤ length ts
    → w ≡ word_of bytes (slice_index_or ts (at - 1) d) → new ≡ cond (bytes_eq w q) (Some v) old
    → is_some old ≡ (has_token others q || has_token (words_of bytes (drop at ts)) q)
    → is_some new ≡ (has_token others q || has_token (words_of bytes (drop (at - 1) ts)) q)
seen-more others bytes ts at d w q old new v some within is grown had =
    ap is_some grown ∙ is_some-cond (bytes_eq w q) v old ∙ ap (λ b. bytes_eq w q || b) had
    ∙ or-swap (bytes_eq w q) (has_token others q) (has_token (words_of bytes (drop at ts)) q)
    ∙ ap (λ u. has_token others q || (bytes_eq u q || has_token (words_of bytes (drop at ts)) q)) is
    ∙
    sym (ap (λ (us : List Token).
    has_token others q || has_token us q) (words-before bytes ts at d some within))

-- the labels of hypotheses of the code are those of the plain hypotheses
pub own-or : (hs : List Hyp) (ws : List Token) (q : Token)
    → (has_token (map label_in hs) q || has_token ws q)
    ≡ (has_token (labels_in (plain_hypotheses hs)) q || has_token ws q)
own-or hs ws q = ap (λ (ts : List Token). has_token ts q || has_token ws q) (labels-scope_state hs)

-- a label is one of the others, or else labels clash among themselves
clashes-split : (others ws : List Token)
    → clashes others ws ≡ (list_any (has_token others) ws || clashes [] ws)
clashes-split others [] = refl
clashes-split others (w ∷ ws) =
    go (has_token others w) (has_token ws w) (list_any (has_token others) ws) (clashes [] ws)
    (clashes-split others ws)
  where
    go : (a b c d : Bool) {t : Bool} → t ≡ (c || d) → ((a || b) || t) ≡ ((a || c) || (b || d))
    go true b c d e = refl
    go false true true d e = refl
    go false true false d e = refl
    go false false c d e = e

any-same : (f g : Token → Bool) (ws : List Token) → ((w : Token) → f w ≡ g w)
    → list_any f ws ≡ list_any g ws
any-same f g [] same = refl
any-same f g (w ∷ ws) same =
    ap (λ (b : Bool). b || list_any f ws) (same w)
    ∙ ap (λ (b : Bool). g w || b) (any-same f g ws same)

-- which hypotheses are mandatory depends only on which symbols a statement has
mandatory-same : (h : ScopeState) (symbols others : List ℕ)
    → ((n : ℕ) → has_number symbols n ≡ has_number others n) → (w : Token)
    → is_mandatory_named h others w ≡ is_mandatory_named h symbols w
mandatory-same h symbols others same w = go (hypothesis_named h w)
  where
    go : (o : Option NumberedHypothesis)
        → is_some_mandatory (is_needed_number h.hypotheses others) o
        ≡ is_some_mandatory (is_needed_number h.hypotheses symbols) o
    go None = refl
    go (Some (floating label typecode variable)) =
        ap (λ (b : Bool). b || list_any (number_stands_in variable) h.hypotheses)
        (sym (same variable))
    go (Some (essential label statement)) = refl

pub any-mandatory-same : (h : ScopeState) (symbols others : List ℕ) (ws : List Token)
    → ((n : ℕ) → has_number symbols n ≡ has_number others n)
    → list_any (is_mandatory_named h others) ws ≡ list_any (is_mandatory_named h symbols) ws
any-mandatory-same h symbols others ws same =
    any-same (is_mandatory_named h others) (is_mandatory_named h symbols) ws
    (mandatory-same h symbols others same)

-- a label is that of a mandatory hypothesis, or else labels clash among themselves
pub clashes-labelled : (h : ScopeState) (f : NumberedFrame) (ws : List Token) → IsLabelled h f
    → clashes (labels_in f.hypotheses) ws
    ≡ (list_any (is_mandatory_named h f.statement) ws || clashes [] ws)
clashes-labelled h f ws labelled =
    clashes-split (labels_in f.hypotheses) ws
    ∙ ap (λ (b : Bool). b || clashes [] ws)
    (any-same (has_token (labels_in f.hypotheses)) (is_mandatory_named h f.statement) ws labelled)

-- one of the labels passes a test, or none does
pub found-among : (test : Token → Bool) (bytes : List ℕ) (ts : List MmToken) (i : ℕ) (d : MmToken)
    (w : Token) → i < length ts → w ≡ word_of bytes (get_or ts i d) → test w ≡ true
    → true ≡ list_any test (words_of bytes ts)
found-among test bytes [] i d w lt is found = absurd (none i lt)
  where
    none : (i : ℕ) → i < 0 → ⊥
    none i lt = omega (arith, lt)
found-among test bytes (t ∷ ts) zero d w lt is found =
    sym (or_left (test
    (word_of bytes t)) (list_any test (words_of bytes ts)) (ap test (sym is) ∙ found))
found-among test bytes (t ∷ ts) (suc i) d w lt is found =
    sym (or_right (test (word_of bytes
    t)) (list_any test (words_of bytes ts)) (sym (found-among test bytes ts i d w
    (omega (arith, lt)) is found)))

any-push : (test : Token → Bool) (ws : List Token) (w : Token) → list_any test ws ≡ false
    → test w ≡ false → list_any test (ws ++ w ∷ []) ≡ false
any-push test [] w none no_label = both-false (test w) false no_label refl
any-push test (v ∷ ws) w none no_label = go (test v) (list_any test ws) (any-push test ws w) none
  where
    go : (a b : Bool) → (b ≡ false → test w ≡ false → list_any test (ws ++ w ∷ []) ≡ false)
        → (a || b) ≡ false → (a || list_any test (ws ++ w ∷ [])) ≡ false
    go true b rest e = absurd (cc)
    go false b rest e = rest e no_label

pub none-among : (test : Token → Bool) (bytes : List ℕ) (ts : List MmToken) (i : ℕ) (d : MmToken)
    (w : Token) → i < length ts → w ≡ word_of bytes (get_or ts i d) → test w ≡ false
    → list_any test (words_of bytes (take i ts)) ≡ false
    → list_any test (words_of bytes (take (i + 1) ts)) ≡ false
none-among test bytes ts i d w lt is no_label none =
    ap (λ (us : List MmToken). list_any test (words_of bytes us)) (take_more ts i d lt)
    ∙ ap (list_any test) (map-append (word_of bytes) (take i ts) (get_or ts i d ∷ []))
    ∙ any-push test (words_of bytes (take i ts)) (word_of bytes (get_or ts i d)) none
    (ap test (sym is) ∙ no_label)
