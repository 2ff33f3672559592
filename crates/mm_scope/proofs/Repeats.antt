-- Tokens that occur twice, looked for from the end.
use Rattle.std.proofs.Common.{◌≡◌, ℕ, ◌-◌, ◌<◌, ◌≤◌, zero, suc, length, drop, Bool, true, false}
use Rattle.std.proofs.Common.{List, [], ◌∷◌, slice_index_or, drop-cons, refl, ap, sym, ◌∙◌, arith}
use Rattle.std.proofs.Common.{is_some, cond}
use Rattle.std.specs.Prelude.{◌||◌, Option, Some, bytes_eq}
use Rattle.std.proofs.lemmas.Bool.{or_left, or_right}
use Rattle.std.proofs.lemmas.List.{drop-map}
use Rattle.mm_text.specs.Bytes.{Token, has_token, has_repeated}
use Rattle.mm_text.specs.Reader.{word_of, words_of}
use Rattle.mm_text.specs.declared.tokens.MmToken.{MmToken}

has_repeated-drop : (k : ℕ) (ws : List Token) → has_repeated (drop k ws) ≡ true
    → has_repeated ws ≡ true
has_repeated-drop zero ws h = h
has_repeated-drop (suc k) [] h = h
has_repeated-drop (suc k) (w ∷ ws) h =
    or_right (has_token ws w) (has_repeated ws) (has_repeated-drop k ws h)

-- the tokens from the one before a place to the end
pub words-before : (bytes : List ℕ) (ts : List MmToken) (at : ℕ) (d : MmToken) → 0 < at
    → at ≤ length ts
    → words_of bytes (drop (at - 1) ts)
    ≡ word_of bytes (slice_index_or ts (at - 1) d) ∷ words_of bytes (drop at ts)
words-before bytes ts at d some within =
    let low : at - 1 < length ts = omega arith in
    let next : suc (at - 1) ≡ at = omega arith in
    ap (words_of bytes) (drop-cons ts (at - 1) d low)
    ∙ ap (λ n. word_of bytes (slice_index_or ts (at - 1) d) ∷ words_of bytes (drop n ts)) next

pub repeated-found : (bytes : List ℕ) (ts : List MmToken) (at : ℕ) (d : MmToken) (w : Token)
    → 0 < at → at ≤ length ts → w ≡ word_of bytes (slice_index_or ts (at - 1) d)
    → has_token (words_of bytes (drop at ts)) w ≡ true → has_repeated (words_of bytes ts) ≡ true
repeated-found bytes ts at d w some within is found =
    let here : has_repeated (words_of bytes (drop (at - 1) ts)) ≡ true =
    ap has_repeated (words-before bytes ts at d some within)
    ∙ or_left _ (has_repeated (words_of bytes (drop at ts)))
    (ap (λ u. has_token (words_of bytes (drop at ts)) u) (sym is) ∙ found) in
    has_repeated-drop (at - 1) (words_of bytes ts)
    (ap has_repeated (drop-map (word_of bytes) (at - 1) ts) ∙ here)

both-false : (a b : Bool) → a ≡ false → b ≡ false → (a || b) ≡ false
both-false a b h k = rw (h, k) refl

pub not-repeated : (bytes : List ℕ) (ts : List MmToken) (at : ℕ) (d : MmToken) (w : Token) → 0 < at
    → at ≤ length ts → w ≡ word_of bytes (slice_index_or ts (at - 1) d)
    → has_token (words_of bytes (drop at ts)) w ≡ false
    → has_repeated (words_of bytes (drop at ts)) ≡ false
    → has_repeated (words_of bytes (drop (at - 1) ts)) ≡ false
not-repeated bytes ts at d w some within is new tail =
    ap has_repeated (words-before bytes ts at d some within)
    ∙ both-false _ (has_repeated (words_of bytes (drop at ts)))
    (ap (λ u. has_token (words_of bytes (drop at ts)) u) (sym is) ∙ new) tail

is_some-cond : {V : Type 0} (b : Bool) (v : V) (o : Option V)
    → is_some (cond b (Some v) o) ≡ (b || is_some o)
is_some-cond true v o = refl
is_some-cond false v o = refl

pub kept-more : {V : Type 0} (bytes : List ℕ) (ts : List MmToken) (at : ℕ) (d : MmToken)
    (w q : Token) (old new : Option V) (v : V) → 0 < at → at ≤ length ts
    → w ≡ word_of bytes (slice_index_or ts (at - 1) d) → new ≡ cond (bytes_eq w q) (Some v) old
    → is_some old ≡ has_token (words_of bytes (drop at ts)) q
    → is_some new ≡ has_token (words_of bytes (drop (at - 1) ts)) q
kept-more bytes ts at d w q old new v some within is grown had =
    ap is_some grown ∙ is_some-cond (bytes_eq w q) v old ∙ ap (λ b. bytes_eq w q || b) had
    ∙ ap (λ u. bytes_eq u q || has_token (words_of bytes (drop at ts)) q) is
    ∙ sym (ap (λ (us : List Token). has_token us q) (words-before bytes ts at d some within))
