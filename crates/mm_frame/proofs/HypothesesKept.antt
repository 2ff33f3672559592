-- The places of the `$e` among hypotheses, as hypotheses come and go.
use Rattle.std.proofs.Common.{◌≡◌, ℕ, ◌+◌, ◌-◌, length, take, Bool, true, false, List, [], ◌∷◌}
use Rattle.std.proofs.Common.{◌++◌, refl, ap, sym, ◌∙◌, arith}
use Rattle.std.specs.Prelude.{if◌then◌else◌}
use Rattle.std.proofs.lemmas.List.{map-append, length-map, length-append, take_at, append-nil}
use Rattle.mm_frame.specs.PlainFrames.{plain_hypothesis, plain_hypotheses}
use Rattle.mm_frame.specs.Places.{places_of}
use Rattle.mm_frame.specs.declared.frames.Hyp.{Hyp}
use Rattle.mm_frame.proofs.Placing.{places-push}
use Rattle.mm_frame.specs.Listed.{is_essential}
use Rattle.mm_text.specs.Bytes.{Token}
use Rattle.mm_database.specs.Frames.{floating, essential}
use Rattle.mm_frame.specs.Numbered.{NumberedHypothesis}
use Rattle.mm_frame.specs.Times.{times, times_in}
use Rattle.mm_frame.proofs.Counting.{times_in-append}

abbrev essentials : List Hyp → List ℕ
essentials hs = places_of is_essential (plain_hypotheses hs)

essentials-push : (hs : List Hyp) (h : Hyp) (b : Bool) → is_essential (plain_hypothesis h) ≡ b
    → essentials (hs ++ h ∷ []) ≡ essentials hs ++ (if b then length hs ∷ [] else [])
essentials-push hs h b is =
    let size : 0 + length (plain_hypotheses hs) ≡ length hs =
    omega (arith, length-map hs plain_hypothesis) in
    ap (places_of is_essential) (map-append plain_hypothesis hs (h ∷ []))
    ∙ places-push is_essential 0 (plain_hypotheses hs) (plain_hypothesis h)
    ∙ ap (λ e. essentials hs ++ (if e then (0 + length (plain_hypotheses hs)) ∷ [] else [])) is
    ∙ ap (λ n. essentials hs ++ (if b then n ∷ [] else [])) size

pub essential-pushed : (hs : List Hyp) (h : Hyp) (es : List ℕ) (n : ℕ) → es ≡ essentials hs
    → is_essential (plain_hypothesis h) ≡ true → n ≡ length hs
    → es ++ n ∷ [] ≡ essentials (hs ++ h ∷ [])
essential-pushed hs h es n kept is last = ap (λ (ns : List ℕ). ns ++ n ∷ []) kept
    ∙ ap (λ m. essentials hs ++ m ∷ []) last ∙ sym (essentials-push hs h true is)

pub floating-pushed : (hs : List Hyp) (h : Hyp) (es : List ℕ) → es ≡ essentials hs
    → is_essential (plain_hypothesis h) ≡ false → es ≡ essentials (hs ++ h ∷ [])
floating-pushed hs h es kept is =
    kept ∙ sym (append-nil (essentials hs)) ∙ sym (essentials-push hs h false is)

pub essential-popped : (all hs : List Hyp) (h : Hyp) (es fs : List ℕ) (n : ℕ) → all ≡ hs ++ h ∷ []
    → es ≡ essentials all → is_essential (plain_hypothesis h) ≡ true → n ≡ length es
    → fs ≡ take (n - 1) es → fs ≡ essentials hs
essential-popped all hs h es fs n last kept is size cut =
    let whole : es ≡ essentials hs ++ length hs ∷ [] =
    kept ∙ ap essentials last ∙ essentials-push hs h true is in
    let less : length (essentials hs) ≡ n - 1 =
    omega (arith, size, ap length whole, length-append (essentials hs) (length hs ∷ [])) in
    cut ∙ ap (take (n - 1)) whole ∙ take_at (essentials hs) (length hs ∷ []) (n - 1) less

pub floating-popped : (all hs : List Hyp) (h : Hyp) (es : List ℕ) → all ≡ hs ++ h ∷ []
    → es ≡ essentials all → is_essential (plain_hypothesis h) ≡ false → es ≡ essentials hs
floating-popped all hs h es last kept is =
    kept ∙ ap essentials last ∙ essentials-push hs h false is ∙ append-nil (essentials hs)

-- how often symbols stand in the `$e`, with one more hypothesis or without the last

counted-push : (n : ℕ) (hs : List Hyp) (h : Hyp)
    → times_in n (plain_hypotheses (hs ++ h ∷ []))
    ≡ times_in n (plain_hypotheses hs) + times_in n (plain_hypothesis h ∷ [])
counted-push n hs h = ap (times_in n) (map-append plain_hypothesis hs (h ∷ []))
    ∙ times_in-append n (plain_hypotheses hs) (plain_hypothesis h ∷ [])

pub essential-counted : (n : ℕ) (hs : List Hyp) (h : Hyp) (l : Token) (s : List ℕ) (old new : ℕ)
    → plain_hypothesis h ≡ essential l s → old ≡ times_in n (plain_hypotheses hs)
    → new ≡ old + times n s → new ≡ times_in n (plain_hypotheses (hs ++ h ∷ []))
essential-counted n hs h l s old new is was more =
    let one : times_in n (plain_hypothesis h ∷ []) ≡ times n s + 0 =
    ap (λ (x : NumberedHypothesis). times_in n (x ∷ [])) is in
    omega (arith, was, more, one, counted-push n hs h)

pub floating-counted : (n : ℕ) (hs : List Hyp) (h : Hyp) (old : ℕ)
    → is_essential (plain_hypothesis h) ≡ false → old ≡ times_in n (plain_hypotheses hs)
    → old ≡ times_in n (plain_hypotheses (hs ++ h ∷ []))
floating-counted n hs h old kind was =
    let one : times_in n (plain_hypothesis h ∷ []) ≡ 0 = none (plain_hypothesis h) kind in
    omega (arith, was, one, counted-push n hs h)
  where
    none : (x : NumberedHypothesis) → is_essential x ≡ false → times_in n (x ∷ []) ≡ 0
    none (floating l k v) e = refl
    none (essential l s) e = absurd (cc)

pub essential-uncounted : (n : ℕ) (all hs : List Hyp) (h : Hyp) (l : Token) (s : List ℕ)
    (old new : ℕ) → all ≡ hs ++ h ∷ [] → plain_hypothesis h ≡ essential l s
    → old ≡ times_in n (plain_hypotheses all) → new ≡ old - times n s
    → new ≡ times_in n (plain_hypotheses hs)
essential-uncounted n all hs h l s old new last is was less =
    let one : times_in n (plain_hypothesis h ∷ []) ≡ times n s + 0 =
    ap (λ (x : NumberedHypothesis). times_in n (x ∷ [])) is in
    let whole = ap (λ (xs : List Hyp). times_in n (plain_hypotheses xs)) last in
    omega (arith, was, less, one, whole, counted-push n hs h)

pub floating-uncounted : (n : ℕ) (all hs : List Hyp) (h : Hyp) (old : ℕ) → all ≡ hs ++ h ∷ []
    → is_essential (plain_hypothesis h) ≡ false → old ≡ times_in n (plain_hypotheses all)
    → old ≡ times_in n (plain_hypotheses hs)
floating-uncounted n all hs h old last kind was =
    was ∙ ap (λ (xs : List Hyp). times_in n (plain_hypotheses xs)) last
    ∙ sym (floating-counted n hs h (times_in n (plain_hypotheses hs)) kind refl)
