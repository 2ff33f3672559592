-- The pieces of a text from a place on.
use Rattle.std.proofs.Common.{◌≡◌, ℕ, zero, suc, ◌+◌, ◌-◌, ◌<◌, ◌≤◌, Bool, true, false, List, ◌∷◌}
use Rattle.std.proofs.Common.{length, take, drop, refl, ap, ◌∙◌, sym, subst, arith, add-one}
use Rattle.std.proofs.Common.{drop-cons}
use Rattle.std.proofs.lemmas.List.{drop_all}
use Rattle.std.proofs.lemmas.Bool.{ltb-true, ltb-false}
use Rattle.std.specs.Prelude.{slice_index, nat_lt}
use Rattle.mm_text.specs.Bytes.{Class, printable, class_of}
use Rattle.mm_text.specs.Tokens.{run, begins_printable, grown, with_byte, pieces_from}
use Rattle.mm_text.specs.Places.{pieces_at, prints, EndAt, WhiteAt, StrayAt, RunAt}
use Rattle.mm_text.proofs.Truths.{printable_class, white_class}

pub end_at : EndAt
end_at bytes at h = ap (pieces_from at) (drop_all at bytes h)

-- the rest from a place on is its byte and the rest after
rest_at : (bytes : List ℕ) (at : ℕ) → at < length bytes
    → drop at bytes ≡ slice_index bytes at ∷ drop (at + 1) bytes
rest_at bytes at h = rw add-one (drop-cons bytes at 0 h)

pieces_at-byte : (bytes : List ℕ) (at : ℕ) → at < length bytes
    → pieces_at bytes at
    ≡ with_byte (class_of (slice_index bytes at)) (begins_printable (drop (at + 1) bytes)) at
    (slice_index bytes at) (pieces_at bytes (at + 1))
pieces_at-byte bytes at h = ap (pieces_from at) (rest_at bytes at h)

pub white_at : WhiteAt
white_at bytes at h is =
    pieces_at-byte bytes at h
    ∙ ap (λ (k : Class). with_byte k (begins_printable (drop (at + 1) bytes)) at
    (slice_index bytes at) (pieces_at bytes (at + 1)))
    (white_class (slice_index bytes at) is)

pub stray_at : StrayAt
stray_at bytes at h is =
    pieces_at-byte bytes at h
    ∙ ap (λ (k : Class). with_byte k (begins_printable (drop (at + 1) bytes)) at
    (slice_index bytes at) (pieces_at bytes (at + 1))) is

-- the bytes from a place on begin with a printable byte if and only if the byte at that place is
-- printable
begins_at : (bytes : List ℕ) (at : ℕ) → at < length bytes
    → begins_printable (drop at bytes) ≡ prints bytes at
begins_at bytes at h = ap begins_printable (rest_at bytes at h)

begins_end : (bytes : List ℕ) (at : ℕ) → length bytes ≤ at
    → begins_printable (drop at bytes) ≡ false
begins_end bytes at h = ap begins_printable (drop_all at bytes h)

pieces_at-printable : (bytes : List ℕ) (at : ℕ) → at < length bytes → prints bytes at ≡ true
    → pieces_at bytes at
    ≡ with_byte printable (begins_printable (drop (at + 1) bytes)) at (slice_index bytes at)
    (pieces_at bytes (at + 1))
pieces_at-printable bytes at h is =
    pieces_at-byte bytes at h
    ∙ ap (λ (k : Class). with_byte k (begins_printable (drop (at + 1) bytes)) at
    (slice_index bytes at) (pieces_at bytes (at + 1)))
    (printable_class (class_of (slice_index bytes at)) is)

-- a token of n + 1 bytes
run_of : (bytes : List ℕ) (n i : ℕ) → i + n + 1 ≤ length bytes
    → ((k : ℕ) → i ≤ k → k < i + n + 1 → prints bytes k ≡ true)
    → begins_printable (drop (i + n + 1) bytes) ≡ false
    → pieces_at bytes i ≡ run i (take (suc n) (drop i bytes)) ∷ pieces_at bytes (i + n + 1)
run_of bytes zero i within printing ends =
    let place : i + 0 + 1 ≡ i + 1 = omega arith in
    let ended : begins_printable (drop (i + 1) bytes) ≡ false =
    subst (λ (m : ℕ). begins_printable (drop m bytes) ≡ false) place ends in
    pieces_at-printable bytes i (omega arith) (printing i (omega arith) (omega arith))
    ∙ ap (λ (b : Bool). with_byte printable b i (slice_index bytes i) (pieces_at bytes (i + 1)))
    ended
    ∙ ap (λ (bs : List ℕ). run i bs ∷ pieces_at bytes (i + 1))
    (sym (ap (take 1) (rest_at bytes i (omega arith))))
    ∙ ap (λ (m : ℕ). run i (take 1 (drop i bytes)) ∷ pieces_at bytes m) (sym place)
run_of bytes (suc n) i within printing ends =
    let place : i + suc n + 1 ≡ (i + 1) + n + 1 = omega arith in
    let next : begins_printable (drop (i + 1) bytes) ≡ true =
    begins_at bytes (i + 1) (omega arith) ∙ printing (i + 1) (omega arith) (omega arith) in
    let behind : pieces_at bytes (i + 1) ≡ run (i + 1) (take (suc n) (drop (i + 1) bytes)) ∷
    pieces_at bytes ((i + 1) + n + 1) =
    run_of bytes n (i + 1) (omega arith) (λ k low high. printing k (omega arith) (omega arith))
    (subst (λ (m : ℕ). begins_printable (drop m bytes) ≡ false) place ends) in
    pieces_at-printable bytes i (omega arith) (printing i (omega arith) (omega arith))
    ∙ ap (λ (b : Bool). with_byte printable b i (slice_index bytes i) (pieces_at bytes (i + 1)))
    next
    ∙ ap (grown i (slice_index bytes i)) behind
    ∙ ap (λ (bs : List ℕ). run i bs ∷ pieces_at bytes ((i + 1) + n + 1))
    (sym (ap (take (suc (suc n))) (rest_at bytes i (omega arith))))
    ∙ ap (λ (m : ℕ). run i (take (suc (suc n)) (drop i bytes)) ∷ pieces_at bytes m) (sym place)

ends_at : (bytes : List ℕ) (j : ℕ) → (j < length bytes → prints bytes j ≡ false)
    → begins_printable (drop j bytes) ≡ false
ends_at bytes j h = go (nat_lt j (length bytes)) refl
  where
    go : (b : Bool) → nat_lt j (length bytes) ≡ b → begins_printable (drop j bytes) ≡ false
    go true is = begins_at bytes j (ltb-true j (length bytes) is) ∙ h (ltb-true j (length bytes) is)
    go false is = begins_end bytes j (ltb-false j (length bytes) is)

pub run_at : RunAt
run_at bytes i j order within printing ends =
    let place : i + (j - i - 1) + 1 ≡ j = omega arith in
    let size : suc (j - i - 1) ≡ j - i = omega arith in
    run_of bytes (j - i - 1) i (omega arith) (λ k low high. printing k low (omega arith))
    (subst (λ (m : ℕ). begins_printable (drop m bytes) ≡ false) (sym place)
    (ends_at bytes j ends))
    ∙ ap (λ (m : ℕ). run i (take m (drop i bytes)) ∷ pieces_at bytes (i + (j - i - 1) + 1)) size
    ∙ ap (λ (m : ℕ). run i (take (j - i) (drop i bytes)) ∷ pieces_at bytes m) place
