-- Labels whose marks differ.
use Rattle.std.proofs.Common.{◌≡◌, ℕ, ◌+◌, ◌-◌, ◌<◌, ◌≤◌, zero, suc, length, drop, take, get_or}
use Rattle.std.proofs.Common.{map, Bool, true, false, List, [], ◌∷◌, ◌++◌, slice_index_or, nat_eq}
use Rattle.std.proofs.Common.{arith, refl, ap, sym, subst, ◌∙◌}
use Rattle.std.specs.Prelude.{◌||◌, bytes_eq, slice_set}
use Rattle.std.proofs.lemmas.List.{get_or-set_same, take_more, map-append}
use Rattle.std.proofs.lemmas.Slice.Eq.{bytes_eq-Decides}
use Rattle.mm_text.specs.Bytes.{Token, has_token}
use Rattle.mm_text.specs.Reader.{word_of, words_of}
use Rattle.mm_text.specs.declared.tokens.MmToken.{MmToken}
use Rattle.mm_verify.specs.Marks.{mark_of, is_set, AreMarked}
use Rattle.mm_verify.proofs.Clashing.{words-before}
use Rattle.mm_frame.proofs.Labelled.{has_token-push}

same-stamp : (n : ℕ) → nat_eq n n ≡ true
same-stamp n = grind arith

-- setting a mark removes no mark
unmarked-before : (stamp : ℕ) (marks : List ℕ) (i j : ℕ)
    → is_set stamp (slice_set marks i stamp) j ≡ false → is_set stamp marks j ≡ false
unmarked-before stamp [] i j h = h
unmarked-before stamp (m ∷ marks) zero zero h =
    absurd (let wrong = sym (same-stamp stamp) ∙ h in cc)
unmarked-before stamp (m ∷ marks) zero (suc j) h = h
unmarked-before stamp (m ∷ marks) (suc i) zero h = h
unmarked-before stamp (m ∷ marks) (suc i) (suc j) h = unmarked-before stamp marks i j h

-- a token whose mark is not set differs from a token that set its mark
another-token : (stamp : ℕ) (marks : List ℕ) (w t : Token) → mark_of w < length marks
    → is_set stamp (slice_set marks (mark_of w) stamp) (mark_of t) ≡ false → bytes_eq w t ≡ false
another-token stamp marks w t within h = go (bytes_eq w t) refl
  where
    go : (b : Bool) → bytes_eq w t ≡ b → b ≡ false
    go false is = refl
    go true is =
        sym (ap (λ (n : ℕ).
        nat_eq n stamp) (get_or-set_same marks (mark_of w) stamp 0 within) ∙ same-stamp stamp)
        ∙ (ap (λ (u : Token). is_set stamp (slice_set marks (mark_of w) stamp) (mark_of u))
        ((bytes_eq-Decides w t).0 is) ∙ h)

none-of-two : (a b : Bool) → a ≡ false → b ≡ false → (a || b) ≡ false
none-of-two a b h k = rw (h, k) refl

-- one more label before others, or after them
front-marked : (stamp : ℕ) (marks : List ℕ) (w : Token) (others ws : List Token)
    → mark_of w < length marks
    → ((t : Token) → is_set stamp marks (mark_of t) ≡ false
    → (has_token others t || has_token ws t) ≡ false) → (t : Token)
    → is_set stamp (slice_set marks (mark_of w) stamp) (mark_of t) ≡ false
    → (has_token others t || has_token (w ∷ ws) t) ≡ false
front-marked stamp marks w others ws within marked t h =
    or-swap (has_token others t) (bytes_eq w t) (has_token ws t)
    ∙ none-of-two _ _ (another-token stamp marks w t within h)
    (marked t (unmarked-before stamp marks (mark_of w) (mark_of t) h))
  where
    or-swap : (a b c : Bool) → (a || (b || c)) ≡ (b || (a || c))
    or-swap true true c = refl
    or-swap true false c = refl
    or-swap false b c = refl

pub more-marked : (others : List Token) (bytes : List ℕ) (ts : List MmToken) (at : ℕ) (d : MmToken)
    (w : Token) (m : ℕ) (stamp : ℕ) (marks : List ℕ) → 0 < at → at ≤ length ts
    → w ≡ word_of bytes (slice_index_or ts (at - 1) d) → m ≡ mark_of w → m < length marks
    → ((t : Token) → is_set stamp marks (mark_of t) ≡ false
    → (has_token others t || has_token (words_of bytes (drop at ts)) t) ≡ false) → (t : Token)
    → is_set stamp (slice_set marks m stamp) (mark_of t) ≡ false
    → (has_token others t || has_token (words_of bytes (drop (at - 1) ts)) t) ≡ false
more-marked others bytes ts at d w m stamp marks some within is mark room marked t h =
    ap (λ (us : List Token). has_token others t || has_token us t) (words-before bytes ts at d some
    within ∙ ap (λ (u : Token). u ∷ words_of bytes (drop at ts)) (sym is))
    ∙ front-marked stamp marks w others (words_of bytes (drop at ts))
    (subst (λ (k : ℕ). k < length marks) mark room) marked t
    (ap (λ (k : ℕ). is_set stamp (slice_set marks k stamp) (mark_of t)) (sym mark) ∙ h)

pub label-marked : {X : Type 0} (key : X → Token) (xs : List X) (i : ℕ) (x : X) (w : Token) (m : ℕ)
    (stamp : ℕ) (marks : List ℕ) → i < length xs → x ≡ get_or xs i x → w ≡ key x → m ≡ mark_of w
    → m < length marks → AreMarked (map key (take i xs)) stamp marks
    → AreMarked (map key (take (i + 1) xs)) stamp (slice_set marks m stamp)
label-marked key xs i x w m stamp marks lt is at mark room marked t h =
    let unset : is_set stamp (slice_set marks (mark_of w) stamp) (mark_of t) ≡ false =
    ap (λ (k : ℕ). is_set stamp (slice_set marks k stamp) (mark_of t)) (sym mark) ∙ h in
    ap (λ (us : List Token). has_token us t)
    (ap (map key) (take_more xs i x lt) ∙ map-append key (take i xs) (get_or xs i x ∷ []))
    ∙ ap (λ (u : Token). has_token (map key (take i xs) ++ u ∷ []) t) (sym (at ∙ ap key is))
    ∙ has_token-push (map key (take i xs)) w t
    ∙ none-of-two _ _
    (another-token stamp marks w t (subst (λ (k : ℕ). k < length marks) mark room) unset)
    (marked t (unmarked-before stamp marks (mark_of w) (mark_of t) unset))
