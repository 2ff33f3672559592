-- Pieces of text, sent one after the other.
use Rattle.std.proofs.Common.{◌≡◌, ℕ, ◌+◌, ◌<◌, List, [], ◌∷◌, ◌++◌, length, take, drop, get_or}
use Rattle.std.proofs.Common.{Option, Some, None, sym, ap, ◌∙◌, append_assoc}
use Rattle.std.specs.List.{flat_map}
use Rattle.std.specs.Borrow.{Bor}
use Rattle.std.proofs.lemmas.List.{take_more, take-append-drop, append-nil}
use Rattle.std.proofs.lemmas.List.Concat.{flat_map-append}
use Rattle.desk_io.specs.Sent.{Appends}
use Rattle.desk_io.specs.SinkChanges.{AppendsFront}

-- the concatenation of the pieces
abbrev pub joined : List (Bor (List ℕ)) → List ℕ
joined pieces = flat_map (λ (piece : Bor (List ℕ)). piece.now) pieces

-- some bytes were sent, and then more
pub Appends-then : (a b c : Option (List ℕ)) (xs ys zs : List ℕ) → zs ≡ xs ++ ys → Appends a b xs
    → Appends b c ys → Appends a c zs
Appends-then None b c xs ys zs e p q = tt
Appends-then (Some old) b c xs ys zs e p q =
    let r : Appends (Some (old ++ xs)) c ys = rw p at q in
    r
    ∙ ap (λ (bytes : List ℕ). Some bytes)
    (append_assoc old xs ys ∙ ap (λ (bytes : List ℕ). old ++ bytes) (sym e))

pub AppendsFront-after : (a b c : Option (List ℕ)) (xs ys rest zs : List ℕ)
    → zs ≡ xs ++ (ys ++ rest) → Appends a b xs → AppendsFront b c ys → AppendsFront a c zs
AppendsFront-after None b c xs ys rest zs e p q = tt
AppendsFront-after (Some old) b c xs ys rest zs e p q =
    let r : AppendsFront (Some (old ++ xs)) c ys = rw p at q in (
      xs ++ r.0,
      r.1 ++ rest,
      e ∙ ap (λ (bytes : List ℕ). xs ++ (bytes ++ rest)) r.2
          ∙ ap (λ (bytes : List ℕ). xs ++ bytes) (append_assoc r.0 r.1 rest)
          ∙ sym (append_assoc xs r.0 (r.1 ++ rest)),
      r.3 ∙ ap (λ (bytes : List ℕ). Some bytes) (append_assoc old xs r.0),
    )

-- the front of some bytes is also a front of those bytes with more after them
pub AppendsFront-more : (a b : Option (List ℕ)) (xs ys : List ℕ) → AppendsFront a b xs
    → AppendsFront a b (xs ++ ys)
AppendsFront-more None b xs ys h = tt
AppendsFront-more (Some old) b xs ys h =
    (h.0, h.1 ++ ys, ap (λ (bytes : List ℕ). bytes ++ ys) h.2 ∙ append_assoc h.0 h.1 ys, h.3)

joined-take_more : (pieces : List (Bor (List ℕ))) (i : ℕ) (d : Bor (List ℕ)) (piece : List ℕ)
    → i < length pieces → piece ≡ (get_or pieces i d).now
    → joined (take (i + 1) pieces) ≡ joined (take i pieces) ++ piece
joined-take_more pieces i d piece lt item =
    ap joined (take_more pieces i d lt)
    ∙ flat_map-append (λ (p : Bor (List ℕ)). p.now) (take i pieces) (get_or pieces i d ∷ [])
    ∙ ap (λ (bytes : List ℕ). joined (take i pieces) ++ bytes)
    (append-nil (get_or pieces i d).now ∙ sym item)

-- the pieces before this one were sent, and then this one
pub piece_sent : (a b c : Option (List ℕ)) (pieces : List (Bor (List ℕ))) (i : ℕ) (d : Bor (List ℕ))
    (piece : List ℕ) → i < length pieces → piece ≡ (get_or pieces i d).now
    → Appends a b (joined (take i pieces)) → Appends b c piece
    → Appends a c (joined (take (i + 1) pieces))
piece_sent a b c pieces i d piece lt item before now =
    Appends-then a b c (joined (take i pieces)) piece (joined (take (i + 1) pieces))
    (joined-take_more pieces i d piece lt item) before now

-- the pieces before this one were sent, and then the front of this one
pub piece_begun : (a b c : Option (List ℕ)) (pieces : List (Bor (List ℕ))) (i : ℕ)
    (d : Bor (List ℕ)) (piece : List ℕ) → i < length pieces → piece ≡ (get_or pieces i d).now
    → Appends a b (joined (take i pieces)) → AppendsFront b c piece
    → AppendsFront a c (joined pieces)
piece_begun a b c pieces i d piece lt item before now =
    let whole : joined pieces ≡ joined (take (i + 1) pieces) ++ joined (drop (i + 1) pieces) =
    ap joined (sym (take-append-drop (i + 1) pieces))
    ∙ flat_map-append (λ (p : Bor (List ℕ)). p.now) (take (i + 1) pieces)
    (drop (i + 1) pieces) in
    let e : joined pieces ≡ joined (take i pieces) ++ (piece ++ joined (drop (i + 1) pieces)) =
    whole
    ∙ ap (λ (bytes : List ℕ). bytes ++ joined (drop (i + 1) pieces))
    (joined-take_more pieces i d piece lt item)
    ∙ append_assoc (joined (take i pieces)) piece (joined (drop (i + 1) pieces)) in
    AppendsFront-after a b c (joined (take i pieces)) piece (joined (drop (i + 1) pieces))
    (joined pieces) e before now
