-- Writes one after the other.
use Rattle.std.proofs.Common.{◌≡◌, ℕ, ◌+◌, ◌-◌, ◌≤◌, List, [], ◌++◌, length, take, drop, Option}
use Rattle.std.proofs.Common.{Some, None, sym, ◌∙◌, ap, append_assoc}
use Rattle.std.proofs.lemmas.List.{append-nil, length-take-le, take-append-drop, take_rest}
use Rattle.std.proofs.Math.Seq.{take-append-add}
use Rattle.desk_io.specs.Sent.{Appends}
use Rattle.desk_io.specs.SinkChanges.{SameBytes, AppendsFront}

pub Appends-nil : (a : Option (List ℕ)) → Appends a a []
Appends-nil None = tt
Appends-nil (Some old) = ap (λ xs. Some xs) (sym (append-nil old))

Appends-then : (a b c : Option (List ℕ)) (xs ys : List ℕ) → Appends a b xs → Appends b c ys
    → Appends a c (xs ++ ys)
Appends-then None b c xs ys p q = tt
Appends-then (Some old) b c xs ys p q =
    let r : Appends (Some (old ++ xs)) c ys = rw p at q in
    r ∙ ap (λ zs. Some zs) (append_assoc old xs ys)

take-add : (m n : ℕ) (xs : List ℕ) → m ≤ length xs
    → take (m + n) xs ≡ take m xs ++ take n (drop m xs)
take-add m n xs h =
    let e : length (take m xs) ≡ m = length-take-le m xs h in
    let whole : take m xs ++ drop m xs ≡ xs = take-append-drop m xs in
    ap (λ zs. take (m + n) zs) (sym whole) ∙ ap (λ k. take (k + n) (take m xs ++ drop m xs)) (sym e)
    ∙ take-append-add (take m xs) (drop m xs) n

-- a write of the bytes from `at`, of which n were taken
pub Appends-more : (a b c : Option (List ℕ)) (bytes : List ℕ) (at n : ℕ) → at ≤ length bytes
    → Appends a b (take at bytes) → Appends b c (take n (take (length bytes - at) (drop at bytes)))
    → Appends a c (take (at + n) bytes)
Appends-more a b c bytes at n h p q =
    let r : Appends b c (take n (drop at bytes)) = rw (take_rest bytes at) at q in
    rw (take-add at n bytes h) (Appends-then a b c (take at bytes) (take n (drop at bytes)) p r)

-- bytes are appended up to a fault
pub Appends-fault : (a b c : Option (List ℕ)) (bytes : List ℕ) (at : ℕ)
    → Appends a b (take at bytes) → SameBytes b c → AppendsFront a c bytes
Appends-fault None b c bytes at p q = tt
Appends-fault (Some old) b c bytes at p q =
    let r : SameBytes (Some (old ++ take at bytes)) c = rw p at q in
    (take at bytes, drop at bytes, sym (take-append-drop at bytes), r)
