-- Calls of a desk one after the other.
use Rattle.std.proofs.Common.{◌≡◌, ℕ, ◌+◌, ◌-◌, ◌≤◌, true, List, [], ◌++◌, length, take, drop, Option}
use Rattle.std.proofs.Common.{Some, None, refl, sym, ◌∙◌, ap, arith, append_assoc}
use Rattle.std.proofs.lemmas.List.{append-nil, take-append-drop, take_rest}
use Rattle.std.proofs.Math.Seq.{take-add, drop-append-add}
use Rattle.desk_io.specs.Told.{Told, file_of}
use Rattle.desk_io.specs.KeptFiles.{KeepsFiles}
use Rattle.desk_io.specs.Changes.{Same, Passed, TellsCreated, PutsFile, Writes, WritesFront}
use Rattle.desk_io.specs.CreatedFiles.{CreatedBecomes}
use Rattle.desk_io.specs.ReadingOn.{PassedAtMost}

pub Same-keeps : (a b : Option Told) → Same a b → KeepsFiles a b
Same-keeps None b h = tt
Same-keeps (Some old) b h = (old.unread, h)

pub KeepsFiles-then : (a b c : Option Told) → KeepsFiles a b → KeepsFiles b c → KeepsFiles a c
KeepsFiles-then None b c p q = tt
KeepsFiles-then (Some old) b c p q =
    let r : KeepsFiles (Some (record old { unread = p.0 })) c = rw p.1 at q in r

pub Passed-nil : (a : Option Told) → Passed a a []
Passed-nil None = tt
Passed-nil (Some old) = (old.unread, refl, refl)

-- these bytes have been read, and then some more
pub Passed-then_at_most : (a b c : Option Told) (bytes : List ℕ) (more most : ℕ)
    → Passed a b bytes → PassedAtMost b c more → length bytes + more ≤ most
    → PassedAtMost a c most
Passed-then_at_most None b c bytes more most p q fits = tt
Passed-then_at_most (Some old) b c bytes more most p q fits =
    let r : PassedAtMost (Some (record old { unread = p.0 })) c more = rw p.2 at q in
    let left : drop (length bytes + r.0) old.unread ≡ drop r.0 p.0 =
    ap (λ xs. drop (length bytes + r.0) xs) p.1 ∙ drop-append-add bytes p.0 r.0 in (
      length bytes + r.0,
      omega (arith, fits, r.1),
      r.2 ∙ ap (λ xs. Some (record old { unread = xs })) (sym left),
    )

-- a write of nothing
pub Writes-nil : (a : Option Told) → TellsCreated true a → Writes a a []
Writes-nil None h = tt
Writes-nil (Some old) h = (
  h.0,
  h.1,
  old.files,
  h.2,
  h.3,
  (h.3 ∙ ap (λ xs. Some xs) (sym (append-nil h.1)), λ other differ. refl),
  refl,
)

-- the same file is put twice
PutsFile-then : (a b c : List (List ℕ × List ℕ)) (name xs ys : List ℕ) → PutsFile a b name xs
    → PutsFile b c name ys → PutsFile a c name ys
PutsFile-then a b c name xs ys p q = (q.0, λ other differ. q.1 other differ ∙ p.1 other differ)

-- two writes
pub Writes-then : (a b c : Option Told) (xs ys : List ℕ) → Writes a b xs → Writes b c ys
    → Writes a c (xs ++ ys)
Writes-then None b c xs ys p q = tt
Writes-then (Some old) b c xs ys p q =
    let r : Writes (Some (record old { files = p.2 })) c ys = rw p.6 at q in
    let name : r.0 ≡ p.0 = cc (p.3, r.3) in
    let named : PutsFile p.2 r.2 p.0 (r.1 ++ ys) = rw name at r.5 in
    let found : file_of p.2 p.0 ≡ Some r.1 = rw name at r.4 in
    let content : r.1 ≡ p.1 ++ xs = cc (p.5.0, found) in
    let whole : r.1 ++ ys ≡ p.1 ++ (xs ++ ys) =
    ap (λ zs. zs ++ ys) content ∙ append_assoc p.1 xs ys in
    let put : PutsFile p.2 r.2 p.0 (p.1 ++ (xs ++ ys)) = rw whole at named in (
      p.0,
      p.1,
      r.2,
      p.3,
      p.4,
      PutsFile-then old.files p.2 r.2 p.0 (p.1 ++ xs) (p.1 ++ (xs ++ ys)) p.5 put,
      r.6,
    )

-- a write of the bytes from `at`, of which n were taken
pub Writes-more : (a b c : Option Told) (bytes : List ℕ) (at n : ℕ) → Writes a b (take at bytes)
    → Writes b c (take n (take (length bytes - at) (drop at bytes)))
    → Writes a c (take (at + n) bytes)
Writes-more a b c bytes at n p q =
    let r : Writes b c (take n (drop at bytes)) = rw (take_rest bytes at) at q in
    rw (take-add at n bytes) (Writes-then a b c (take at bytes) (take n (drop at bytes)) p r)

-- bytes are written up to a fault
pub Writes-fault : (a b c : Option Told) (bytes : List ℕ) (at : ℕ) → Writes a b (take at bytes)
    → Same b c → WritesFront a c bytes
Writes-fault None b c bytes at p q = tt
Writes-fault (Some old) b c bytes at p q =
    let r : Same (Some (record old { files = p.2 })) c = rw p.6 at q in (
      take at bytes,
      drop at bytes,
      sym (take-append-drop at bytes),
      (p.0, p.1, p.2, p.3, p.4, p.5, r),
    )

-- the created file held a text of one kind, and grew to one of another kind
pub Writes-becomes : (Before After : List ℕ → Type 0) (a b : Option Told) (added : List ℕ)
    → Writes a b added → ((text : List ℕ) → Before text → After (text ++ added))
    → CreatedBecomes Before After a b
Writes-becomes Before After None b added p more = tt
Writes-becomes Before After (Some old) b added p more = λ name held.
    let named : p.0 ≡ name = cc (p.3, held.1) in
    let found : file_of old.files name ≡ Some p.1 = rw named at p.4 in
    let content : p.1 ≡ held.0 = cc (held.2, found) in
    let put : file_of p.2 name ≡ Some (p.1 ++ added) = rw named at p.5.0 in
    let now : file_of p.2 name ≡ Some (held.0 ++ added) = rw content at put in
    rw p.6 (held.0 ++ added, held.1, now, more held.0 held.3)
