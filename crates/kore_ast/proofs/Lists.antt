-- Reading a list item by item.
use Rattle.std.proofs.Common.{◌≡◌, ℕ, Bool, true, false, not, ◌||◌, ◌==◌, List, [], ◌∷◌, ◌++◌, map}
use Rattle.std.proofs.Common.{length, Some, refl, ap, sym, ◌∙◌, subst, append_assoc, arith, Vec}
use Rattle.std.proofs.Common.{Global, vec_len, if◌then◌else◌, rules}
use Rattle.std.proofs.lemmas.List.{append-nil, map-append}
use Rattle.kore_text.specs.TokenStream.{mark, Stream}
use Rattle.kore_text.specs.Grammar.{Requirement, any, Spelling, listed, more_listed}
use Rattle.kore_text.specs.Apart.{Apart, is_mark}
use Rattle.kore_ast.specs.Streams.{after, seen, is_over}
use Rattle.kore_ast.specs.Reading.{Has, Reads, spell_list, behind_comma, is_closing}
use Rattle.kore_ast.proofs.Steps.{any-step, not-true, not-false}

abbrev pub is_empty : {T : Type 0} → List T → Bool
is_empty [] = true
is_empty (x ∷ xs) = false

-- what comes next after these items
abbrev pub go_on : {T : Type 0} → (T → Spelling) → ℕ → List T → List T → Spelling
go_on spell close [] rest k = listed (map spell rest) close k
go_on spell close (d ∷ ds) rest k = more_listed (map spell rest) close k

-- these items of a list were read
pub record Keeps {T : Type 0} (spell : T → Spelling) (close : ℕ) (done : List T) (s r : Stream) :
    Type 0 where
  pub complete : (all : List T) (k : List Requirement) (e : Stream)
      → Has (spell_list spell close all k) s e
      → (rest : List T) × ((all ≡ done ++ rest) × Has (go_on spell close done rest k) r e)

pub keeps-start : {T : Type 0} (spell : T → Spelling) (close : ℕ) (s : Stream)
    → Keeps spell close [] s s
keeps-start spell close s = record { complete = λ all k e h. (all, (refl, h)) }

go_on-more : {T : Type 0} (spell : T → Spelling) (close : ℕ) (done : List T) (t : T) (rest : List T)
    (k : List Requirement)
    → go_on spell close (done ++ (t ∷ [])) rest k ≡ more_listed (map spell rest) close k
go_on-more spell close [] t rest k = refl
go_on-more spell close (d ∷ ds) t rest k = refl

same-byte : (c : ℕ) → is_mark c (mark c) ≡ true
same-byte c = search rules

-- the closing mark is no item
closed : (close : ℕ) (k : List Requirement) (s e : Stream) → is_over close (seen s) ≡ false
    → Has (any (mark close) ∷ k) s e → ⊥
closed close k s e n h =
    let x = any-step (mark close) k s e h in
    let z : false ≡ true = sym n ∙ ap (is_over close) x.0 ∙ same-byte close in let y : ⊥ = cc in y

-- if another item comes, the rest of the list begins with an item
from-next : {T : Type 0} (spell : T → Spelling) (close : ℕ) (done rest : List T) (s e : Stream)
    (k : List Requirement) → is_over close (seen s) ≡ false
    → Has (go_on spell close done rest k) s e
    → (u : T) × (us : List T)
    × ((rest ≡ u ∷ us)
    × Has (spell u (more_listed (map spell us) close k))
    (if is_empty done then s else after s) e)
from-next spell close [] [] s e k n h = absurd (closed close k s e n h)
from-next spell close [] (u ∷ us) s e k n h = (u, us, (refl, h))
from-next spell close (d ∷ ds) [] s e k n h = absurd (closed close k s e n h)
from-next spell close (d ∷ ds) (u ∷ us) s e k n h = (u, us, (refl, (any-step (mark 44) _ s e h).1))

-- no opening brace follows an item
apart-more : {T : Type 0} (spell : T → Spelling) (close : ℕ) (us : List T) (k : List Requirement)
    (e : Stream) → is_mark 123 (mark close) ≡ false
    → Apart (more_listed (map spell us) close k) e
apart-more spell close [] k e h = h
apart-more spell close (u ∷ us) k e h = refl

pub keeps-more : {T : Type 0} (spell : T → Spelling) (close : ℕ) (done : List T) (t : T)
    (s mid last : Stream) → is_mark 123 (mark close) ≡ false → Keeps spell close done s mid
    → is_over close (seen mid) ≡ false
    → Reads spell t (if is_empty done then mid else after mid) last
    → Keeps spell close (done ++ (t ∷ [])) s last
keeps-more {T} spell close done t s mid last a h n i = record {
  complete = λ all k e g.
      let c = h.complete all k e g in
      let m = from-next spell close done c.0 mid e k n c.1.1 in
      let x =
      i.exact m.0 (more_listed (map spell m.1) close k) e (apart-more spell close m.1 k e a)
      m.2.1 in (
        m.1,
        (
          c.1.0 ∙ ap (λ xs. done ++ xs) m.2.0 ∙ ap (λ y. done ++ (y ∷ m.1)) x.0
              ∙ sym (append_assoc done (t ∷ []) m.1),
          subst (λ ws. Has ws last e) (sym (go_on-more spell close done t m.1 k)) x.1,
        ),
      );
}

-- if a thing of this kind begins here, the list is not over
pub record Begins {T : Type 0} (spell : T → Spelling) (close : ℕ) : Type 0 where
  pub open_at : (u : T) (k : List Requirement) (s e : Stream) → Has (spell u k) s e
      → is_over close (seen s) ≡ false

contrary : (b : Bool) → b ≡ true → b ≡ false → ⊥
contrary b h e = let z : true ≡ false = sym h ∙ e in let y : ⊥ = cc in y

from-end : {T : Type 0} (spell : T → Spelling) (close : ℕ) (done rest : List T) (s e : Stream)
    (k : List Requirement) → Begins spell close → is_over close (Some (mark 44)) ≡ false
    → is_over close (seen s) ≡ true → Has (go_on spell close done rest k) s e
    → (rest ≡ []) × Has k (after s) e
from-end spell close [] [] s e k b c o h = (refl, (any-step (mark close) k s e h).1)
from-end spell close [] (u ∷ us) s e k b c o h = absurd (contrary _ o (b.open_at u _ s e h))
from-end spell close (d ∷ ds) [] s e k b c o h = (refl, (any-step (mark close) k s e h).1)
from-end spell close (d ∷ ds) (u ∷ us) s e k b c o h =
    absurd (contrary _ o (ap (is_over close) (any-step (mark 44) _ s e h).0 ∙ c))

pub keeps-end : {T : Type 0} (spell : T → Spelling) (close : ℕ) (done : List T) (s mid : Stream)
    → Begins spell close → is_over close (Some (mark 44)) ≡ false → Keeps spell close done s mid
    → is_over close (seen mid) ≡ true
    → Reads (spell_list spell close) done s (after mid)
keeps-end spell close done s mid b n h o = record {
  exact = λ all k e a g.
      let c = h.complete all k e g in
      let x = from-end spell close done c.0 mid e k b n o c.1.1 in
      (c.1.0 ∙ ap (λ xs. done ++ xs) x.0 ∙ append-nil done, x.1);
}

-- a closing mark is neither an opening brace nor a comma
pub record Closing (c : ℕ) : Type 0 where
  pub apart : is_mark 123 (mark c) ≡ false
  pub comma : is_over c (Some (mark 44)) ≡ false

pick : (c n : ℕ) (P : ℕ → Type 0) → (c == n) ≡ true → P n → P c
pick c n P e h = let f : c ≡ n = search (rules, e) in subst P (sym f) h

decide : (c : ℕ) (a b d : Bool) → (c == 125) ≡ a → (c == 41) ≡ b → (c == 93) ≡ d
    → (a || b || d) ≡ true → Closing c
decide c true b d e f g h = pick c 125 Closing e (record { apart = refl; comma = refl })
decide c false true d e f g h = pick c 41 Closing f (record { apart = refl; comma = refl })
decide c false false true e f g h = pick c 93 Closing g (record { apart = refl; comma = refl })
decide c false false false e f g h = let z : false ≡ true = h in absurd (let y : ⊥ = cc in y)

pub closing : (c : ℕ) → is_closing c ≡ true → Closing c
closing c h = decide c (c == 125) (c == 41) (c == 93) refl refl refl h

not_zero : (n : ℕ) → (n ≡ 0 → ⊥) → (n == 0) ≡ false
not_zero n h = search (rules, h)

empty-list : {X T : Type 0} (f : X → T) (xs : List X) (n : ℕ) (b : Bool) → length xs ≡ n
    → b ≡ (n == 0) → b ≡ is_empty (map f xs)
empty-list f [] n b h e = e ∙ ap (λ m. m == 0) (sym h)
empty-list f (x ∷ xs) n b h e = e ∙ not_zero n (λ z. omega (arith, h, z))

-- the tree list of a vector without items is empty
pub empty-vec : {X T : Type 0} (f : X → T) (v : Vec X Global) (b : Bool) → b ≡ (vec_len v == 0)
    → b ≡ is_empty (map f v.items)
empty-vec f v b e = empty-list f v.items v.len b (sym v.ok.0) e

pub reads-is : {T : Type 0} (spell : T → Spelling) (x y : T) (s r : Stream) → x ≡ y
    → Reads spell x s r → Reads spell y s r
reads-is spell x y s r e h = subst (λ v. Reads spell v s r) e h

comma-later : (a b c : Bool) (close : ℕ) (mid : Stream) → is_over close (seen mid) ≡ false → a ≡ b
    → behind_comma a close mid ≡ (if b then mid else after mid)
comma-later a b c close mid o e =
    subst (λ v. (if v then after mid else (if a then mid else after mid))
    ≡ (if b then mid else after mid)) (sym o)
    (ap (λ v. if v then mid else after mid) e)

-- another item was read
pub list-more : {X T : Type 0} (plain : X → T) (spell : T → Spelling) (close : ℕ)
    (v w : Vec X Global) (x : X) (s mid next last : Stream) (first comes : Bool)
    → is_closing close ≡ true → first ≡ (vec_len v == 0) → comes ≡ not (is_over close (seen mid))
    → comes ≡ true → next ≡ behind_comma first close mid → Reads spell (plain x) next last
    → w.items ≡ v.items ++ (x ∷ []) → Keeps spell close (map plain v.items) s mid
    → Keeps spell close (map plain w.items) s last
list-more plain spell close v w x s mid next last first comes c f n o g i p h =
    let q : is_over close (seen mid) ≡ false = not-true (is_over close (seen mid)) comes n o in
    let j =
    subst (λ u. Reads spell (plain x) u last) (g
    ∙ comma-later first (is_empty (map plain v.items)) first close mid q
    (empty-vec plain v first f)) i in
    subst (λ xs. Keeps spell close xs s last)
    (sym (map-append plain v.items (x ∷ [])) ∙ ap (map plain) (sym p))
    (keeps-more spell close (map plain v.items) (plain x) s mid last (closing close c).apart h q j)

-- the list is over
pub list-done : {X T : Type 0} (plain : X → T) (spell : T → Spelling) (close : ℕ) (v : Vec X Global)
    (s mid next : Stream) (first comes : Bool) → is_closing close ≡ true → Begins spell close
    → comes ≡ not (is_over close (seen mid)) → comes ≡ false → next ≡ behind_comma first close mid
    → Keeps spell close (map plain v.items) s mid
    → Reads (spell_list spell close) (map plain v.items) s next
list-done plain spell close v s mid next first comes c b n o g h =
    let q : is_over close (seen mid) ≡ true = not-false (is_over close (seen mid)) comes n o in
    let e : next ≡ after mid =
    g ∙ ap (λ u. if u then after mid else (if first then mid else after mid)) q in
    subst (λ u. Reads (spell_list spell close) (map plain v.items) s u) (sym e)
    (keeps-end spell close (map plain v.items) s mid b (closing close c).comma h q)

pub list-start : {X T : Type 0} (plain : X → T) (spell : T → Spelling) (close : ℕ)
    (v : Vec X Global) (s : Stream) → v.items ≡ [] → Keeps spell close (map plain v.items) s s
list-start plain spell close v s e =
    subst (λ xs. Keeps spell close (map plain xs) s s) (sym e) (keeps-start spell close s)
