-- Things that are read one after the other, without marks between them.
use Rattle.std.proofs.Common.{◌≡◌, List, [], ◌∷◌, ◌++◌, map, refl, ap, sym, ◌∙◌, subst}
use Rattle.std.proofs.Common.{append_assoc, Vec, Global}
use Rattle.std.proofs.lemmas.List.{append-nil, map-append}
use Rattle.kore_text.specs.TokenStream.{Stream}
use Rattle.kore_text.specs.Grammar.{Requirement, Spelling, in_order}
use Rattle.kore_text.specs.Apart.{Apart}
use Rattle.kore_ast.specs.Reading.{Has, Reads}

-- these things of a sequence were read; the requirements `k` follow the sequence
pub record Follows {T : Type 0} (spell : T → Spelling) (done : List T) (k : List Requirement)
    (e s r : Stream) : Type 0 where
  pub complete : (all : List T) → Has (in_order (map spell all) k) s e
      → (rest : List T) × ((all ≡ done ++ rest) × Has (in_order (map spell rest) k) r e)

-- no thing of this kind is spelled here
abbrev pub No : {T : Type 0} → (T → Spelling) → Stream → Type 0
No {T} spell s = (u : T) (k : List Requirement) (e : Stream) → Has (spell u k) s e → ⊥

-- no opening brace follows
abbrev pub Parted : {T : Type 0} → (T → Spelling) → List Requirement → Stream → Type 0
Parted {T} spell k e = (us : List T) → Apart (in_order (map spell us) k) e

pub follows-start : {T : Type 0} (spell : T → Spelling) (k : List Requirement) (e s : Stream)
    → Follows spell [] k e s s
follows-start spell k e s = record { complete = λ all h. (all, (refl, h)) }

one-more : {T : Type 0} (spell : T → Spelling) (rest : List T) (k : List Requirement)
    (e mid : Stream) → (Has k mid e → ⊥) → Has (in_order (map spell rest) k) mid e
    → (u : T) × (us : List T) × ((rest ≡ u ∷ us) × Has (spell u (in_order (map spell us) k)) mid e)
one-more spell [] k e mid n h = absurd (n h)
one-more spell (u ∷ us) k e mid n h = (u, us, (refl, h))

pub follows-more : {T : Type 0} (spell : T → Spelling) (done : List T) (t : T)
    (k : List Requirement) (e s mid last : Stream) → Follows spell done k e s mid
    → (Has k mid e → ⊥) → Parted spell k e → Reads spell t mid last
    → Follows spell (done ++ (t ∷ [])) k e s last
follows-more {T} spell done t k e s mid last h n a i = record {
  complete = λ all g.
      let c = h.complete all g in
      let m = one-more spell c.0 k e mid n c.1.1 in
      let x = i.exact m.0 (in_order (map spell m.1) k) e (a m.1) m.2.1 in (
        m.1,
        (
          c.1.0 ∙ ap (λ xs. done ++ xs) m.2.0 ∙ ap (λ y. done ++ (y ∷ m.1)) x.0
              ∙ sym (append_assoc done (t ∷ []) m.1),
          x.1,
        ),
      );
}

none-more : {T : Type 0} (spell : T → Spelling) (rest : List T) (k : List Requirement)
    (e mid : Stream) → No spell mid → Has (in_order (map spell rest) k) mid e
    → (rest ≡ []) × Has k mid e
none-more spell [] k e mid n h = (refl, h)
none-more spell (u ∷ us) k e mid n h = absurd (n u (in_order (map spell us) k) e h)

pub follows-end : {T : Type 0} (spell : T → Spelling) (done : List T) (k : List Requirement)
    (e s mid : Stream) → Follows spell done k e s mid → No spell mid → (all : List T)
    → Has (in_order (map spell all) k) s e → (all ≡ done) × Has k mid e
follows-end spell done k e s mid h n all g =
    let c = h.complete all g in
    let x = none-more spell c.0 k e mid n c.1.1 in
    (c.1.0 ∙ ap (λ xs. done ++ xs) x.0 ∙ append-nil done, x.1)

pub vector-start : {X T : Type 0} (plain : X → T) (spell : T → Spelling) (v : Vec X Global)
    (k : List Requirement) (e s : Stream) → v.items ≡ []
    → Follows spell (map plain v.items) k e s s
vector-start plain spell v k e s p =
    subst (λ xs. Follows spell (map plain xs) k e s s) (sym p) (follows-start spell k e s)

pub vector-more : {X T : Type 0} (plain : X → T) (spell : T → Spelling) (v w : Vec X Global) (x : X)
    (k : List Requirement) (e s mid last : Stream) → w.items ≡ v.items ++ (x ∷ [])
    → Follows spell (map plain v.items) k e s mid → (Has k mid e → ⊥) → Parted spell k e
    → Reads spell (plain x) mid last → Follows spell (map plain w.items) k e s last
vector-more plain spell v w x k e s mid last p h n a i =
    subst (λ xs. Follows spell xs k e s last)
    (sym (map-append plain v.items (x ∷ [])) ∙ ap (map plain) (sym p))
    (follows-more spell (map plain v.items) (plain x) k e s mid last h n a i)
