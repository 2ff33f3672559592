-- The first fault of a text is unique.
use Rattle.std.proofs.Common.{◌≡◌, ◌≤◌, ◌<◌, ℕ, List, [], ◌∷◌, ◌++◌, ◌⊎◌, Some, refl, ap, sym, ◌∙◌}
use Rattle.std.proofs.Common.{subst, arith, inl, inr}
use Rattle.kore_text.specs.declared.faults.TextFault.{TextFault}
use Rattle.kore_text.specs.declared.faults.TextFault.TheVariants.{Lex, Syntax, Deep}
use Rattle.kore_text.specs.TokenStream.{KoreToken, Stream, end, no_token_at, token, token_stream}
use Rattle.kore_text.specs.Faults.{IsEmptyFold, PlacedToken, followed_by, open_after, Begins}
use Rattle.kore_text.specs.Faults.{IsGood, Stops, GoesDeep, Follows, HasFault, IsFirstFaultOfText}
use Rattle.kore_text.specs.Faults.{IsPattern, IsDefinition}
use Rattle.kore_text.specs.Depth.{opened}
use Rattle.kore_text.specs.TextLaws.{DefinitionFaultIsUnique, PatternFaultIsUnique}

pub followed_by-append : (ts us : List PlacedToken) (s : Stream)
    → followed_by (ts ++ us) s ≡ followed_by ts (followed_by us s)
followed_by-append [] us s = refl
followed_by-append (t ∷ ts) us s = ap (token t.0 t.1) (followed_by-append ts us s)

append-once : (ts : List PlacedToken) (t : PlacedToken) (us : List PlacedToken) (s : Stream)
    → followed_by (ts ++ t ∷ us) s ≡ followed_by (ts ++ t ∷ []) (followed_by us s)
append-once ts t us s =
    followed_by-append ts (t ∷ us) s ∙ sym (followed_by-append ts (t ∷ []) (followed_by us s))

-- ---- two ways to part a stream

-- the second part of the stream begins with a token that is among the other tokens
pub record Longer (ts : List PlacedToken) (r : Stream) (us : List PlacedToken) (q : Stream) :
    Type 0 where
  pub next : PlacedToken
  pub more : List PlacedToken
  pub tokens : us ≡ ts ++ next ∷ more
  pub rest : r ≡ token next.0 next.1 (followed_by more q)

longer-cons : (t u : PlacedToken) (ts : List PlacedToken) (r : Stream) (us : List PlacedToken)
    (q : Stream) → t ≡ u → Longer ts r us q → Longer (t ∷ ts) r (u ∷ us) q
longer-cons t u ts r us q same l =
    record {
      next = l.next;
      more = l.more;
      tokens = ap (λ (x : PlacedToken). x ∷ us) (sym same) ∙ ap (λ xs. t ∷ xs) l.tokens;
      rest = l.rest;
    }

abbrev Compared : List PlacedToken → Stream → List PlacedToken → Stream → Type 0
Compared ts r us q = ((ts ≡ us) × (r ≡ q)) ⊎ (Longer ts r us q ⊎ Longer us q ts r)

token-is : (t u : KoreToken) (p q : ℕ) (r s : Stream) → token t p r ≡ token u q s → t ≡ u
token-is t u p q r s e = cc

place-is : (t u : KoreToken) (p q : ℕ) (r s : Stream) → token t p r ≡ token u q s → p ≡ q
place-is t u p q r s e = cc

rest-is : (t u : KoreToken) (p q : ℕ) (r s : Stream) → token t p r ≡ token u q s → r ≡ s
rest-is t u p q r s e = cc

placed-is : (t u : PlacedToken) → t.0 ≡ u.0 → t.1 ≡ u.1 → t ≡ u
placed-is t u e f =
    let first : (t.0, t.1) ≡ (u.0, t.1) = ap (λ (x : KoreToken). (x, t.1)) e in
    let second : (u.0, t.1) ≡ (u.0, u.1) = ap (λ (x : ℕ). (u.0, x)) f in first ∙ second

compared-cons : (t u : PlacedToken) (ts : List PlacedToken) (r : Stream) (us : List PlacedToken)
    (q : Stream) → t ≡ u → Compared ts r us q → Compared (t ∷ ts) r (u ∷ us) q
compared-cons t u ts r us q same c = elim c [
  | inl e ↦ inl (ap (λ (x : PlacedToken). x ∷ ts) same ∙ ap (λ xs. u ∷ xs) e.0, e.1)
  | inr l ↦ inr (elim l [
    | inl more ↦ inl (longer-cons t u ts r us q same more)
    | inr less ↦ inr (longer-cons u t us q ts r (sym same) less)
  ])
]

compared : (ts us : List PlacedToken) (r q : Stream) → followed_by ts r ≡ followed_by us q
    → Compared ts r us q
compared [] [] r q e = inl (refl, e)
compared [] (u ∷ us) r q e = inr (inl (record { next = u; more = us; tokens = refl; rest = e }))
compared (t ∷ ts) [] r q e =
    inr (inr (record { next = t; more = ts; tokens = refl; rest = sym e }))
compared (t ∷ ts) (u ∷ us) r q e =
    compared-cons t u ts r us q
    (placed-is t u (token-is t.0 u.0 t.1 u.1 (followed_by ts r) (followed_by us q) e)
    (place-is t.0 u.0 t.1 u.1 (followed_by ts r) (followed_by us q) e))
    (compared ts us r q (rest-is t.0 u.0 t.1 u.1 (followed_by ts r) (followed_by us q) e))

-- ---- no fault is among good tokens

no-fault-at : (L : Stream → Type 0) (n : ℕ) (ts : List PlacedToken) (t : PlacedToken)
    (after : Stream) (f : TextFault) → Begins L (ts ++ t ∷ [])
    → opened t.0 (open_after ts n) ≤ 500 → (IsEmptyFold t.0 after → ⊥)
    → Follows L n ts (token t.0 t.1 after) f → ⊥
no-fault-at L n ts t after (Lex at) b l filled h = absurd (let z : ⊥ = cc in z)
no-fault-at L n ts t after (Syntax at) b l filled h =
    elim h.1 [ inl never ↦ never b | inr empty ↦ filled empty ]
no-fault-at L n ts t after (Deep at) b l filled h = absurd (omega (arith, h.2, l))

never-before : (L : Stream → Type 0) (n : ℕ) (ts us : List PlacedToken) (r q : Stream)
    (f : TextFault) → IsGood L n us q → Follows L n ts r f → Longer ts r us q → ⊥
never-before L n ts us r q f g h l =
    no-fault-at L n ts l.next (followed_by l.more q) f (
      followed_by l.more g.begins.0,
      subst L (append-once ts l.next l.more g.begins.0)
          (subst (λ (xs : List PlacedToken). L (followed_by xs g.begins.0)) l.tokens g.begins.1),
    ) (g.shallow ts l.next l.more l.tokens) (g.filled ts l.next l.more l.tokens)
    (subst (λ (x : Stream). Follows L n ts x f) l.rest h)

-- ---- there is only one fault at a place

open-few : (ts : List PlacedToken) (n : ℕ) → n ≤ 500
    → ((before : List PlacedToken) (t : PlacedToken) (after : List PlacedToken)
    → ts ≡ before ++ t ∷ after → opened t.0 (open_after before n) ≤ 500)
    → open_after ts n ≤ 500
open-few [] n l h = l
open-few (t ∷ ts) n l h =
    open-few ts (opened t.0 n) (h [] t ts refl)
    (λ before u after e. h (t ∷ before) u after (ap (λ xs. t ∷ xs) e))

deep-or-stops : (L : Stream → Type 0) (n : ℕ) (ts : List PlacedToken) (r : Stream) (a b : ℕ)
    → open_after ts n ≤ 500 → Stops L ts r a → GoesDeep L n ts r b → ⊥
deep-or-stops L n ts (end e) a b l h d = d
deep-or-stops L n ts (no_token_at e) a b l h d = d
deep-or-stops L n ts (token t p r) a b l h d = elim h.1 [
  | inl never ↦ never d.1
  | inr empty ↦
      let z : opened t (open_after ts n) ≡ open_after ts n =
      ap (λ (u : KoreToken). opened u (open_after ts n)) empty.1 in
      absurd (omega (arith, z, d.2, l))
]

same-stop : (L : Stream → Type 0) (ts : List PlacedToken) (r : Stream) (a b : ℕ) → Stops L ts r a
    → Stops L ts r b → a ≡ b
same-stop L ts (end e) a b g h = g.0 ∙ sym h.0
same-stop L ts (no_token_at e) a b g h = absurd g
same-stop L ts (token t p r) a b g h = g.0 ∙ sym h.0

same-deep : (L : Stream → Type 0) (n : ℕ) (ts : List PlacedToken) (r : Stream) (a b : ℕ)
    → GoesDeep L n ts r a → GoesDeep L n ts r b → a ≡ b
same-deep L n ts (end e) a b g h = absurd g
same-deep L n ts (no_token_at e) a b g h = absurd g
same-deep L n ts (token t p r) a b g h = g.0 ∙ sym h.0

one-fault : (L : Stream → Type 0) (n : ℕ) (ts : List PlacedToken) (r : Stream) (f g : TextFault)
    → open_after ts n ≤ 500 → Follows L n ts r f → Follows L n ts r g → f ≡ g
one-fault L n ts r (Lex a) (Lex b) l h k =
    let z : no_token_at a ≡ no_token_at b = sym h ∙ k in ap Lex (let q : a ≡ b = cc in q)
one-fault L n ts r (Lex a) (Syntax b) l h k =
    absurd (subst (λ (x : Stream). Stops L ts x b) h k)
one-fault L n ts r (Lex a) (Deep b) l h k =
    absurd (subst (λ (x : Stream). GoesDeep L n ts x b) h k)
one-fault L n ts r (Syntax a) (Lex b) l h k =
    absurd (subst (λ (x : Stream). Stops L ts x a) k h)
one-fault L n ts r (Syntax a) (Syntax b) l h k = ap Syntax (same-stop L ts r a b h k)
one-fault L n ts r (Syntax a) (Deep b) l h k = absurd (deep-or-stops L n ts r a b l h k)
one-fault L n ts r (Deep a) (Lex b) l h k =
    absurd (subst (λ (x : Stream). GoesDeep L n ts x a) k h)
one-fault L n ts r (Deep a) (Syntax b) l h k = absurd (deep-or-stops L n ts r b a l k h)
one-fault L n ts r (Deep a) (Deep b) l h k = ap Deep (same-deep L n ts r a b h k)

unique : (L : Stream → Type 0) (s : Stream) (f g : TextFault) → HasFault L 0 s f
    → HasFault L 0 s g → f ≡ g
unique L s f g h k = elim (compared h.good k.good h.rest k.rest (sym h.is ∙ k.is)) [
  | inl same ↦
      let there : Follows L 0 h.good h.rest g =
      subst (λ (r : Stream). Follows L 0 h.good r g) (sym same.1)
      (subst (λ (ts : List PlacedToken). Follows L 0 ts k.rest g) (sym same.0) k.next) in
      one-fault L 0 h.good h.rest f g
      (open-few h.good 0 (omega arith) h.are_good.shallow) h.next there
  | inr other ↦ absurd (elim other [
    | inl more ↦ never-before L 0 h.good k.good h.rest k.rest f k.are_good h.next more
    | inr less ↦ never-before L 0 k.good h.good k.rest h.rest g h.are_good k.next less
  ])
]

pub definition-unique : DefinitionFaultIsUnique
definition-unique bytes f g = unique IsDefinition (token_stream bytes) f g

pub pattern-unique : PatternFaultIsUnique
pattern-unique bytes f g = unique IsPattern (token_stream bytes) f g
