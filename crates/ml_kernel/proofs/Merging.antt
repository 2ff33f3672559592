-- The hypotheses of several theorems, each once.
use Rattle.std.proofs.Common.{◌≡◌, ℕ, ◌<◌, ◌+◌, List, [], ◌∷◌, ◌++◌, ◌⊎◌, refl, sym, ◌∙◌, ap, subst}
use Rattle.std.proofs.Common.{inl, inr, arith, length, take, get_or, append_assoc, append-nil, zero}
use Rattle.std.proofs.Common.{suc}
use Rattle.std.specs.Prelude.{Contains}
use Rattle.std.specs.Borrow.{Bor}
use Rattle.std.proofs.lemmas.List.{take_more, map-append}
use Rattle.std.proofs.lemmas.List.Elements.{Contains-append_left, Contains-append_right}
use Rattle.std.proofs.lemmas.List.Elements.{Contains-push, Contains-append_cases}
use Rattle.ml_pat.specs.Patterns.{Pattern}
use Rattle.ml_kernel.specs.Rules.{Instance, Infers}
use Rattle.ml_kernel.specs.Theorems.{Theorem, Derivation, Derivations, by_rule, cited, hypothesis}
use Rattle.ml_kernel.specs.Theorems.{own_axiom, no_derivation, more_derivations, AddsNew}
use Rattle.ml_kernel.specs.Theorems.{all_hypotheses, conclusions, all_derivations, derivations}
use Rattle.ml_kernel.specs.Concluding.{Concludes, AllConclude, IsKept}
use Rattle.ml_kernel.specs.Lemmas.{instance, instances, HaveNoVariables}
use Rattle.ml_kernel.specs.StepView.{instance_of, instances_of}
use Rattle.ml_kernel.specs.Premises.{part_of, parts_of, theorems_of, AreKept}
use Rattle.ml_kernel.specs.declared.derivations.Inst.{Inst}
use Rattle.ml_kernel.specs.declared.rules.Rule.{Rule}
use Rattle.ml_kernel.specs.declared.theorems.Part.{Part}

pub AddsNew-append : (old xs mid ys new : List Pattern) → AddsNew old xs mid → AddsNew mid ys new
    → AddsNew old (xs ++ ys) new
AddsNew-append old [] mid ys new h k = subst (λ (o : List Pattern). AddsNew o ys new) h k
AddsNew-append old (x ∷ xs) mid ys new h k =
    elim h as (λ _. AddsNew old (x ∷ xs ++ ys) new) [
      | inl a ↦ inl (a.0, AddsNew-append old xs mid ys new a.1 k)
      | inr b ↦ inr (b.0, AddsNew-append (old ++ x ∷ []) xs mid ys new b.1 k)
    ]

-- one more pattern that is in the list already
pub AddsNew-there : (old xs new : List Pattern) (p : Pattern) → AddsNew old xs new → Contains new p
    → AddsNew old (xs ++ p ∷ []) new
AddsNew-there old xs new p h k = AddsNew-append old xs new (p ∷ []) new h (inl (k, refl))

-- one more pattern that is not in the list yet
pub AddsNew-new : (old xs new : List Pattern) (p : Pattern) → AddsNew old xs new
    → (Contains new p → ⊥) → AddsNew old (xs ++ p ∷ []) (new ++ p ∷ [])
AddsNew-new old xs new p h k = AddsNew-append old xs new (p ∷ []) (new ++ p ∷ []) h (inr (k, refl))

-- the old list is contained in the new one
pub Contains-AddsNew_old : (old xs new : List Pattern) (p : Pattern) → AddsNew old xs new
    → Contains old p → Contains new p
Contains-AddsNew_old old [] new p h k = subst (λ (o : List Pattern). Contains o p) (sym h) k
Contains-AddsNew_old old (x ∷ xs) new p h k =
    elim h as (λ _. Contains new p) [
      | inl a ↦ Contains-AddsNew_old old xs new p a.1 k
      | inr b ↦ Contains-AddsNew_old (old ++ x ∷ []) xs new p b.1
          (Contains-append_left old (x ∷ []) p k)
    ]

only : (x p : Pattern) (k : ℕ) → k < length (x ∷ []) → get_or (x ∷ []) k p ≡ p → x ≡ p
only x p zero lt e = e
only x p (suc k) lt e = absurd (omega (arith, lt))

first_or_later : (x : Pattern) (xs : List Pattern) (p : Pattern) → Contains (x ∷ xs) p
    → (x ≡ p) ⊎ Contains xs p
first_or_later x xs p k =
    elim (Contains-append_cases (x ∷ []) xs p k)
    [ inl a ↦ inl (only x p a.0 a.1 a.2) | inr b ↦ inr b ]

-- the added patterns are contained in the new list
pub Contains-AddsNew : (old xs new : List Pattern) (p : Pattern) → AddsNew old xs new
    → Contains xs p → Contains new p
Contains-AddsNew old [] new p h k = absurd (omega (arith, k.1))
Contains-AddsNew old (x ∷ xs) new p h k =
    elim h as (λ _. Contains new p) [
      | inl a ↦ elim (first_or_later x xs p k) [
        | inl e ↦ Contains-AddsNew_old old xs new p a.1
            (subst (λ (t : Pattern). Contains old t) e a.0)
        | inr c ↦ Contains-AddsNew old xs new p a.1 c
      ]
      | inr b ↦ elim (first_or_later x xs p k) [
        | inl e ↦ Contains-AddsNew_old (old ++ x ∷ []) xs new
            p b.1 (subst (λ (t : Pattern). Contains (old ++ x ∷ []) t) e (Contains-push old x))
        | inr c ↦ Contains-AddsNew (old ++ x ∷ []) xs new p b.1 c
      ]
    ]

-- the hypotheses of one more theorem
pub all_hypotheses-push : (ts : List Theorem) (t : Theorem)
    → all_hypotheses (ts ++ t ∷ []) ≡ all_hypotheses ts ++ t.hypotheses
all_hypotheses-push [] t = append-nil t.hypotheses
all_hypotheses-push (u ∷ ts) t = ap (λ hs. u.hypotheses ++ hs) (all_hypotheses-push ts t)
    ∙ sym (append_assoc u.hypotheses (all_hypotheses ts) t.hypotheses)

pub AreKept-push : (ts : List Theorem) (t : Theorem) → AreKept ts → IsKept t
    → AreKept (ts ++ t ∷ [])
AreKept-push [] t h k = (k, tt)
AreKept-push (u ∷ ts) t h k = (h.0, AreKept-push ts t h.1 k)

pub theorems_of-push : (ts : List (Bor Theorem)) (t : Bor Theorem)
    → theorems_of (ts ++ t ∷ []) ≡ theorems_of ts ++ t.now ∷ []
theorems_of-push [] t = refl
theorems_of-push (u ∷ ts) t = ap (λ us. u.now ∷ us) (theorems_of-push ts t)

abbrev with_last : Derivations → Derivation → Derivations
with_last no_derivation d = more_derivations d no_derivation
with_last (more_derivations e ds) d = more_derivations e (with_last ds d)

derivations-append : (ds : List Derivation) (d : Derivation)
    → derivations (ds ++ d ∷ []) ≡ with_last (derivations ds) d
derivations-append [] d = refl
derivations-append (e ∷ ds) d = ap (more_derivations e) (derivations-append ds d)

all_derivations-append : (ts : List Theorem) (t : Theorem)
    → all_derivations (ts ++ t ∷ []) ≡ with_last (all_derivations ts) t.derivation
all_derivations-append [] t = refl
all_derivations-append (u ∷ ts) t = ap (more_derivations u.derivation) (all_derivations-append ts t)

-- the derivation of one more theorem
pub derivations-push : (ds : List Derivation) (ts : List Theorem) (t : Theorem)
    → derivations ds ≡ all_derivations ts
    → derivations (ds ++ t.derivation ∷ []) ≡ all_derivations (ts ++ t ∷ [])
derivations-push ds ts t e =
    derivations-append ds t.derivation ∙ ap (λ rest. with_last rest t.derivation) e
    ∙ sym (all_derivations-append ts t)

-- the first items, and one more
pub next_taken : {X : Type 0} (xs : List X) (i : ℕ) (x : X) → i < length xs → x ≡ get_or xs i x
    → take (i + 1) xs ≡ take i xs ++ x ∷ []
next_taken xs i x lt is = take_more xs i x lt ∙ ap (λ y. take i xs ++ y ∷ []) (sym is)

-- one more pattern of a list is added
pub AddsNew-next_there : (old from new : List Pattern) (i : ℕ) (p : Pattern)
    → AddsNew old (take i from) new → i < length from → p ≡ get_or from i p → Contains new p
    → AddsNew old (take (i + 1) from) new
AddsNew-next_there old from new i p h lt is k =
    subst (λ (ps : List Pattern). AddsNew old ps new) (sym (next_taken from i p lt is))
    (AddsNew-there old (take i from) new p h k)

pub AddsNew-next_new : (old from mid new : List Pattern) (i : ℕ) (p : Pattern)
    → AddsNew old (take i from) mid → i < length from → p ≡ get_or from i p → (Contains mid p → ⊥)
    → new ≡ mid ++ p ∷ [] → AddsNew old (take (i + 1) from) new
AddsNew-next_new old from mid new i p h lt is k e =
    subst (λ (ps : List Pattern). AddsNew old ps new) (sym (next_taken from i p lt is))
    (subst (λ (o : List Pattern). AddsNew old (take i from ++ p ∷ []) o) (sym e)
    (AddsNew-new old (take i from) mid p h k))

-- the theorems behind the first references, and one more
pub theorems_of-next : (xs : List (Bor Theorem)) (i : ℕ) (x : Bor Theorem) → i < length xs
    → x ≡ get_or xs i x → theorems_of (take (i + 1) xs) ≡ theorems_of (take i xs) ++ x.now ∷ []
theorems_of-next xs i x lt is =
    ap theorems_of (next_taken xs i x lt is) ∙ theorems_of-push (take i xs) x

-- the hypotheses of one more theorem are added
pub merged-next : (xs : List (Bor Theorem)) (i : ℕ) (x : Bor Theorem) (mid new : List Pattern)
    → AddsNew [] (all_hypotheses (theorems_of (take i xs))) mid → i < length xs → x ≡ get_or xs i x
    → AddsNew mid (x.now).hypotheses new
    → AddsNew [] (all_hypotheses (theorems_of (take (i + 1) xs))) new
merged-next xs i x mid new h lt is k =
    subst (λ (hs : List Pattern). AddsNew [] hs new)
    (sym (ap all_hypotheses (theorems_of-next xs i x lt
    is) ∙ all_hypotheses-push (theorems_of (take i xs)) x.now))
    (AddsNew-append [] (all_hypotheses (theorems_of (take i xs))) mid x.now.hypotheses new h k)

pub AreKept-next : (xs : List (Bor Theorem)) (i : ℕ) (x : Bor Theorem)
    → AreKept (theorems_of (take i xs)) → i < length xs → x ≡ get_or xs i x → IsKept x.now
    → AreKept (theorems_of (take (i + 1) xs))
AreKept-next xs i x h lt is k =
    subst (λ (ts : List Theorem). AreKept ts) (sym (theorems_of-next xs i x lt is))
    (AreKept-push (theorems_of (take i xs)) x.now h k)

-- the derivation of one more theorem is kept
pub derivations-next : (xs : List (Bor Theorem)) (i : ℕ) (x : Bor Theorem)
    (old new : List Derivation) (d : Derivation)
    → derivations old ≡ all_derivations (theorems_of (take i xs)) → i < length xs
    → x ≡ get_or xs i x → d ≡ x.now.derivation → new ≡ old ++ d ∷ []
    → derivations new ≡ all_derivations (theorems_of (take (i + 1) xs))
derivations-next xs i x old new d h lt is e g =
    ap derivations (g ∙ ap (λ o. old ++ o ∷ []) e)
    ∙ derivations-push old (theorems_of (take i xs)) x.now h
    ∙ ap all_derivations (sym (theorems_of-next xs i x lt is))

parts_of-push : (ps : List Part) (p : Part)
    → parts_of (ps ++ p ∷ []) ≡ parts_of ps ++ part_of p ∷ []
parts_of-push [] p = refl
parts_of-push (q ∷ ps) p = ap (λ rest. part_of q ∷ rest) (parts_of-push ps p)

-- one more instance of a rule's variable is stored
pub parts-next : (xs : List Part) (i : ℕ) (x : Part) (old new : List Inst) (held : Inst)
    → instances_of old ≡ parts_of (take i xs) → i < length xs → x ≡ get_or xs i x
    → instance_of held ≡ part_of x → new ≡ old ++ held ∷ []
    → instances_of new ≡ parts_of (take (i + 1) xs)
parts-next xs i x old new held h lt is e g =
    ap instances_of g ∙ map-append instance_of old (held ∷ [])
    ∙ ap (λ rest. rest ++ instance_of held ∷ []) h
    ∙ ap (λ o. parts_of (take i xs) ++ o ∷ []) e ∙ sym (parts_of-push (take i xs) x)
    ∙ ap parts_of (sym (next_taken xs i x lt is))

-- with more hypotheses the derivation has the same conclusion
mutual
  pub Concludes-more : (hs hs' : List Pattern) (d : Derivation) (q : Pattern)
      → ((p : Pattern) → Contains hs p → Contains hs' p) → Concludes hs d q → Concludes hs' d q
  Concludes-more hs hs' (hypothesis p) q f k = (f p k.0, k.1)
  Concludes-more hs hs' (own_axiom n p new) q f k = k
  Concludes-more hs hs' (by_rule r is ds) q f k =
      (k.0, (k.1.0, AllConclude-more hs hs' ds k.0 f k.1.1))
  Concludes-more hs hs' (cited own p d ms ds) q f k =
      (k.0, (k.1.0, (k.1.1.0, AllConclude-more hs hs' ds (instances ms own) f k.1.1.1)))

  pub AllConclude-more : (hs hs' : List Pattern) (ds : Derivations) (ps : List Pattern)
      → ((p : Pattern) → Contains hs p → Contains hs' p) → AllConclude hs ds ps
      → AllConclude hs' ds ps
  AllConclude-more hs hs' no_derivation [] f k = tt
  AllConclude-more hs hs' no_derivation (p ∷ ps) f k = absurd k
  AllConclude-more hs hs' (more_derivations d ds) [] f k = absurd k
  AllConclude-more hs hs' (more_derivations d ds) (p ∷ ps) f k =
      (Concludes-more hs hs' d p f k.0, AllConclude-more hs hs' ds ps f k.1)

-- theorems whose hypotheses are all in the list conclude their conclusions from it
pub AllConclude-kept : (ts : List Theorem) (hs : List Pattern) → AreKept ts
    → ((p : Pattern) → Contains (all_hypotheses ts) p → Contains hs p)
    → AllConclude hs (all_derivations ts) (conclusions ts)
AllConclude-kept [] hs k f = tt
AllConclude-kept (t ∷ ts) hs k f = (
  Concludes-more t.hypotheses hs t.derivation t.conclusion
      (λ p c. f p (Contains-append_left t.hypotheses (all_hypotheses ts) p c)) k.0,
  AllConclude-kept ts hs k.1
      (λ p c. f p (Contains-append_right t.hypotheses (all_hypotheses ts) p c)),
)

-- the stored derivation of a theorem by a rule concludes its conclusion
pub rule-kept : (r : Rule) (is held : List Instance) (ts : List Theorem) (hs : List Pattern)
    (ds : List Derivation) (d : Derivation) (q c : Pattern) → Infers r is (conclusions ts) q
    → AreKept ts → AddsNew [] (all_hypotheses ts) hs → held ≡ is
    → derivations ds ≡ all_derivations ts → d ≡ by_rule r held (derivations ds) → c ≡ q
    → Concludes hs d c
rule-kept r is held ts hs ds d q c h k a e g last same =
    let below : AllConclude hs (all_derivations ts) (conclusions ts) =
    AllConclude-kept ts hs k
    (λ p there. Contains-AddsNew [] (all_hypotheses ts) hs p a there) in
    subst (λ (o : Pattern). Concludes hs d o) (sym same)
    (subst (λ (o : Derivation). Concludes hs o q)
    (sym (last ∙ ap (λ is'. by_rule r is' (derivations ds)) e ∙ ap (λ ds'. by_rule r is ds') g))
    (let whole : Concludes hs (by_rule r is (all_derivations ts)) q =
    (conclusions ts, (h, below)) in
    whole))

-- the stored derivation of a theorem by a lemma concludes its conclusion
pub cited-kept : (lemma : Theorem) (ms held : List Pattern) (ts : List Theorem) (hs : List Pattern)
    (ds : List Derivation) (d : Derivation) (q : Pattern) → IsKept lemma → HaveNoVariables ms
    → instance ms lemma.conclusion ≡ q → conclusions ts ≡ instances ms lemma.hypotheses → AreKept ts
    → AddsNew [] (all_hypotheses ts) hs → held ≡ ms → derivations ds ≡ all_derivations ts
    → d ≡ cited lemma.hypotheses lemma.conclusion lemma.derivation held (derivations ds)
    → Concludes hs d q
cited-kept lemma ms held ts hs ds d q l v c i k a e g last =
    let below : AllConclude hs (all_derivations ts) (conclusions ts) =
    AllConclude-kept ts hs k (λ p c'. Contains-AddsNew [] (all_hypotheses ts) hs p a c') in
    subst (λ (o : Derivation). Concludes hs o q)
    (sym (last ∙ ap (λ ms'. cited lemma.hypotheses lemma.conclusion lemma.derivation ms'
    (derivations
    ds)) e ∙ ap (λ ds'. cited lemma.hypotheses lemma.conclusion lemma.derivation ms ds') g))
    (let whole : Concludes hs
    (cited lemma.hypotheses lemma.conclusion lemma.derivation ms (all_derivations ts)) q =
    (l, (v, (c, subst (λ (ps : List Pattern). AllConclude hs (all_derivations ts) ps) i below))) in
    whole)

later : (old : List Pattern) (x : Pattern) (xs : List Pattern) (p : Pattern)
    → Contains old p ⊎ Contains xs p → Contains old p ⊎ Contains (x ∷ xs) p
later old x xs p (inl a) = inl a
later old x xs p (inr b) = inr (Contains-append_right (x ∷ []) xs p b)

-- each pattern of the new list was in the old one or was added
pub AddsNew-sources : (old xs new : List Pattern) (p : Pattern) → AddsNew old xs new
    → Contains new p → Contains old p ⊎ Contains xs p
AddsNew-sources old [] new p h k = inl (subst (λ (o : List Pattern). Contains o p) h k)
AddsNew-sources old (x ∷ xs) new p h k =
    elim h as (λ _. Contains old p ⊎ Contains (x ∷ xs) p) [
      | inl a ↦ later old x xs p (AddsNew-sources old xs new p a.1 k)
      | inr b ↦ elim (AddsNew-sources (old ++ x ∷ []) xs new p b.1 k) [
        | inl c ↦ elim
            (Contains-append_cases old (x ∷ []) p c)
            [ inl d ↦ inl d | inr e ↦ inr (Contains-append_left (x ∷ []) xs p e) ]
        | inr c ↦ inr (Contains-append_right (x ∷ []) xs p c)
      ]
    ]

pub Contains-AddsNew_only : (xs new : List Pattern) (p : Pattern) → AddsNew [] xs new
    → Contains new p → Contains xs p
Contains-AddsNew_only xs new p h k =
    elim (AddsNew-sources [] xs new p h k) [ inl a ↦ absurd (omega (arith, a.1)) | inr b ↦ b ]
