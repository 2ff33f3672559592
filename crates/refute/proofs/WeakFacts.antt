-- Facts on variables under a stronger hypothesis.
use Rattle.std.proofs.Common.{◌≡◌, ◌⊎◌, inl, inr, ◌<◌, ◌+◌, ℕ, zero, suc, List, [], ◌∷◌, ◌++◌, length}
use Rattle.std.proofs.Common.{Option, Some, None, IfSome, slice_get, get_or, refl, sym, ◌∙◌, ap, subst, arith}
use Rattle.std.proofs.lemmas.Option.{slice_get_within, slice_get-get_or}
use Rattle.ml_pat.specs.Patterns.{Pattern, imp, and, fun, var}
use Rattle.ml_pat.specs.Judgements.{IsPredicate}
use Rattle.ml_kernel.specs.Theorems.{Theorem}
use Rattle.ml_derived.specs.Implications.{AreLinked}
use Rattle.ml_derived.specs.Scopes.{Scope, IsOver, StaysWithin}
use Rattle.prove_term.specs.Contexts.{Context, HasContext, StaysIn}
use Rattle.prove_open.specs.Givens.{IsFactOn, IsGiven, HasFact}
use Rattle.prove_open.specs.declared.givens.Given.{Given}
use Rattle.refute.specs.Supposing.{IsWeakened}

some_same : {A : Type 0} (a b : A) → Some a ≡ Some b → a ≡ b
some_same a b h = cc

none_some : {A : Type 0} (a : A) → None ≡ Some a → ⊥
none_some a h = cc

-- ---- one fact after another

last_or_before : {X : Type 0} (xs : List X) (x y : X) (k : ℕ)
    → slice_get (xs ++ x ∷ []) k ≡ Some y
    → (slice_get xs k ≡ Some y) ⊎ ((k ≡ length xs) × (x ≡ y))
last_or_before [] x y zero h = inr (refl, some_same x y h)
last_or_before [] x y (suc k) h = absurd (none_some y h)
last_or_before (z ∷ zs) x y zero h = inl h
last_or_before {X = X} (z ∷ zs) x y (suc k) h = go (last_or_before zs x y k h)
  where
    go : (slice_get zs k ≡ Some y) ⊎ ((k ≡ length zs) × (x ≡ y))
        → (slice_get zs k ≡ Some y) ⊎ ((suc k ≡ suc (length zs)) × (x ≡ y))
    go (inl e) = inl e
    go (inr both) = inr (ap suc both.0, both.1)

one_longer : {X : Type 0} (xs : List X) (x : X) → length (xs ++ x ∷ []) ≡ length xs + 1
one_longer [] x = refl
one_longer (y ∷ xs) x = omega (arith, one_longer xs x)

get_there : {X : Type 0} (xs : List X) (k : ℕ) → k < length xs
    → (x : X) × (slice_get xs k ≡ Some x)
get_there [] k low = absurd (omega (arith, low))
get_there (x ∷ xs) zero low = (x, refl)
get_there (x ∷ xs) (suc k) low = get_there xs k (omega (arith, low))

-- the first k facts under the stronger hypothesis
pub record AreWeakened (weaker : Theorem) (facts new : List (Option Theorem)) (k : ℕ) : Type 0 where
  pub long : length new ≡ k
  pub each : (x : ℕ) (o : Option Theorem) → slice_get new x ≡ Some o
      → (was : Option Theorem) × (slice_get facts x ≡ Some was) × IsWeakened weaker was o

pub none_weakened : (weaker : Theorem) (facts : List (Option Theorem))
    → AreWeakened weaker facts [] 0
none_weakened weaker facts = record {
  long = refl;
  each = λ x o is. absurd (none_some o is);
}

pub one_weakened : (weaker : Theorem) (facts new : List (Option Theorem)) (k : ℕ)
    (was o : Option Theorem) → AreWeakened weaker facts new k → slice_get facts k ≡ Some was
    → IsWeakened weaker was o → AreWeakened weaker facts (new ++ o ∷ []) (k + 1)
one_weakened weaker facts new k was o before at is = record {
  long = one_longer new o ∙ ap (λ (n : ℕ). n + 1) before.long;
  each = λ x p there. go x p (last_or_before new o p x there);
}
  where
    go : (x : ℕ) (p : Option Theorem)
        → (slice_get new x ≡ Some p) ⊎ ((x ≡ length new) × (o ≡ p))
        → (q : Option Theorem) × (slice_get facts x ≡ Some q) × IsWeakened weaker q p
    go x p (inl there) = before.each x p there
    go x p (inr both) = (
      was,
      ap (slice_get facts) (both.0 ∙ before.long) ∙ at,
      subst (IsWeakened weaker was) both.1 is,
    )

-- ---- all facts

pub linked_fact : (cx : Context) (sorts : List ℕ) (g : Given) (r : Pattern) (weaker : Theorem)
    (x : ℕ) (o : Option Theorem) → IsGiven cx sorts g → weaker.conclusion ≡ imp r g.hypothesis
    → slice_get g.facts.items x ≡ Some o
    → IfSome o (λ (t : Theorem). AreLinked weaker.conclusion t.conclusion)
linked_fact cx sorts g r weaker x None is says at = tt
linked_fact cx sorts g r weaker x (Some t) is says at =
    let fact : IsFactOn cx sorts g.hypothesis x t = is.facts x t at in
    (r, (g.hypothesis, (fun (var x) fact.number, (says, fact.says))))

pub item_at : {X : Type 0} (xs ys : List X) (i : ℕ) (x : X) → xs ≡ ys → i < length ys
    → x ≡ get_or xs i x → slice_get ys i ≡ Some x
item_at {X = X} xs ys i x same low is =
    slice_get-get_or ys i x low
    ∙ ap (λ (y : X). Some y) (ap (λ (zs : List X). get_or zs i x) (sym same) ∙ sym is)

weak_fact : (cx : Context) (sorts : List ℕ) (h r : Pattern) (weaker t : Theorem) (x : ℕ)
    (was : Option Theorem) → StaysIn cx weaker → weaker.conclusion ≡ imp r h
    → ((fact : Theorem) → was ≡ Some fact → IsFactOn cx sorts h x fact)
    → IsWeakened weaker was (Some t) → IsFactOn cx sorts r x t
weak_fact cx sorts h r weaker t x None stays says known is = absurd (none_some t (sym is))
weak_fact cx sorts h r weaker t x (Some fact) stays says known (made, same, chain, within) =
    let was : IsFactOn cx sorts h x fact = known fact refl in
    let one : made ≡ t = some_same made t (sym same) in
    let kept : StaysIn cx made = λ s has. within s tt (stays s has, (was.stays s has, tt)) in
    let holds : StaysIn cx t = subst (StaysIn cx) one kept in
    record {
      sort = was.sort;
      is_sort = was.is_sort;
      number = was.number;
      is_number = was.is_number;
      says =
          ap (λ (u : Theorem). u.conclusion) (sym one)
          ∙ chain r h (fun (var x) was.number) says was.says;
      stays = holds;
    }

pub weaker_stays : (cx : Context) (h d : Pattern) (weaker : Theorem)
    → ((s : Scope) → HasContext s cx → IsOver s h) → ((s : Scope) → HasContext s cx → IsOver s d)
    → StaysWithin (h ∷ d ∷ []) [] weaker → StaysIn cx weaker
weaker_stays cx h d weaker over also stays = λ s has. stays s (over s has, (also s has, tt)) tt

pub weak_given : (cx : Context) (sorts : List ℕ) (g n : Given) (d : Pattern) (weaker : Theorem)
    (k : ℕ) → IsGiven cx sorts g → IsPredicate d
    → ((s : Scope) → HasContext s cx → IsOver s d)
    → weaker.conclusion ≡ imp (and g.hypothesis d) g.hypothesis
    → StaysWithin (g.hypothesis ∷ d ∷ []) [] weaker
    → n.hypothesis ≡ and g.hypothesis d → AreWeakened weaker g.facts.items n.facts.items k
    → IsGiven cx sorts n
weak_given cx sorts g n d weaker k is predicate over says stays named facts = record {
  predicate = subst IsPredicate (sym named) (rw (is.predicate, predicate) refl);
  over = λ s has. subst (IsOver s) (sym named) (is.over s has, over s has);
  facts = λ x t there.
      let was : (o : Option Theorem) × (slice_get g.facts.items x ≡ Some o)
      × IsWeakened weaker o (Some t) = facts.each x (Some t) there in
      weak_fact cx sorts g.hypothesis n.hypothesis weaker t x was.0
      (weaker_stays cx g.hypothesis d weaker is.over over stays)
      (says ∙ ap (λ (p : Pattern). imp p g.hypothesis) (sym named))
      (λ fact same. is.facts x fact (was.1 ∙ ap (λ (o : Option Theorem). Some o) same)) was.2;
}

made_of : (weaker fact : Theorem) (o : Option Theorem) → IsWeakened weaker (Some fact) o
    → (t : Theorem) × (o ≡ Some t)
made_of weaker fact o is = (is.0, is.1)

pub weak_has : (weaker : Theorem) (g n : Given) (k x : ℕ)
    → AreWeakened weaker g.facts.items n.facts.items k → k ≡ length g.facts.items → HasFact g x
    → HasFact n x
weak_has weaker g n k x facts all (fact, at) =
    let low : x < length g.facts.items = slice_get_within g.facts.items x (Some fact) at in
    let there : (o : Option Theorem) × (slice_get n.facts.items x ≡ Some o) =
    get_there n.facts.items x (omega (arith, low, all, facts.long)) in
    let was : (q : Option Theorem) × (slice_get g.facts.items x ≡ Some q)
    × IsWeakened weaker q there.0 = facts.each x there.0 there.1 in
    let same : was.0 ≡ Some fact = some_same was.0 (Some fact) (sym was.1 ∙ at) in
    let made : (t : Theorem) × (there.0 ≡ Some t) =
    made_of weaker fact there.0 (subst (λ (q : Option Theorem). IsWeakened weaker q there.0) same
    was.2) in
    (made.0, there.1 ∙ ap (λ (o : Option Theorem). Some o) made.1)
