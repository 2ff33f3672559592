-- The patterns that replace a schema's pattern variables, and what follows for them.
use Rattle.std.proofs.Common.{◌≡◌, ◌<◌, ◌≤◌, ◌+◌, ℕ, zero, suc, slice_get, List, [], ◌∷◌, ◌++◌}
use Rattle.std.proofs.Common.{Some, length, take, get_or, inl, inr, refl, sym, ◌∙◌, ap, subst}
use Rattle.std.proofs.Common.{arith}
use Rattle.std.specs.Prelude.{All, Contains, ◌⊎◌}
use Rattle.std.specs.List.{AllZip}
use Rattle.std.proofs.lemmas.List.{take_more, take_all}
use Rattle.std.proofs.lemmas.Option.{slice_get_within, get_or_from_slice_get}
use Rattle.std.proofs.lemmas.List.Elements.{All-head, All-tail}
use Rattle.ml_pat.specs.Patterns.{Pattern, not, equal, member, fun, meta}
use Rattle.ml_pat.specs.PatternView.{pattern_of}
use Rattle.ml_pat.specs.declared.patterns.MForm.{MForm}
use Rattle.ml_pat.specs.declared.patterns.MForm.TheVariants as form
use Rattle.ml_pat.specs.declared.numbers.MSort.{MSort}
use Rattle.ml_kernel.specs.Lemmas.{instance, instances, IsMetaBelow, AreMetasBelow, HasNoVariable}
use Rattle.ml_kernel.specs.Lemmas.{HaveNoVariables}
use Rattle.ml_kernel.specs.Theorems.{Theorem, conclusions}
use Rattle.ml_derived.specs.Scopes.{Scope, AreOver, AreWithin, IsOver, IsWithin, CitesWithin}
use Rattle.ml_image.proofs.ImageLaws.{some_same}
use Rattle.prove_schema.specs.Using.{AreFacts, IsProved, by_fact, by_member, by_condition}
use Rattle.prove_schema.specs.Using.{by_negation, IsLastButCondition, IsUsable, IsUsed, StaysUsed}
use Rattle.prove_schema.specs.Giving.{CanProve, IsGiven, AreGiven, IsNegationAt, HasNegation}
use Rattle.prove_schema.specs.Giving.{IsNegationOf}

-- ---- facts

-- the fact at a place
pub record HasFactAt (qs : List Pattern) (ns : List ℕ) (i : ℕ) (t : Theorem) : Type 0 where
  pub element : Pattern
  pub there : slice_get qs i ≡ Some element
  pub number : ℕ
  pub sort : slice_get ns i ≡ Some number
  pub says : t.conclusion ≡ fun element number
  pub closed : HasNoVariable element

pub fact_at : (qs : List Pattern) (ns : List ℕ) (ts : List Theorem) (i : ℕ) (t : Theorem)
    → AreFacts qs ns ts → i < length ts → t ≡ get_or ts i t → HasFactAt qs ns i t
fact_at [] [] [] i t h low is = absurd (omega (arith, low))
fact_at [] [] (u ∷ ts) i t h low is = absurd h
fact_at [] (n ∷ ns) ts i t h low is = absurd h
fact_at (q ∷ qs) [] ts i t h low is = absurd h
fact_at (q ∷ qs) (n ∷ ns) [] i t h low is = absurd h
fact_at (q ∷ qs) (n ∷ ns) (u ∷ ts) zero t h low is =
    record {
      element = q;
      there = refl;
      number = n;
      sort = refl;
      says = ap (λ (x : Theorem). x.conclusion) is ∙ h.0;
      closed = h.1;
    }
fact_at (q ∷ qs) (n ∷ ns) (u ∷ ts) (suc i) t h low is =
    let below : HasFactAt qs ns i t = fact_at qs ns ts i t h.2 (omega (arith, low)) is in
    record {
      element = below.element;
      there = below.there;
      number = below.number;
      sort = below.sort;
      says = below.says;
      closed = below.closed;
    }

pub as_many_facts : (qs : List Pattern) (ns : List ℕ) (ts : List Theorem) → AreFacts qs ns ts
    → (length qs ≡ length ts) × (length ns ≡ length ts)
as_many_facts [] [] [] h = (refl, refl)
as_many_facts [] [] (t ∷ ts) h = absurd h
as_many_facts [] (n ∷ ns) ts h = absurd h
as_many_facts (q ∷ qs) [] ts h = absurd h
as_many_facts (q ∷ qs) (n ∷ ns) [] h = absurd h
as_many_facts (q ∷ qs) (n ∷ ns) (t ∷ ts) h =
    let below : (length qs ≡ length ts) × (length ns ≡ length ts) = as_many_facts qs ns ts h.2 in
    (ap suc below.0, ap suc below.1)

pub facts_closed : (qs : List Pattern) (ns : List ℕ) (ts : List Theorem) → AreFacts qs ns ts
    → HaveNoVariables qs
facts_closed [] ns ts h = tt
facts_closed (q ∷ qs) [] ts h = absurd h
facts_closed (q ∷ qs) (n ∷ ns) [] h = absurd h
facts_closed (q ∷ qs) (n ∷ ns) (t ∷ ts) h = (h.1, facts_closed qs ns ts h.2)

facts_over : (s : Scope) (qs : List Pattern) (ns : List ℕ) (ts : List Theorem) → AreFacts qs ns ts
    → AreWithin s ts → AreOver s qs
facts_over s [] ns ts h k = tt
facts_over s (q ∷ qs) [] ts h k = absurd h
facts_over s (q ∷ qs) (n ∷ ns) [] h k = absurd h
facts_over s (q ∷ qs) (n ∷ ns) (t ∷ ts) h k =
    ((subst (IsOver s) h.0 k.0.conclusion).0, facts_over s qs ns ts h.2 k.1)

-- ---- the patterns of the facts

element_same : (p q : Pattern) (m n : ℕ) → fun p m ≡ fun q n → p ≡ q
element_same p q m n e = cc

pub says_subject : (qs : List Pattern) (ns : List ℕ) (ts : List Theorem) (i : ℕ) (t : Theorem)
    → AreFacts qs ns ts → i < length ts → t ≡ get_or ts i t
    → (p : Pattern) × (n : ℕ) × (t.conclusion ≡ fun p n)
says_subject qs ns ts i t h low is =
    let at : HasFactAt qs ns i t = fact_at qs ns ts i t h low is in (at.element, at.number, at.says)

pub one_more_subject : (qs : List Pattern) (ns : List ℕ) (ts : List Theorem) (i : ℕ) (t : Theorem)
    (ps : List Pattern) (p : Pattern) (n : ℕ) → AreFacts qs ns ts → i < length ts
    → t ≡ get_or ts i t → t.conclusion ≡ fun p n → ps ≡ take i qs → ps ++ p ∷ [] ≡ take (i + 1) qs
one_more_subject qs ns ts i t ps p n h low is says before =
    let at : HasFactAt qs ns i t = fact_at qs ns ts i t h low is in
    let same : p ≡ at.element = element_same p at.element n at.number (sym says ∙ at.says) in
    let here : get_or qs i p ≡ at.element = get_or_from_slice_get qs i at.element p at.there in
    ap (λ (rs : List Pattern). rs ++ p ∷ []) before
    ∙ ap (λ (r : Pattern). take i qs ++ r ∷ []) (same ∙ sym here)
    ∙ sym (take_more qs i p (omega (arith, low, (as_many_facts qs ns ts h).0)))

pub all_subjects : (qs : List Pattern) (ns : List ℕ) (ts : List Theorem) (i : ℕ) (ps : List Pattern)
    → AreFacts qs ns ts → length ts ≤ i → ps ≡ take i qs → ps ≡ qs
all_subjects qs ns ts i ps h enough before =
    before ∙ take_all i qs (omega (arith, enough, (as_many_facts qs ns ts h).0))

-- ---- proofs of hypotheses

-- a hypothesis that says that a pattern is one element of a sort
pub proved_fun : (qs : List Pattern) (ns : List ℕ) (others : List Theorem) (h p : Pattern) (n : ℕ)
    → IsProved qs ns others h → h ≡ fun p n → (x : ℕ) × (p ≡ meta x) × (slice_get ns x ≡ Some n)
proved_fun qs ns others h p n (by_fact x m at is) e = (
  x,
  element_same p (meta x) n m (sym e ∙ is),
  at
      ∙ ap (λ (k : ℕ). Some k) (number_same p (meta x) n m (sym e ∙ is)),
)
  where
    number_same : (p q : Pattern) (m n : ℕ) → fun p m ≡ fun q n → n ≡ m
    number_same p q m n e = cc
proved_fun qs ns others h p n (by_member x q t at is below says) e = absurd (differ (sym e ∙ is))
  where
    differ : fun p n ≡ member (meta x) q → ⊥
    differ k = cc
proved_fun qs ns others h p n (by_condition x q r t at last is below says) e =
    absurd (differ (sym e ∙ is))
  where
    differ : fun p n ≡ equal q r → ⊥
    differ k = cc
proved_fun qs ns others h p n (by_negation x q t at last is below says) e =
    absurd (differ (sym e ∙ is))
  where
    differ : fun p n ≡ not q → ⊥
    differ k = cc

-- the proof at a place of `others`
pub record HasOther (qs : List Pattern) (others : List Theorem) (h : Pattern) (x : ℕ) : Type 0 where
  pub proof : Theorem
  pub there : slice_get others x ≡ Some proof
  pub says : proof.conclusion ≡ instance qs h

pub proved_member : (qs : List Pattern) (ns : List ℕ) (others : List Theorem) (h p q : Pattern)
    → IsProved qs ns others h → h ≡ member p q → (x : ℕ) × (p ≡ meta x) × HasOther qs others h x
proved_member qs ns others h p q (by_fact x m at is) e = absurd (differ (sym e ∙ is))
  where
    differ : member p q ≡ fun (meta x) m → ⊥
    differ k = cc
proved_member qs ns others h p q (by_member x r t at is below says) e =
    (x, same p q (meta x) r (sym e ∙ is), record { proof = t; there = at; says = says })
  where
    same : (a b c d : Pattern) → member a b ≡ member c d → a ≡ c
    same a b c d k = cc
proved_member qs ns others h p q (by_condition x r u t at last is below says) e =
    absurd (differ (sym e ∙ is))
  where
    differ : member p q ≡ equal r u → ⊥
    differ k = cc
proved_member qs ns others h p q (by_negation x r t at last is below says) e =
    absurd (differ (sym e ∙ is))
  where
    differ : member p q ≡ not r → ⊥
    differ k = cc

pub proved_equal : (qs : List Pattern) (ns : List ℕ) (others : List Theorem) (h p q : Pattern)
    → IsProved qs ns others h → h ≡ equal p q
    → (x : ℕ) × (x + 1 ≡ length others) × HasOther qs others h x
proved_equal qs ns others h p q (by_fact x m at is) e = absurd (differ (sym e ∙ is))
  where
    differ : equal p q ≡ fun (meta x) m → ⊥
    differ k = cc
proved_equal qs ns others h p q (by_member x r t at is below says) e = absurd (differ (sym e ∙ is))
  where
    differ : equal p q ≡ member (meta x) r → ⊥
    differ k = cc
proved_equal qs ns others h p q (by_condition x r u t at last is below says) e =
    (x, last, record { proof = t; there = at; says = says })
proved_equal qs ns others h p q (by_negation x r t at last is below says) e =
    absurd (differ (sym e ∙ is))
  where
    differ : equal p q ≡ not r → ⊥
    differ k = cc

pub proved_not : (qs : List Pattern) (ns : List ℕ) (others : List Theorem) (h p : Pattern)
    → IsProved qs ns others h → h ≡ not p
    → (x : ℕ) × IsLastButCondition others x × HasOther qs others h x
proved_not qs ns others h p (by_fact x m at is) e = absurd (differ (sym e ∙ is))
  where
    differ : not p ≡ fun (meta x) m → ⊥
    differ k = cc
proved_not qs ns others h p (by_member x r t at is below says) e = absurd (differ (sym e ∙ is))
  where
    differ : not p ≡ member (meta x) r → ⊥
    differ k = cc
proved_not qs ns others h p (by_condition x r u t at last is below says) e =
    absurd (differ (sym e ∙ is))
  where
    differ : not p ≡ equal r u → ⊥
    differ k = cc
proved_not qs ns others h p (by_negation x r t at last is below says) e =
    (x, last, record { proof = t; there = at; says = says })

-- the four forms of hypotheses; no other form has a proof
abbrev HasForm : Pattern → Type 0
HasForm (equal p q) = Unit {0}
HasForm (member p q) = Unit {0}
HasForm (fun p s) = Unit {0}
HasForm (not p) = Unit {0}
HasForm p = ⊥

has_form : (qs : List Pattern) (ns : List ℕ) (others : List Theorem) (h : Pattern)
    → IsProved qs ns others h → HasForm h
has_form qs ns others h (by_fact x n at is) = subst HasForm (sym is) tt
has_form qs ns others h (by_member x p t at is below says) = subst HasForm (sym is) tt
has_form qs ns others h (by_condition x p q t at last is below says) = subst HasForm (sym is) tt
has_form qs ns others h (by_negation x p t at last is below says) = subst HasForm (sym is) tt

only_forms : (f : MForm) → HasForm (pattern_of f) → ((p q : Pattern) → f ≡ form.Equal p q → ⊥)
    → ((p q : Pattern) → f ≡ form.Member p q → ⊥)
    → ((p : Pattern) (s : MSort) → f ≡ form.Fun p s → ⊥)
    → ((p : Pattern) → f ≡ form.Not p → ⊥) → ⊥
only_forms (form.Equal p q) h a b c d = a p q refl
only_forms (form.Member p q) h a b c d = b p q refl
only_forms (form.Fun p s) h a b c d = c p s refl
only_forms (form.Not p) h a b c d = d p refl
only_forms f h a b c d = h

pub no_other_form : (qs : List Pattern) (ns : List ℕ) (others : List Theorem) (h : Pattern)
    (f : MForm) → IsProved qs ns others h → h ≡ pattern_of f
    → ((p q : Pattern) → f ≡ form.Equal p q → ⊥) → ((p q : Pattern) → f ≡ form.Member p q → ⊥)
    → ((p : Pattern) (s : MSort) → f ≡ form.Fun p s → ⊥)
    → ((p : Pattern) → f ≡ form.Not p → ⊥) → ⊥
no_other_form qs ns others h f proved is a b c d =
    only_forms f (subst HasForm is (has_form qs ns others h proved)) a b c d

-- ---- the given proofs

meta_same : (x y : ℕ) → meta x ≡ meta y → x ≡ y
meta_same x y e = cc

contains_there : (ts : List Theorem) (k : ℕ) (t : Theorem) → slice_get ts k ≡ Some t → Contains ts t
contains_there ts k t there =
    (k, slice_get_within ts k t there, get_or_from_slice_get ts k t t there)

-- the place of a fact, of a membership and of the condition
pub fact_place : (qs : List Pattern) (ns : List ℕ) (facts others : List Theorem) (h p : Pattern)
    (m k : ℕ) → AreFacts qs ns facts → IsProved qs ns others h → h ≡ fun p m → p ≡ meta k
    → k < length facts
fact_place qs ns facts others h p m k are proved is element =
    let by : (x : ℕ) × (p ≡ meta x) × (slice_get ns x ≡ Some m) =
    proved_fun qs ns others h p m proved is in
    let same : by.0 ≡ k = meta_same by.0 k (sym by.1 ∙ element) in
    omega (arith, same, slice_get_within ns by.0 m by.2, (as_many_facts qs ns facts are).1)

pub member_place : (qs : List Pattern) (ns : List ℕ) (others : List Theorem) (h p q : Pattern)
    (k : ℕ) → IsProved qs ns others h → h ≡ member p q → p ≡ meta k → k < length others
member_place qs ns others h p q k proved is element =
    let by : (x : ℕ) × (p ≡ meta x) × HasOther qs others h x =
    proved_member qs ns others h p q proved is in
    let same : by.0 ≡ k = meta_same by.0 k (sym by.1 ∙ element) in
    omega (arith, same, slice_get_within others by.0 by.2.proof by.2.there)

pub some_others : (qs : List Pattern) (ns : List ℕ) (others : List Theorem) (h p q : Pattern)
    → IsProved qs ns others h → h ≡ equal p q → 0 < length others
some_others qs ns others h p q proved is =
    let by : (x : ℕ) × (x + 1 ≡ length others) × HasOther qs others h x =
    proved_equal qs ns others h p q proved is in
    omega (arith, by.1)

pub given_fact : (facts others : List Theorem) (h p : Pattern) (m k : ℕ) (t : Theorem) → h ≡ fun p m
    → p ≡ meta k → slice_get facts k ≡ Some t → IsGiven facts others h t
given_fact facts others h p m k t is element there = record {
  given = inl (contains_there facts k t there);
  says = λ qs ns are proved.
      let by : (x : ℕ) × (p ≡ meta x) × (slice_get ns x ≡ Some m) =
      proved_fun qs ns others h p m proved is in
      let at : HasFactAt qs ns k t =
      fact_at qs ns facts k t are (slice_get_within facts k t there)
      (sym (get_or_from_slice_get facts k t t there)) in
      let same : by.0 ≡ k = meta_same by.0 k (sym by.1 ∙ element) in
      let number : at.number ≡ m =
      some_same at.number m (sym at.sort ∙ ap (slice_get ns) (sym same) ∙ by.2) in
      at.says ∙ ap (fun at.element) number
      ∙ ap (λ (q : Pattern). fun q m)
      (sym (get_or_from_slice_get qs k at.element (meta k) at.there))
      ∙ ap (λ (q : Pattern). instance qs (fun q m)) (sym element) ∙ ap (instance qs) (sym is);
}

pub given_member : (facts others : List Theorem) (h p q : Pattern) (k : ℕ) (t : Theorem)
    → h ≡ member p q → p ≡ meta k → slice_get others k ≡ Some t → IsGiven facts others h t
given_member facts others h p q k t is element there = record {
  given = inr (contains_there others k t there);
  says = λ qs ns are proved.
      let by : (x : ℕ) × (p ≡ meta x) × HasOther qs others h x =
      proved_member qs ns others h p q proved is in
      let same : by.0 ≡ k = meta_same by.0 k (sym by.1 ∙ element) in
      ap (λ (u : Theorem). u.conclusion)
      (some_same t by.2.proof (sym there ∙ ap (slice_get others) (sym same) ∙ by.2.there))
      ∙ by.2.says;
}

pub given_condition : (facts others : List Theorem) (h p q : Pattern) (k : ℕ) (t : Theorem)
    → h ≡ equal p q → k + 1 ≡ length others → slice_get others k ≡ Some t → IsGiven facts others h t
given_condition facts others h p q k t is last there = record {
  given = inr (contains_there others k t there);
  says = λ qs ns are proved.
      let by : (x : ℕ) × (x + 1 ≡ length others) × HasOther qs others h x =
      proved_equal qs ns others h p q proved is in
      let same : by.0 ≡ k = omega (arith, last, by.1) in
      ap (λ (u : Theorem). u.conclusion)
      (some_same t by.2.proof (sym there ∙ ap (slice_get others) (sym same) ∙ by.2.there))
      ∙ by.2.says;
}

-- ---- negations

-- what a negation says at the patterns, and where it is
pub negation_at : (qs : List Pattern) (ns : List ℕ) (others : List Theorem) (h p : Pattern)
    → IsProved qs ns others h → h ≡ not p → HasNegation others
negation_at qs ns others h p proved is =
    let by : (x : ℕ) × IsLastButCondition others x × HasOther qs others h x =
    proved_not qs ns others h p proved is in (
      by.0,
      record {
        theorem = by.2.proof;
        there = by.2.there;
        last = by.1;
        negated = instance qs p;
        says = by.2.says ∙ ap (instance qs) is;
      },
    )

pub some_theorems : (ts : List Theorem) → HasNegation ts → 0 < length ts
some_theorems ts (x, at) = omega (arith, slice_get_within ts x at.theorem at.there)

IsNot : Pattern → Type 0
IsNot (not p) = Unit {0}
IsNot p = ⊥

not_form : (f : MForm) → IsNot (pattern_of f) → ((p : Pattern) → f ≡ form.Not p → ⊥) → ⊥
unfolding IsNot
not_form (form.Not p) h k = k p refl
not_form f h k = h

-- if the last theorem is a negation, it is the one
pub negation_last : (ts : List Theorem) (k : ℕ) (t : Theorem) (p : Pattern)
    → slice_get ts k ≡ Some t → k + 1 ≡ length ts → t.conclusion ≡ not p → IsNegationOf ts t
negation_last ts k t p there last is x at = go at.last
  where
    differ : (a b : Pattern) → not p ≡ equal a b → ⊥
    differ a b e = cc

    go : IsLastButCondition ts x → slice_get ts x ≡ Some t
    go (inl here) =
        let same : x ≡ k = omega (arith, here, last) in
        ap (slice_get ts) same ∙ there
    go (inr (before, (u, a, b, is_there, says))) =
        let same : x + 1 ≡ k = omega (arith, before, last) in
        let one : u ≡ t = some_same u t (sym is_there ∙ ap (slice_get ts) same ∙ there) in
        absurd (differ a b (sym is ∙ ap (λ (v : Theorem). v.conclusion) (sym one) ∙ says))

-- if it is not, the one before it is
pub negation_before : (ts : List Theorem) (k : ℕ) (t : Theorem) (f : MForm) (x : ℕ)
    → slice_get ts k ≡ Some t → k + 1 ≡ length ts → t.conclusion ≡ pattern_of f
    → ((p : Pattern) → f ≡ form.Not p → ⊥) → IsNegationAt ts x → x + 2 ≡ length ts
unfolding IsNot
negation_before ts k t f x there last is other at = go at.last
  where
    go : IsLastButCondition ts x → x + 2 ≡ length ts
    go (inl here) =
        let same : x ≡ k = omega (arith, here, last) in
        let one : at.theorem ≡ t =
        some_same at.theorem t (sym at.there ∙ ap (slice_get ts) same ∙ there) in
        let says : not at.negated ≡ pattern_of f =
        sym at.says ∙ ap (λ (v : Theorem). v.conclusion) one ∙ is in
        absurd (not_form f (subst IsNot says tt) other)
    go (inr before) = before.0

pub negation_only : (ts : List Theorem) (k : ℕ) (t u : Theorem) (f : MForm) (j : ℕ)
    → slice_get ts k ≡ Some t → k + 1 ≡ length ts → t.conclusion ≡ pattern_of f
    → ((p : Pattern) → f ≡ form.Not p → ⊥) → j + 2 ≡ length ts → slice_get ts j ≡ Some u
    → IsNegationOf ts u
negation_only ts k t u f j there last is other place found x at =
    let before : x + 2 ≡ length ts = negation_before ts k t f x there last is other at in
    let same : x ≡ j = omega (arith, before, place) in
    ap (slice_get ts) same ∙ found

pub given_negation : (facts others : List Theorem) (h p : Pattern) (t : Theorem) → h ≡ not p
    → HasNegation others → IsNegationOf others t → IsGiven facts others h t
given_negation facts others h p t is (y, at) one = record {
  given = inr (contains_there others y t (one y at));
  says = λ qs ns are proved.
      let by : (x : ℕ) × IsLastButCondition others x × HasOther qs others h x =
      proved_not qs ns others h p proved is in
      let there : slice_get others by.0 ≡ Some t =
      one by.0 (record {
        theorem = by.2.proof;
        there = by.2.there;
        last = by.1;
        negated = instance qs p;
        says = by.2.says ∙ ap (instance qs) is;
      }) in
      ap (λ (u : Theorem). u.conclusion) (some_same t by.2.proof (sym there ∙ by.2.there))
      ∙ by.2.says;
}

-- ---- one proof after another

pub zip_push : {X Y : Type 0} (R : X → Y → Type 0) (xs : List X) (ys : List Y) (x : X) (y : Y)
    → AllZip R xs ys → R x y → AllZip R (xs ++ x ∷ []) (ys ++ y ∷ [])
zip_push R [] [] x y h k = (k, tt)
zip_push R [] (b ∷ ys) x y h k = absurd h
zip_push R (a ∷ xs) [] x y h k = absurd h
zip_push R (a ∷ xs) (b ∷ ys) x y h k = (h.0, zip_push R xs ys x y h.1 k)

pub one_more_given : (facts others : List Theorem) (hs : List Pattern) (i : ℕ) (h : Pattern)
    (ts : List Theorem) (t u : Theorem) → i < length hs → h ≡ get_or hs i h
    → AreGiven (take i hs) facts others ts → IsGiven facts others h u → t ≡ u
    → AreGiven (take (i + 1) hs) facts others (ts ++ t ∷ [])
one_more_given facts others hs i h ts t u low is before here same =
    let front : take (i + 1) hs ≡ take i hs ++ h ∷ [] =
    take_more hs i h low ∙ ap (λ (q : Pattern). take i hs ++ q ∷ []) (sym is) in
    subst (λ (ps : List Pattern). AreGiven ps facts others (ts ++ t ∷ [])) (sym front)
    (zip_push (IsGiven facts others) (take i hs) ts h t before
    (subst (IsGiven facts others h) (sym same) here))

-- ---- all proofs

proved_below : (qs : List Pattern) (ns : List ℕ) (others : List Theorem) (h : Pattern)
    → length ns ≡ length qs → IsProved qs ns others h → IsMetaBelow (length qs) h
proved_below qs ns others h many (by_fact x n at is) =
    let low : x < length qs = omega (arith, many, slice_get_within ns x n at) in
    subst (IsMetaBelow (length qs)) (sym is) low
proved_below qs ns others h many (by_member x p t at is below says) = below
proved_below qs ns others h many (by_condition x p q t at last is below says) = below
proved_below qs ns others h many (by_negation x p t at last is below says) = below

all_below : (qs : List Pattern) (ns : List ℕ) (others : List Theorem) (hs : List Pattern)
    → length ns ≡ length qs → All (IsProved qs ns others) hs → AreMetasBelow (length qs) hs
all_below qs ns others [] many each = tt
all_below qs ns others (h ∷ hs) many each = (
  proved_below qs ns others h many (All-head (IsProved qs ns others) h hs each),
  all_below qs ns others hs many (All-tail (IsProved qs ns others) h hs each),
)

all_conclude : (qs : List Pattern) (ns : List ℕ) (facts others : List Theorem) (hs : List Pattern)
    (ts : List Theorem) → AreFacts qs ns facts → All (IsProved qs ns others) hs
    → AreGiven hs facts others ts → conclusions ts ≡ instances qs hs
all_conclude qs ns facts others [] [] are each given = refl
all_conclude qs ns facts others [] (t ∷ ts) are each given = absurd given
all_conclude qs ns facts others (h ∷ hs) [] are each given = absurd given
all_conclude qs ns facts others (h ∷ hs) (t ∷ ts) are each given =
    ap (λ (c : Pattern). c ∷ conclusions ts)
    (given.0.says qs ns are (All-head (IsProved qs ns others) h hs each))
    ∙ ap (λ (cs : List Pattern). instance qs h ∷ cs) (all_conclude qs ns facts others hs ts are
    (All-tail (IsProved qs ns others) h hs each) given.1)

within_there : (s : Scope) (ts : List Theorem) (t : Theorem) → AreWithin s ts → Contains ts t
    → IsWithin s t
within_there s [] t h (k, low, is) = absurd (omega (arith, low))
within_there s (u ∷ ts) t h (zero, low, is) = subst (IsWithin s) is h.0
within_there s (u ∷ ts) t h (suc k, low, is) = within_there s ts t h.1 (k, omega (arith, low), is)

given_within : (s : Scope) (facts others : List Theorem) (hs : List Pattern) (ts : List Theorem)
    → AreWithin s facts → AreWithin s others → AreGiven hs facts others ts → AreWithin s ts
given_within s facts others [] [] a b given = tt
given_within s facts others [] (t ∷ ts) a b given = absurd given
given_within s facts others (h ∷ hs) [] a b given = absurd given
given_within s facts others (h ∷ hs) (t ∷ ts) a b given =
    (one given.0.given, given_within s facts others hs ts a b given.1)
  where
    one : Contains facts t ⊎ Contains others t → IsWithin s t
    one (inl there) = within_there s facts t a there
    one (inr there) = within_there s others t b there

-- ---- the use

-- all that is known when the lemma is cited
pub record IsReadyToUse (lemma : Theorem) (facts others : List Theorem) (patterns : List Pattern)
    (ts : List Theorem) : Type 0 where
  pub subjects : (qs : List Pattern) (ns : List ℕ) → AreFacts qs ns facts → patterns ≡ qs
  pub given : AreGiven lemma.hypotheses facts others ts

abbrev pub CanUse : Theorem → List Theorem → List Theorem → Type 0
CanUse lemma facts others = (qs : List Pattern) × (ns : List ℕ) × IsUsable qs ns lemma facts others

pub can_prove : (lemma : Theorem) (facts others : List Theorem) (hs : List Pattern)
    → CanUse lemma facts others → hs ≡ lemma.hypotheses → CanProve hs facts others
can_prove lemma facts others hs (qs, ns, u) is =
    (qs, ns, u.are, subst (All (IsProved qs ns others)) (sym is) u.proved)

pub ready_hypotheses : (lemma : Theorem) (facts others : List Theorem) (patterns : List Pattern)
    (ts : List Theorem) → IsReadyToUse lemma facts others patterns ts → CanUse lemma facts others
    → AreMetasBelow (length patterns) lemma.hypotheses
ready_hypotheses lemma facts others patterns ts r (qs, ns, u) =
    let many : (length qs ≡ length facts) × (length ns ≡ length facts) =
    as_many_facts qs ns facts u.are in
    subst (λ (ps : List Pattern). AreMetasBelow (length ps) lemma.hypotheses)
    (sym (r.subjects qs ns u.are))
    (all_below qs ns others lemma.hypotheses (many.1 ∙ sym many.0) u.proved)

pub ready_conclusion : (lemma : Theorem) (facts others : List Theorem) (patterns : List Pattern)
    (ts : List Theorem) → IsReadyToUse lemma facts others patterns ts → CanUse lemma facts others
    → IsMetaBelow (length patterns) lemma.conclusion
ready_conclusion lemma facts others patterns ts r (qs, ns, u) =
    subst (λ (ps : List Pattern). IsMetaBelow (length ps) lemma.conclusion)
    (sym (r.subjects qs ns u.are)) u.below

pub ready_closed : (lemma : Theorem) (facts others : List Theorem) (patterns : List Pattern)
    (ts : List Theorem) → IsReadyToUse lemma facts others patterns ts → CanUse lemma facts others
    → HaveNoVariables patterns
ready_closed lemma facts others patterns ts r (qs, ns, u) =
    subst HaveNoVariables (sym (r.subjects qs ns u.are)) (facts_closed qs ns facts u.are)

pub ready_proofs : (lemma : Theorem) (facts others : List Theorem) (patterns : List Pattern)
    (ts : List Theorem) → IsReadyToUse lemma facts others patterns ts → CanUse lemma facts others
    → conclusions ts ≡ instances patterns lemma.hypotheses
ready_proofs lemma facts others patterns ts r (qs, ns, u) =
    all_conclude qs ns facts others lemma.hypotheses ts u.are u.proved r.given
    ∙ ap (λ (ps : List Pattern). instances ps lemma.hypotheses) (sym (r.subjects qs ns u.are))

pub ready_says : (lemma : Theorem) (facts others : List Theorem) (patterns : List Pattern)
    (ts : List Theorem) (t : Theorem) → IsReadyToUse lemma facts others patterns ts
    → t.conclusion ≡ instance patterns lemma.conclusion → IsUsed lemma facts others t
ready_says lemma facts others patterns ts t r is qs ns u =
    is ∙ ap (λ (ps : List Pattern). instance ps lemma.conclusion) (r.subjects qs ns u.are)

pub ready_stays : (lemma : Theorem) (facts others : List Theorem) (patterns : List Pattern)
    (ts : List Theorem) (t : Theorem) → IsReadyToUse lemma facts others patterns ts
    → CanUse lemma facts others → CitesWithin lemma patterns ts t → StaysUsed lemma facts others t
ready_stays lemma facts others patterns ts t r (qs, ns, u) cites s stated over a b =
    cites s stated over
    (subst (AreOver s) (sym (r.subjects qs ns u.are)) (facts_over s qs ns facts u.are a))
    (given_within s facts others lemma.hypotheses ts a b r.given)

pub hypothesis_proved : (hs : List Pattern) (facts others : List Theorem) (i : ℕ) (h : Pattern)
    → CanProve hs facts others → i < length hs → h ≡ get_or hs i h
    → (qs : List Pattern) × (ns : List ℕ) × AreFacts qs ns facts × IsProved qs ns others h
hypothesis_proved hs facts others i h (qs, ns, are, each) low is =
    (qs, ns, are, subst (IsProved qs ns others) (sym is) (each i h low))
