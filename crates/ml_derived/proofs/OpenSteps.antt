-- Instances at patterns with variables, one after another, under a hypothesis.
use Rattle.std.proofs.Common.{◌≡◌, ◌<◌, ◌≤◌, ◌+◌, ℕ, List, [], ◌∷◌, length, drop, get_or}
use Rattle.std.proofs.Common.{refl, sym, ◌∙◌, ap, subst}
use Rattle.std.proofs.lemmas.List.{drop_all}
use Rattle.ml_pat.specs.Patterns.{Pattern, imp, all, fun}
use Rattle.ml_pat.specs.Judgements.{substituted}
use Rattle.ml_kernel.specs.Theorems.{Theorem, conclusions}
use Rattle.ml_derived.specs.Instances.{IsOpenInstance, HasOpenInstance, SaysOpenInstance}
use Rattle.ml_derived.specs.Parts.{FitsUnder, IsPutUnder, IsElementOf}
use Rattle.ml_derived.specs.Scopes.{StaysWithin}
use Rattle.ml_derived.proofs.InstanceSteps.{next_fact, within_at}

-- if there is an instance, the sentence under the hypothesis takes the first fact
pub takes : (h p fact : Pattern) (facts : List Pattern) → HasOpenInstance h p (fact ∷ facts)
    → FitsUnder h (imp h p) fact
takes h p fact facts has =
    let i : IsOpenInstance h p (fact ∷ facts) has.0 = has.1 in
    record {
      variable = i.0;
      sort = i.1.0;
      by = i.1.1.0;
      body = i.1.1.1.0;
      made = i.1.1.1.1.0;
      binds = ap (λ (q : Pattern). imp h q) i.1.1.1.1.1.0;
      says = i.1.1.1.1.1.1.0;
      put = i.1.1.1.1.1.1.1.0;
    }

-- and then the rest has an instance at the other facts
pub leaves : (h p fact : Pattern) (facts : List Pattern) (has : HasOpenInstance h p (fact ∷ facts))
    → HasOpenInstance h (takes h p fact facts has).made facts
unfolding takes
leaves h p fact facts has = (has.0, has.1.1.1.1.1.1.1.1.1)

pub returns : (h p fact r : Pattern) (facts : List Pattern)
    (has : HasOpenInstance h p (fact ∷ facts))
    → IsOpenInstance h (takes h p fact facts has).made facts r
    → IsOpenInstance h p (fact ∷ facts) r
unfolding takes
returns h p fact r facts has k =
    let i : IsOpenInstance h p (fact ∷ facts) has.0 = has.1 in (
      i.0,
      (
        i.1.0,
        (
          i.1.1.0,
          (
            i.1.1.1.0,
            (
              i.1.1.1.1.0,
              (i.1.1.1.1.1.0, (i.1.1.1.1.1.1.0, (i.1.1.1.1.1.1.1.0, k))),
            ),
          ),
        ),
      ),
    )

-- The invariant of the loop: the present theorem says, under the hypothesis, something that has an
-- instance at the remaining facts, and that is the instance of the sentence at all facts.
pub record IsPresentUnder (h : Pattern) (sentence : Theorem) (facts : List Theorem) (i : ℕ)
    (present : Theorem) : Type 0 where
  pub inner : Pattern
  pub is : present.conclusion ≡ imp h inner
  pub has : HasOpenInstance h inner (conclusions (drop i facts))
  pub whole : (r : Pattern) → IsOpenInstance h inner (conclusions (drop i facts)) r
      → IsOpenInstance h sentence.conclusion (conclusions facts) r
  pub stays : StaysWithin (h ∷ []) (sentence ∷ facts) present

pub open_start : (h : Pattern) (sentence : Theorem) (facts : List Theorem) (lifted : Theorem)
    → HasOpenInstance h sentence.conclusion (conclusions facts)
    → lifted.conclusion ≡ imp h sentence.conclusion
    → StaysWithin (h ∷ []) (sentence ∷ []) lifted → IsPresentUnder h sentence facts 0 lifted
open_start h sentence facts lifted has is stays = record {
  inner = sentence.conclusion;
  is = is;
  has = has;
  whole = λ r k. k;
  stays = λ s hp ht. stays s hp (ht.0, tt);
}

left_under : (h : Pattern) (sentence : Theorem) (facts : List Theorem) (i : ℕ)
    (present fact : Theorem) (p : IsPresentUnder h sentence facts i present) → i < length facts
    → fact ≡ get_or facts i fact
    → HasOpenInstance h p.inner (fact.conclusion ∷ conclusions (drop (i + 1) facts))
left_under h sentence facts i present fact p lt is =
    subst (λ (ts : List Theorem). HasOpenInstance h p.inner (conclusions ts))
    (next_fact facts i fact lt is) p.has

-- the present theorem takes the next fact
pub open_fact : (h : Pattern) (sentence : Theorem) (facts : List Theorem) (i : ℕ)
    (present fact : Theorem) → IsPresentUnder h sentence facts i present → i < length facts
    → fact ≡ get_or facts i fact → FitsUnder h present.conclusion fact.conclusion
open_fact h sentence facts i present fact p lt is =
    subst (λ (q : Pattern). FitsUnder h q fact.conclusion) (sym p.is)
    (takes h p.inner fact.conclusion (conclusions (drop (i + 1) facts))
    (left_under h sentence facts i present fact p lt is))

-- the invariant holds again after the next fact
pub open_next : (h : Pattern) (sentence : Theorem) (facts : List Theorem) (i : ℕ)
    (present fact new : Theorem) → IsPresentUnder h sentence facts i present → i < length facts
    → fact ≡ get_or facts i fact
    → IsPutUnder h present.conclusion fact.conclusion new.conclusion
    → StaysWithin [] (present ∷ fact ∷ []) new → IsPresentUnder h sentence facts (i + 1) new
open_next h sentence facts i present fact new p lt is made stays =
    let left : HasOpenInstance h p.inner (fact.conclusion ∷ conclusions (drop (i + 1) facts)) =
    left_under h sentence facts i present fact p lt is in
    let fits : FitsUnder h (imp h p.inner) fact.conclusion =
    takes h p.inner fact.conclusion (conclusions (drop (i + 1) facts)) left in
    let moved : IsPutUnder h (imp h p.inner) fact.conclusion new.conclusion =
    subst (λ (q : Pattern). IsPutUnder h q fact.conclusion new.conclusion) p.is made in
    record {
      inner = fits.made;
      is = moved fits;
      has = leaves h p.inner fact.conclusion (conclusions (drop (i + 1) facts)) left;
      whole =
          λ r k. p.whole r (subst
          (λ (ts : List Theorem). IsOpenInstance h p.inner (conclusions ts) r)
          (sym (next_fact facts i fact lt is))
          (returns h p.inner fact.conclusion r (conclusions (drop (i + 1) facts)) left k));
      stays = λ s hp ht. stays s tt (p.stays s hp ht, (within_at s facts i fact ht.1 lt is, tt));
    }

-- after the last fact, the present theorem says the instance under the hypothesis
pub open_end : (h : Pattern) (sentence : Theorem) (facts : List Theorem) (i : ℕ) (present : Theorem)
    → IsPresentUnder h sentence facts i present → length facts ≤ i
    → SaysOpenInstance h sentence.conclusion (conclusions facts) present.conclusion
open_end h sentence facts i present p le = (
  p.inner,
  (
    p.is,
    p.whole p.inner (subst
        (λ (ts : List Theorem). IsOpenInstance h p.inner (conclusions ts) p.inner)
        (sym (drop_all i facts le)) refl),
  ),
)

body_same : (h g q b body : Pattern) (x s y v : ℕ) → imp h (all x s b) ≡ imp g q
    → q ≡ all y v body → (b ≡ body) × (x ≡ y)
body_same h g q b body x s y v e k = (cc, cc)

by_same : (h g r q u : Pattern) (s : ℕ) → imp h (fun q s) ≡ imp g r → IsElementOf u r → q ≡ u
by_same h g r q u s e k =
    let i : r ≡ fun u k.0 = k.1 in
    cc

three_same : (b body q u : Pattern) (x y : ℕ) → b ≡ body → x ≡ y → q ≡ u
    → substituted b x q ≡ substituted body y u
three_same b body q u x y e k i = cc

-- what the code substitutes is what fits
pub same_put : (h sentence fact : Pattern) (fits : FitsUnder h sentence fact)
    (g q k r body u : Pattern) (x s : ℕ) → sentence ≡ imp g q → q ≡ all x s body → fact ≡ imp k r
    → IsElementOf u r
    → substituted fits.body fits.variable fits.by ≡ substituted body x u
same_put h sentence fact fits g q k r body u x s one binds two element =
    let bodies : (fits.body ≡ body) × (fits.variable ≡ x) =
    body_same h g q fits.body body fits.variable fits.sort x s (sym fits.binds ∙ one) binds in
    three_same fits.body body fits.by u fits.variable x bodies.0 bodies.1
    (by_same h k r fits.by u fits.sort (sym fits.says ∙ two) element)
