-- The lemmas of injections, step by step.
use Rattle.std.proofs.Common.{◌≡◌, ℕ, List, [], ◌∷◌, ◌++◌, get_or, refl, sym, ◌∙◌, ap, subst, arith}
use Rattle.std.proofs.Common.{inl, inr}
use Rattle.std.specs.Prelude.{Contains}
use Rattle.ml_pat.specs.Patterns.{Pattern, ex, equal, fun, var, meta}
use Rattle.ml_kernel.specs.Lemmas.{instance, instances, IsMetaBelow, AreMetasBelow}
use Rattle.ml_kernel.specs.Theorems.{Theorem, AddsNew, all_hypotheses, conclusions, IsByLemma}
use Rattle.ml_derived.specs.Scopes.{IsOver, IsWithin, StaysWithin, AssumesWithin}
use Rattle.ml_derived.proofs.RuleLaws.{lemma_within}
use Rattle.prove_term.specs.Assuming.{Opens, OpenedFrom, IsSome, OneElementFrom}
use Rattle.prove_term.specs.Injections.{injecting, collapsing, SaysInjected, SaysCollapsed}
use Rattle.prove_term.specs.Numbered.{inject}
use Rattle.prove_term.specs.Injections.{InjectedFrom, CollapsedFrom, Joins, StaysJoined}
use Rattle.prove_term.specs.Carrying.{Cites, CitedFrom, CitedBy, Collapses, CollapsesTo}
use Rattle.prove_term.specs.Carrying.{CollapsesBy, Twice, SaysTwice, TwiceFrom, StaysTwice, Carries}
use Rattle.prove_term.specs.Carrying.{CarriedFrom}

-- ---- one hypothesis

pub kept_one : (h : Pattern) (new : List Pattern) → AddsNew [] (h ∷ []) new → new ≡ h ∷ []
kept_one h new (inl (there, adds)) = absurd (omega (arith, there.1))
kept_one h new (inr (fresh, adds)) = adds

pub kept_once : (h : Pattern) (new : List Pattern) → AddsNew [] (h ∷ (h ∷ [])) new → new ≡ h ∷ []
kept_once h new (inl (there, adds)) = absurd (omega (arith, there.1))
kept_once h new (inr (fresh, inl (there, adds))) = adds
kept_once h new (inr (fresh, inr (other, adds))) = absurd (other (0, omega arith, refl))

-- ---- opened axioms

opens_injecting : (p : Pattern) (c s t : ℕ) → p ≡ injecting c s t → Opens 0 p
opens_injecting p c s t is = record {
  variable = 0;
  sort = s;
  body = ex 1 t (equal (var 1) (inject c s t (var 0)));
  is = is;
  opened = ex 1 t (equal (var 1) (inject c s t (meta 0)));
  put = refl;
}

pub injecting_opens : (p : Pattern) (c s t : ℕ) → p ≡ injecting c s t → Opens 0 p
injecting_opens p c s t is = opens_injecting p c s t is

pub injecting_opened : (total instance : Theorem) (c s t : ℕ) → total.conclusion ≡ injecting c s t
    → OpenedFrom 0 total instance
    → (instance.conclusion ≡ ex 1 t (equal (var 1) (inject c s t (meta 0))))
    × (instance.hypotheses ≡ fun (meta 0) s ∷ total.hypotheses)
unfolding opens_injecting
injecting_opened total instance c s t is opened = opened (opens_injecting total.conclusion c s t is)

some_injected : (p : Pattern) (c s t : ℕ) → p ≡ ex 1 t (equal (var 1) (inject c s t (meta 0)))
    → IsSome p
some_injected p c s t is = record {
  variable = 1;
  sort = t;
  made = inject c s t (meta 0);
  is = is;
  absent = refl;
}

pub injected_is_some : (p : Pattern) (c s t : ℕ)
    → p ≡ ex 1 t (equal (var 1) (inject c s t (meta 0))) → IsSome p
injected_is_some p c s t is = some_injected p c s t is

pub injected_from : (total instance made : Theorem) → total.hypotheses ≡ []
    → OpenedFrom 0 total instance → OneElementFrom instance made → InjectedFrom total made
unfolding some_injected
injected_from total instance made none opened one = λ c s t is.
    let at : (instance.conclusion ≡ ex 1 t (equal (var 1) (inject c s t (meta 0)))) ×
    (instance.hypotheses ≡ fun (meta 0) s ∷ total.hypotheses) =
    injecting_opened total instance c s t is opened in
    let became : (made.conclusion ≡ fun (inject c s t (meta 0)) t) ×
    (made.hypotheses ≡ instance.hypotheses) =
    one (some_injected instance.conclusion c s t at.0) in
    record {
      hypotheses = became.1 ∙ at.1 ∙ ap (λ (hs : List Pattern). fun (meta 0) s ∷ hs) none;
      conclusion = became.0;
    }

opens_collapsing : (p : Pattern) (c s t u : ℕ) → p ≡ collapsing c s t u → Opens 0 p
opens_collapsing p c s t u is = record {
  variable = 0;
  sort = s;
  body = equal (inject c t u (inject c s t (var 0))) (inject c s u (var 0));
  is = is;
  opened = equal (inject c t u (inject c s t (meta 0))) (inject c s u (meta 0));
  put = refl;
}

pub collapsing_opens : (p : Pattern) (c s t u : ℕ) → p ≡ collapsing c s t u → Opens 0 p
collapsing_opens p c s t u is = opens_collapsing p c s t u is

pub collapsing_opened : (collapse equality : Theorem) (c s t u : ℕ)
    → collapse.conclusion ≡ collapsing c s t u → collapse.hypotheses ≡ []
    → OpenedFrom 0 collapse equality
    → (equality.conclusion ≡ equal (inject c t u (inject c s t (meta 0))) (inject c s u (meta 0)))
    × (equality.hypotheses ≡ fun (meta 0) s ∷ [])
unfolding opens_collapsing
collapsing_opened collapse equality c s t u is none opened =
    let at : (equality.conclusion
    ≡ equal (inject c t u (inject c s t (meta 0))) (inject c s u (meta 0))) ×
    (equality.hypotheses ≡ fun (meta 0) s ∷ collapse.hypotheses) =
    opened (opens_collapsing collapse.conclusion c s t u is) in
    (at.0, at.1 ∙ ap (λ (hs : List Pattern). fun (meta 0) s ∷ hs) none)

-- ---- the lemma of one element

pub cites_hypotheses : (c s t : ℕ) (p : Pattern) (lemma proof : Theorem) → Cites c s t p lemma proof
    → conclusions (proof ∷ []) ≡ instances (p ∷ []) lemma.hypotheses
cites_hypotheses c s t p lemma proof h =
    ap (λ (q : Pattern). q ∷ []) h.proved ∙ sym (ap (instances (p ∷ [])) h.says.hypotheses)

pub cites_metas : (c s t : ℕ) (p : Pattern) (lemma proof : Theorem) → Cites c s t p lemma proof
    → AreMetasBelow 1 lemma.hypotheses × IsMetaBelow 1 lemma.conclusion
cites_metas c s t p lemma proof h = (
  subst (AreMetasBelow 1) (sym h.says.hypotheses) (omega arith, tt),
  subst (IsMetaBelow 1) (sym h.says.conclusion) ((tt, omega arith)),
)

pub cites_conclusion : (c s t : ℕ) (p : Pattern) (lemma proof : Theorem) → Cites c s t p lemma proof
    → instance (p ∷ []) lemma.conclusion ≡ fun (inject c s t p) t
cites_conclusion c s t p lemma proof h = ap (instance (p ∷ [])) h.says.conclusion

-- what is cited is determined
same_fun : (p q : Pattern) (s t : ℕ) → fun p s ≡ fun q t → (p ≡ q) × (s ≡ t)
same_fun p q s t h = (cc, cc)

pub same_subject : (proof : Theorem) (p q : Pattern) (s t : ℕ) → proof.conclusion ≡ fun p s
    → proof.conclusion ≡ fun q t → p ≡ q
same_subject proof p q s t h k = (same_fun p q s t (sym h ∙ k)).0

-- ---- two lemmas, one after the other

pub first_of_one : (hs : List Pattern) (r h : Pattern) → r ≡ get_or hs 0 r → hs ≡ h ∷ [] → r ≡ h
first_of_one hs r h is one = is ∙ ap (λ (ps : List Pattern). get_or ps 0 r) one

pub once_cites : (c s t : ℕ) (lower base : Theorem) → SaysInjected c s t lower
    → base.conclusion ≡ fun (meta 0) s → Cites c s t (meta 0) lower base
once_cites c s t lower base says is = record { says = says; proved = is; closed = tt }

pub second_cites : (c s t u : ℕ) (lower upper once base : Theorem) → SaysInjected c t u upper
    → Cites c s t (meta 0) lower base → CitedFrom lower base once
    → Cites c t u (inject c s t (meta 0)) upper once
second_cites c s t u lower upper once base says cites from = record {
  says = says;
  proved = from c s t (meta 0) cites;
  closed = ((tt, tt));
}

-- a theorem by a lemma and one proof has the hypothesis of the proof
pub cited_keeps : (lemma proof made : Theorem) (p h : Pattern)
    → IsByLemma lemma (p ∷ []) (proof ∷ []) made → proof.hypotheses ≡ h ∷ []
    → made.hypotheses ≡ h ∷ []
cited_keeps lemma proof made p h by one =
    kept_one h made.hypotheses (subst (λ (hs : List Pattern). AddsNew [] hs made.hypotheses)
    (ap (λ (hs : List Pattern). hs ++ []) one) by.kept_hypotheses)

pub says_twice : (c s t u : ℕ) (equality lower upper base once made : Theorem)
    → Twice c s t u equality lower upper → base.conclusion ≡ fun (meta 0) s
    → base.hypotheses ≡ fun (meta 0) s ∷ [] → CitedFrom lower base once → CitedBy lower base once
    → CitedFrom upper once made → CitedBy upper once made → SaysTwice c s t u made
says_twice c s t u equality lower upper base once made twice is assumes from by from' by' =
    let first : Cites c s t (meta 0) lower base = once_cites c s t lower base twice.first is in
    let second : Cites c t u (inject c s t (meta 0)) upper once =
    second_cites c s t u lower upper once base twice.second first from in
    record {
      conclusion = from' c t u (inject c s t (meta 0)) second;
      hypotheses =
          cited_keeps upper once made (inject c s t (meta 0)) (fun (meta 0) s)
          (by' c t u (inject c s t (meta 0)) second)
          (cited_keeps lower base once (meta 0) (fun (meta 0) s) (by c s t (meta 0) first) assumes);
    }

pub twice_stays : (c s t u : ℕ) (equality lower upper base once made : Theorem)
    → Twice c s t u equality lower upper → base.conclusion ≡ fun (meta 0) s
    → base.hypotheses ≡ fun (meta 0) s ∷ [] → AssumesWithin (fun (meta 0) s) base
    → CitedFrom lower base once → CitedBy lower base once → CitedFrom upper once made
    → CitedBy upper once made → StaysTwice equality lower upper made
twice_stays c s t u equality lower upper base once made twice is assumes stays from by from' by' =
    λ sc metas within stated stated' assumed.
    let first : Cites c s t (meta 0) lower base = once_cites c s t lower base twice.first is in
    let second : Cites c t u (inject c s t (meta 0)) upper once =
    second_cites c s t u lower upper once base twice.second first from in
    let says : SaysTwice c s t u made =
    says_twice c s t u equality lower upper base once made twice is assumes from by from' by' in
    let over : IsOver sc (equal (inject c t u (inject c s t (meta 0))) (inject c s u (meta 0))) =
    subst (IsOver sc) twice.equals within.conclusion in
    let there : Contains made.hypotheses (fun (meta 0) s) =
    subst (λ (hs : List Pattern). Contains hs (fun (meta 0) s)) (sym says.hypotheses)
    (0, omega arith, refl) in
    let base_within : IsWithin sc base =
    stays sc (assumed (fun (meta 0) s) there) (metas 0, over.0.1.0.0.1) in
    let once_over : IsOver sc once.conclusion =
    subst (IsOver sc) (sym (from c s t (meta 0) first)) (over.0.1, over.0.1.0.1) in
    let once_within : IsWithin sc once =
    lemma_within sc lower (meta 0 ∷ []) (base ∷ []) once (by c s t (meta 0) first) stated
    (metas 0, tt) once_over (base_within, tt) in
    let made_over : IsOver sc made.conclusion =
    subst (IsOver sc) (sym says.conclusion) (over.0, over.0.0.1) in
    lemma_within sc upper (inject c s t (meta 0) ∷ []) (once ∷ []) made
    (by' c t u (inject c s t (meta 0)) second) stated' (over.0.1, tt) made_over
    (once_within, tt)

-- ---- an equality, and its sides

pub exchanged_keeps : (equality rule t : Theorem) (h : Pattern) → rule.hypotheses ≡ []
    → AddsNew [] (all_hypotheses (equality ∷ rule ∷ [])) t.hypotheses → equality.hypotheses ≡ h ∷ []
    → t.hypotheses ≡ h ∷ []
exchanged_keeps equality rule t h none adds one =
    let joined : all_hypotheses (equality ∷ rule ∷ []) ≡ h ∷ [] =
    ap (λ (hs : List Pattern). hs ++ (rule.hypotheses ++ [])) one
    ∙ ap (λ (hs : List Pattern). h ∷ (hs ++ [])) none in
    kept_one h t.hypotheses (subst (λ (hs : List Pattern). AddsNew [] hs t.hypotheses) joined adds)

pub exchanged_stays : (equality rule t : Theorem) (left right old new context p q : Pattern) (s : ℕ)
    → equality.conclusion ≡ equal left right → equality.conclusion ≡ equal p q → old ≡ fun p s
    → new ≡ fun q s → context ≡ fun (var 0) s
    → StaysWithin (left ∷ right ∷ context ∷ old ∷ new ∷ var 0 ∷ []) [] rule
    → StaysWithin [] (equality ∷ rule ∷ []) t → StaysWithin (var 0 ∷ old ∷ []) (equality ∷ []) t
exchanged_stays equality rule t left right old new context p q s is is' old_is new_is context_is
    stays after =
    λ sc over within.
    let sides : IsOver sc (equal left right) = subst (IsOver sc) is within.0.conclusion in
    let sides' : IsOver sc (equal p q) = subst (IsOver sc) is' within.0.conclusion in
    let old_over : IsOver sc (fun p s) = subst (IsOver sc) old_is over.1.0 in
    let new_over : IsOver sc new = subst (IsOver sc) (sym new_is) (sides'.1, old_over.1) in
    let context_over : IsOver sc context =
    subst (IsOver sc) (sym context_is) (over.0, old_over.1) in
    after sc tt (
      within.0,
      (
        stays sc
            (sides.0, (sides.1, (context_over, (over.1.0, (new_over, (over.0, tt)))))) tt,
        tt,
      ),
    )

pub carried_keeps : (made under t : Theorem) (h : Pattern) → made.hypotheses ≡ h ∷ []
    → under.hypotheses ≡ h ∷ [] → AddsNew [] (all_hypotheses (made ∷ under ∷ [])) t.hypotheses
    → t.hypotheses ≡ h ∷ []
carried_keeps made under t h one other adds =
    let joined : all_hypotheses (made ∷ under ∷ []) ≡ h ∷ (h ∷ []) =
    ap (λ (hs : List Pattern). hs ++ (under.hypotheses ++ [])) one
    ∙ ap (λ (hs : List Pattern). h ∷ (hs ++ [])) other in
    kept_once h t.hypotheses (subst (λ (hs : List Pattern). AddsNew [] hs t.hypotheses) joined adds)

same_equal : (p q r v : Pattern) → equal p q ≡ equal r v → (p ≡ r) × (q ≡ v)
same_equal p q r v h = (cc, cc)

pub carried_as : (equality made t : Theorem) (left right subject : Pattern) (sort : ℕ)
    → equality.conclusion ≡ equal left right → made.conclusion ≡ fun subject sort
    → t.conclusion ≡ fun right sort
    → ((h : Pattern) → equality.hypotheses ≡ h ∷ [] → made.hypotheses ≡ h ∷ []
    → t.hypotheses ≡ h ∷ []) → CarriedFrom equality made t
carried_as equality made t left right subject sort is says result keeps = λ p q s h carries.
    let sides : (left ≡ p) × (right ≡ q) = same_equal left right p q (sym is ∙ carries.equals) in
    let fact : (subject ≡ p) × (sort ≡ s) = same_fun subject p sort s (sym says ∙ carries.says) in (
      result ∙ ap (λ (r : Pattern). fun r sort) sides.1
          ∙ ap (λ (n : ℕ). fun q n) fact.1,
      keeps h carries.first carries.second,
    )

-- ---- the lemma of a collapse

pub collapsed_from : (collapse made : Theorem) → collapse.hypotheses ≡ []
    → OpenedFrom 0 collapse made → CollapsedFrom collapse made
collapsed_from collapse made none opened = λ c s t u is.
    let at :
    (made.conclusion ≡ equal (inject c t u (inject c s t (meta 0))) (inject c s u (meta 0)))
    × (made.hypotheses ≡ fun (meta 0) s ∷ []) =
    collapsing_opened collapse made c s t u is none opened in
    record { hypotheses = at.1; conclusion = at.0 }

pub collapses_hypotheses : (c s t u : ℕ) (p : Pattern) (lemma proof : Theorem)
    → Collapses c s t u p lemma proof
    → conclusions (proof ∷ []) ≡ instances (p ∷ []) lemma.hypotheses
collapses_hypotheses c s t u p lemma proof h =
    ap (λ (q : Pattern). q ∷ []) h.proved ∙ sym (ap (instances (p ∷ [])) h.says.hypotheses)

pub collapses_metas : (c s t u : ℕ) (p : Pattern) (lemma proof : Theorem)
    → Collapses c s t u p lemma proof
    → AreMetasBelow 1 lemma.hypotheses × IsMetaBelow 1 lemma.conclusion
collapses_metas c s t u p lemma proof h = (
  subst (AreMetasBelow 1) (sym h.says.hypotheses) (omega arith, tt),
  subst (IsMetaBelow 1) (sym h.says.conclusion) ((tt, (tt, omega arith)), (tt, omega arith)),
)

pub collapses_conclusion : (c s t u : ℕ) (p : Pattern) (lemma proof : Theorem)
    → Collapses c s t u p lemma proof
    → instance (p ∷ []) lemma.conclusion ≡ equal (inject c t u (inject c s t p)) (inject c s u p)
collapses_conclusion c s t u p lemma proof h = ap (instance (p ∷ [])) h.says.conclusion

pub collapses_once : (c s t u : ℕ) (collapse base : Theorem) → SaysCollapsed c s t u collapse
    → base.conclusion ≡ fun (meta 0) s → Collapses c s t u (meta 0) collapse base
collapses_once c s t u collapse base says is = record { says = says; proved = is; closed = tt }

-- ---- three lemmas

pub joins_twice : (c s t u : ℕ) (collapse base equality lower upper : Theorem)
    → Joins c s t u collapse lower upper → base.conclusion ≡ fun (meta 0) s
    → base.hypotheses ≡ fun (meta 0) s ∷ [] → CollapsesTo collapse base equality
    → CollapsesBy collapse base equality → Twice c s t u equality lower upper
joins_twice c s t u collapse base equality lower upper joins is assumes to by =
    let at : Collapses c s t u (meta 0) collapse base =
    collapses_once c s t u collapse base joins.collapses is in
    record {
      first = joins.lower;
      second = joins.upper;
      assumes =
          cited_keeps collapse base equality (meta 0) (fun (meta 0) s) (by c s t u (meta 0) at)
          assumes;
      equals = to c s t u (meta 0) at;
    }

pub twice_carries : (c s t u : ℕ) (equality lower upper twice : Theorem)
    → Twice c s t u equality lower upper → SaysTwice c s t u twice
    → Carries (inject c t u (inject c s t (meta 0))) (inject c s u (meta 0)) u (fun (meta 0) s)
    equality twice
twice_carries c s t u equality lower upper twice both says = record {
  equals = both.equals;
  says = says.conclusion;
  first = both.assumes;
  second = says.hypotheses;
}

-- an assumption, and what the lemma says of it
pub record IsOnce (hypothesis : Pattern) (collapse base equality : Theorem) : Type 0 where
  pub conclusion : base.conclusion ≡ hypothesis
  pub hypotheses : base.hypotheses ≡ hypothesis ∷ []
  pub stays : AssumesWithin hypothesis base
  pub to : CollapsesTo collapse base equality
  pub by : CollapsesBy collapse base equality

pub once_twice : (c s t u : ℕ) (h : Pattern) (collapse base equality lower upper : Theorem)
    → IsOnce h collapse base equality → h ≡ fun (meta 0) s → Joins c s t u collapse lower upper
    → Twice c s t u equality lower upper
once_twice c s t u h collapse base equality lower upper once is joins =
    joins_twice c s t u collapse base equality lower upper joins (once.conclusion ∙ is)
    (once.hypotheses ∙ ap (λ (p : Pattern). p ∷ []) is) once.to once.by

pub joined_as : (c s t u : ℕ) (equality lower upper twice made : Theorem)
    → Twice c s t u equality lower upper → TwiceFrom equality lower upper twice
    → CarriedFrom equality twice made → SaysInjected c s u made
joined_as c s t u equality lower upper twice made both from carried =
    let became : (made.conclusion ≡ fun (inject c s u (meta 0)) u) ×
    (made.hypotheses ≡ fun (meta 0) s ∷ []) =
    carried (inject c t u (inject c s t (meta 0))) (inject c s u (meta 0)) u (fun (meta 0) s)
    (twice_carries c s t u equality lower upper twice both (from c s t u both)) in
    record { hypotheses = became.1; conclusion = became.0 }

pub joined_stays : (c s t u : ℕ) (h : Pattern)
    (collapse base equality lower upper twice made : Theorem) → IsOnce h collapse base equality
    → h ≡ fun (meta 0) s → Joins c s t u collapse lower upper → TwiceFrom equality lower upper twice
    → CarriedFrom equality twice made → StaysTwice equality lower upper twice
    → StaysWithin (var 0 ∷ []) (equality ∷ twice ∷ []) made → StaysJoined collapse lower upper made
joined_stays c s t u h collapse base equality lower upper twice made once is joins from carried
    twice_stays after =
    λ sc objects metas over_said said stated stated' assumed.
    let both : Twice c s t u equality lower upper =
    once_twice c s t u h collapse base equality lower upper once is joins in
    let says : SaysTwice c s t u twice = from c s t u both in
    let became : SaysInjected c s u made =
    joined_as c s t u equality lower upper twice made both from carried in
    let at : Collapses c s t u (meta 0) collapse base =
    collapses_once c s t u collapse base joins.collapses (once.conclusion ∙ is) in
    let over : IsOver sc (equal (inject c t u (inject c s t (meta 0))) (inject c s u (meta 0))) =
    subst (IsOver sc) joins.collapses.conclusion over_said in
    let there : Contains made.hypotheses (fun (meta 0) s) =
    subst (λ (hs : List Pattern). Contains hs (fun (meta 0) s)) (sym became.hypotheses)
    (0, omega arith, refl) in
    let base_within : IsWithin sc base =
    once.stays sc (subst (Contains sc.assumed) (sym is) (assumed (fun (meta 0) s) there))
    (subst (IsOver sc) (sym is) (metas 0, over.0.1.0.0.1)) in
    let equality_over : IsOver sc equality.conclusion = subst (IsOver sc) (sym both.equals) over in
    let equality_within : IsWithin sc equality =
    lemma_within sc collapse (meta 0 ∷ []) (base ∷ []) equality (once.by c s t u (meta 0) at)
    said (metas 0, tt) equality_over (base_within, tt) in
    let from_twice : (p : Pattern) → Contains twice.hypotheses p → Contains sc.assumed p =
    λ p there. assumed p (subst (λ (hs : List Pattern). Contains hs p)
    (says.hypotheses ∙ sym became.hypotheses) there) in
    let twice_within : IsWithin sc twice =
    twice_stays sc metas equality_within stated stated' from_twice in
    after sc (objects 0, tt) (equality_within, (twice_within, tt))
