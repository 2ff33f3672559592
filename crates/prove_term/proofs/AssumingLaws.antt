-- What follows from a sentence on all arguments of a constructor, step by step.
use Rattle.std.proofs.Common.{◌≡◌, ◌<◌, ◌+◌, ℕ, zero, suc, true, List, [], ◌∷◌, ◌++◌, Some, length}
use Rattle.std.proofs.Common.{take, drop, get_or, refl, sym, ◌∙◌, ap, subst, arith, append-nil}
use Rattle.std.specs.Prelude.{Contains}
use Rattle.std.proofs.lemmas.List.{take_more}
use Rattle.std.proofs.Math.Seq.{take-length}
use Rattle.std.proofs.lemmas.List.Elements.{Contains-append_right}
use Rattle.ml_pat.specs.Patterns.{Pattern, nullary, unary, binary, sorted, quantified, equal, fun}
use Rattle.ml_pat.specs.Patterns.{ex, all, var, meta, constant}
use Rattle.ml_pat.specs.Leaves.{LeafFacts, EachLeaf}
use Rattle.ml_pat.specs.Judgements.{substituted}
use Rattle.ml_kernel.specs.Theorems.{Theorem, AddsNew, all_hypotheses}
use Rattle.ml_derived.specs.Scopes.{Scope, leaves_of, IsOver, AreOver, IsWithin, AreAssumed}
use Rattle.ml_derived.specs.Scopes.{StaysWithin, AssumesWithin}
use Rattle.ml_derived.proofs.PutLaws.{EachLeaf-substituted}
use Rattle.prove_term.specs.Contexts.{Context, StaysIn, IsLemmaIn}
use Rattle.prove_term.specs.Schemas.{at_metas, meta_facts, reversed, totality_from}
use Rattle.prove_term.specs.Falling.{Falls}
use Rattle.prove_term.specs.Assuming.{TotalFrom, IsPartly, PartlyFrom, StaysFrom, Opens, OpenedFrom}
use Rattle.prove_term.specs.Assuming.{IsSome, OneElementFrom}
use Rattle.prove_term.proofs.Substituting.{totality_from-next, absent-metas}
use Rattle.prove_term.proofs.Instances.{reversed-push, facts-push}
use Rattle.prove_term.proofs.Hypotheses.{kept_as_they_are}

-- ---- theorems that stay in every scope

-- facts that are true of all leaves
pub record HaveAll (f : LeafFacts) : Type 0 where
  pub sort : (i : ℕ) → f.sort i
  pub constant : (i : ℕ) → f.constant i
  pub object : (i : ℕ) → f.object i
  pub meta : (i : ℕ) → f.meta i

pub all_leaves : (f : LeafFacts) (p : Pattern) → HaveAll f → EachLeaf f p
all_leaves f (nullary c) h = tt
all_leaves f (binary c p q) h = (all_leaves f p h, all_leaves f q h)
all_leaves f (unary c p) h = all_leaves f p h
all_leaves f (sorted c p s) h = (all_leaves f p h, h.sort s)
all_leaves f (quantified c x s p) h = (all_leaves f p h, (h.object x, h.sort s))
all_leaves f (var x) h = h.object x
all_leaves f (meta i) h = h.meta i
all_leaves f (constant c) h = h.constant c

-- the scope that has everything and assumes nothing
abbrev everything : Scope
everything = record {
  sort = λ n. true;
  constant = λ n. true;
  object = λ n. true;
  meta = λ n. true;
  stated = [];
  assumed = [];
}

over_everything : (p : Pattern) → IsOver everything p
over_everything p =
    all_leaves (leaves_of everything) p
    (record { sort = λ i. refl; constant = λ i. refl; object = λ i. refl; meta = λ i. refl })

all_over_everything : (ps : List Pattern) → AreOver everything ps
all_over_everything [] = tt
all_over_everything (p ∷ ps) = (over_everything p, all_over_everything ps)

nothing_there : (ps : List Pattern) → AreAssumed everything ps → ps ≡ []
nothing_there [] h = refl
nothing_there (p ∷ ps) h = absurd (omega (arith, (h p (0, omega arith, refl)).0.1))

-- a theorem that stays in each scope that has the patterns assumes nothing
pub assumes_nothing : (ps : List Pattern) (t : Theorem) → StaysWithin ps [] t → t.hypotheses ≡ []
assumes_nothing ps t stays =
    nothing_there t.hypotheses (stays everything (all_over_everything ps) tt).hypotheses

-- ---- hypotheses

-- from a theorem and a rule
pub detached_rule : (made rule under : Theorem) (b : ℕ) → Falls b made.hypotheses
    → rule.hypotheses ≡ [] → AddsNew [] (all_hypotheses (made ∷ rule ∷ [])) under.hypotheses
    → under.hypotheses ≡ made.hypotheses
detached_rule made rule under b falls none adds =
    let joined : all_hypotheses (made ∷ rule ∷ []) ≡ made.hypotheses =
    ap (λ (hs : List Pattern). made.hypotheses ++ (hs ++ [])) none
    ∙ append-nil made.hypotheses in
    kept_as_they_are made.hypotheses under.hypotheses b falls
    (subst (λ (hs : List Pattern). AddsNew [] hs under.hypotheses) joined adds)

-- from an assumed fact and a theorem
pub detached_fact : (known under t : Theorem) (i s : ℕ) (hs : List Pattern) → Falls i hs
    → known.hypotheses ≡ fun (meta i) s ∷ [] → under.hypotheses ≡ hs
    → AddsNew [] (all_hypotheses (known ∷ under ∷ [])) t.hypotheses
    → t.hypotheses ≡ fun (meta i) s ∷ hs
detached_fact known under t i s hs falls fact rest adds =
    let joined : all_hypotheses (known ∷ under ∷ []) ≡ fun (meta i) s ∷ hs =
    ap (λ (ps : List Pattern). ps ++ (under.hypotheses ++ [])) fact
    ∙ ap (λ (ps : List Pattern). fun (meta i) s ∷ (ps ++ [])) rest
    ∙ ap (λ (ps : List Pattern). fun (meta i) s ∷ ps) (append-nil hs) in
    kept_as_they_are (fun (meta i) s ∷ hs) t.hypotheses (i + 1) (i, s, omega arith, refl, falls)
    (subst (λ (ps : List Pattern). AddsNew [] ps t.hypotheses) joined adds)

pub falls_more : (i s : ℕ) (hs : List Pattern) → Falls i hs → Falls (i + 1) (fun (meta i) s ∷ hs)
falls_more i s hs falls = (i, s, omega arith, refl, falls)

-- ---- a pattern variable for a variable

same_all : (x y s t : ℕ) (p q : Pattern) → all x s p ≡ all y t q → (x ≡ y) × (s ≡ t) × (p ≡ q)
same_all x y s t p q h = (cc, cc, cc)

some_one : (p q : Pattern) → Some p ≡ Some q → p ≡ q
some_one p q h = cc

-- what a theorem becomes is determined
pub opened_as : (i : ℕ) (made t : Theorem) (x s : ℕ) (body opened : Pattern)
    → made.conclusion ≡ all x s body → substituted body x (meta i) ≡ Some opened
    → t.conclusion ≡ opened → t.hypotheses ≡ fun (meta i) s ∷ made.hypotheses → OpenedFrom i made t
opened_as i made t x s body opened is put says hypotheses = λ o.
    let same : (o.variable ≡ x) × (o.sort ≡ s) × (o.body ≡ body) =
    same_all o.variable x o.sort s o.body body (sym o.is ∙ is) in
    let put' : substituted o.body o.variable (meta i) ≡ Some opened =
    ap (λ (p : Pattern). substituted p o.variable (meta i)) same.2
    ∙ ap (λ (y : ℕ). substituted body y (meta i)) same.0 ∙ put in (
      says ∙ some_one opened o.opened (sym put' ∙ o.put),
      hypotheses
          ∙ ap (λ (n : ℕ). fun (meta i) n ∷ made.hypotheses) (sym same.1),
    )

-- the theorem stays wherever the other stays and its hypotheses may be assumed
pub opened_stays : (made rule under known t : Theorem) (i x sort : ℕ)
    (body by fact opened : Pattern) → made.conclusion ≡ all x sort body → by ≡ meta i
    → fact ≡ fun by sort → substituted body x (meta i) ≡ Some opened
    → StaysWithin (all x sort body ∷ by ∷ opened ∷ []) [] rule
    → StaysWithin [] (made ∷ rule ∷ []) under → AssumesWithin fact known
    → StaysWithin [] (known ∷ under ∷ []) t → t.hypotheses ≡ fun (meta i) sort ∷ made.hypotheses
    → StaysFrom made t
opened_stays made rule under known t i x sort body by fact opened is by_is fact_is put rule_stays
    under_stays known_stays t_stays hypotheses =
    λ s metas within assumed.
    let whole : IsOver s (all x sort body) = subst (IsOver s) is within.conclusion in
    let meta_over : IsOver s by = subst (IsOver s) (sym by_is) (metas i) in
    let opened_over : IsOver s opened =
    EachLeaf-substituted (leaves_of s) x (meta i) body opened (metas i) whole.0 put in
    let fact_over : IsOver s fact = subst (IsOver s) (sym fact_is) (meta_over, whole.1.1) in
    let fact_first : fun (meta i) sort ≡ fact =
    ap (λ (p : Pattern). fun p sort) (sym by_is) ∙ sym fact_is in
    let there : Contains t.hypotheses (fun (meta i) sort) =
    subst (λ (hs : List Pattern). Contains hs (fun (meta i) sort)) (sym hypotheses)
    (0, omega arith, refl) in
    let rule_within : IsWithin s rule = rule_stays s (whole, (meta_over, (opened_over, tt))) tt in
    let under_within : IsWithin s under = under_stays s tt (within, (rule_within, tt)) in
    let known_within : IsWithin s known =
    known_stays s (subst (λ (p : Pattern). Contains s.assumed p) fact_first
    (assumed (fun (meta i) sort) there)) fact_over in
    t_stays s tt (known_within, (under_within, tt))

-- ---- from all arguments to pattern variables

next_left : (i : ℕ) (ns : List ℕ) → i < length ns → drop i ns ≡ get_or ns i 0 ∷ drop (i + 1) ns
next_left i [] low = absurd (omega (arith, low))
next_left zero (n ∷ ns) low = refl
next_left (suc i) (n ∷ ns) low = next_left i ns (omega (arith, low))
    ∙ ap (λ (k : ℕ). get_or ns i 0 ∷ drop k (n ∷ ns)) (further i)
  where
    further : (i : ℕ) → suc (i + 1) ≡ suc i + 1
    further i = omega arith

pub partly_none : (count : ℕ) (t : Theorem) → PartlyFrom count 0 t t
partly_none count t = λ head numbers number h. record {
  says = h.says;
  hypotheses = h.no_hypotheses;
}

-- the next variable can become a pattern variable
pub partly_opens : (i head : ℕ) (numbers : List ℕ) (number : ℕ) (made : Theorem)
    → i < length numbers → IsPartly i head numbers number made → Opens i made.conclusion
partly_opens i head numbers number made low h =
    let n : (p : Pattern) × (totality_from head i (get_or numbers i 0 ∷ drop (i + 1) numbers)
    (length numbers) number ≡ all i (get_or numbers i 0) p) × (substituted p i (meta i)
    ≡ Some (totality_from head (i + 1) (drop (i + 1) numbers) (length numbers) number)) =
    totality_from-next head i (get_or numbers i 0) (drop (i + 1) numbers) (length numbers) number
    low in
    record {
      variable = i;
      sort = get_or numbers i 0;
      body = n.0;
      is = h.says
          ∙ ap (λ (ns : List ℕ). totality_from head i ns (length numbers) number)
          (next_left i numbers low) ∙ n.1;
      opened = totality_from head (i + 1) (drop (i + 1) numbers) (length numbers) number;
      put = n.2;
    }

-- the next variable has become a pattern variable
pub partly_opened : (i head : ℕ) (numbers : List ℕ) (number : ℕ) (made t : Theorem)
    → i < length numbers → IsPartly i head numbers number made → OpenedFrom i made t
    → IsPartly (i + 1) head numbers number t
unfolding partly_opens
partly_opened i head numbers number made t low h opened =
    let o : Opens i made.conclusion = partly_opens i head numbers number made low h in
    let became : (t.conclusion ≡ o.opened) ×
    (t.hypotheses ≡ fun (meta i) o.sort ∷ made.hypotheses) =
    opened o in
    let count : length (take i numbers) ≡ i = take-length_below i numbers low in
    let facts : meta_facts 0 (take (i + 1) numbers) ≡ meta_facts 0 (take i numbers) ++ fun (meta i)
    (get_or numbers i 0) ∷ [] =
    ap (meta_facts 0) (take_more numbers i 0 low)
    ∙ facts-push (take i numbers) (get_or numbers i 0) 0
    ∙ ap (λ (k : ℕ). meta_facts 0 (take i numbers) ++ fun (meta k) (get_or numbers i 0) ∷ [])
    (omega (arith, count)) in
    record {
      says = became.0;
      hypotheses =
          became.1 ∙ ap (λ (hs : List Pattern). fun (meta i) (get_or numbers i 0) ∷ hs) h.hypotheses
          ∙
          sym (ap (λ (ps : List Pattern). reversed
          ps) facts ∙ reversed-push (meta_facts 0 (take i numbers)) (fun (meta i)
          (get_or numbers i 0)));
    }
  where
    take-length_below : (i : ℕ) (ns : List ℕ) → i < length ns → length (take i ns) ≡ i
    take-length_below zero ns low = refl
    take-length_below (suc i) [] low = absurd (omega (arith, low))
    take-length_below (suc i) (n ∷ ns) low = ap suc (take-length_below i ns (omega (arith, low)))

pub opened_falls : (i : ℕ) (made t : Theorem) → Opens i made.conclusion → OpenedFrom i made t
    → Falls i made.hypotheses → Falls (i + 1) t.hypotheses
opened_falls i made t o opened falls =
    subst (Falls (i + 1)) (sym (opened o).1) (falls_more i o.sort made.hypotheses falls)

pub stays_from_none : (t : Theorem) → StaysFrom t t
stays_from_none t = λ s metas within assumed. within

pub stays_from_twice : (first made t : Theorem) (i : ℕ) → Opens i made.conclusion
    → OpenedFrom i made t → StaysFrom first made → StaysFrom made t → StaysFrom first t
stays_from_twice first made t i o opened before after = λ s metas within assumed.
    after s metas (before s metas within (λ p there. assumed p (subst
    (λ (hs : List Pattern). Contains hs p) (sym (opened o).1)
    (Contains-append_right (fun (meta i) o.sort ∷ []) made.hypotheses p there)))) assumed

-- ---- one element of its sort

past_end : (n : ℕ) (ns : List ℕ) → n ≡ length ns → drop n ns ≡ []
past_end n ns h = rw h (all_dropped ns)
  where
    all_dropped : (ns : List ℕ) → drop (length ns) ns ≡ []
    all_dropped [] = refl
    all_dropped (n ∷ ns) = all_dropped ns

pub partly_is_some : (count head : ℕ) (numbers : List ℕ) (number : ℕ) (t : Theorem)
    → count ≡ length numbers → IsPartly count head numbers number t → IsSome t.conclusion
partly_is_some count head numbers number t many h = record {
  variable = length numbers;
  sort = number;
  made = at_metas (constant head) 0 count;
  is = h.says
      ∙ ap (λ (ns : List ℕ). totality_from head count ns (length numbers) number)
      (past_end count numbers many);
  absent = absent-metas count 0 (length numbers) (constant head) refl;
}

pub total_from : (count : ℕ) (first instance made : Theorem) → PartlyFrom count count first instance
    → OneElementFrom instance made → TotalFrom count first made
unfolding partly_is_some
total_from count first instance made from one = λ head numbers number h.
    let at : IsPartly count head numbers number instance = from head numbers number h in
    let became : (made.conclusion ≡ fun (at_metas (constant head) 0 count) number) ×
    (made.hypotheses ≡ instance.hypotheses) =
    one (partly_is_some count head numbers number instance h.as_many at) in
    record {
      hypotheses = became.1 ∙ at.hypotheses
          ∙ ap (λ (n : ℕ). reversed (meta_facts 0 (take n numbers))) h.as_many
          ∙ ap (λ (ns : List ℕ). reversed (meta_facts 0 ns)) (take-length numbers);
      conclusion = became.0 ∙ ap (λ (n : ℕ). fun (at_metas (constant head) 0 n) number) h.as_many;
    }

pub total_stays : (first instance made : Theorem) → made.hypotheses ≡ instance.hypotheses
    → StaysFrom first instance → StaysWithin [] (instance ∷ []) made → StaysFrom first made
total_stays first instance made same before after = λ s metas within assumed.
    after s tt (
      before s metas within
          (λ p there. assumed p (subst (λ (hs : List Pattern). Contains hs p) (sym same) there)),
      tt,
    )

pub lemma_from : (cx : Context) (first made : Theorem) → StaysIn cx first → StaysFrom first made
    → IsLemmaIn cx made
lemma_from cx first made stays from = λ s has assumed. from s has.metas (stays s has) assumed

same_some : (x y s t : ℕ) (p q : Pattern) → ex x s (equal (var x) p) ≡ ex y t (equal (var y) q)
    → (s ≡ t) × (p ≡ q)
same_some x y s t p q h = (cc, cc)

pub one_as : (some t : Theorem) (x s : ℕ) (made : Pattern)
    → some.conclusion ≡ ex x s (equal (var x) made) → t.conclusion ≡ fun made s
    → t.hypotheses ≡ some.hypotheses → OneElementFrom some t
one_as some t x s made is says hypotheses = λ o.
    let same : (o.sort ≡ s) × (o.made ≡ made) =
    same_some o.variable x o.sort s o.made made (sym o.is ∙ is) in (
      says ∙ ap (λ (p : Pattern). fun p s) (sym same.1)
          ∙ ap (λ (n : ℕ). fun o.made n) (sym same.0),
      hypotheses,
    )
