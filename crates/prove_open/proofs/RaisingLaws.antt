-- Injections of patterns with variables.
use Rattle.std.proofs.Common.{◌≡◌, ◌+◌, ℕ, List, [], ◌∷◌, Some, refl, sym}
use Rattle.std.proofs.Common.{◌∙◌, ap, subst, arith}
use Rattle.ml_pat.specs.Patterns.{Pattern, app, at_sort, equal, ex, fun, imp, var, constant}
use Rattle.ml_kernel.specs.Theorems.{Theorem, conclusions}
use Rattle.ml_derived.specs.Scopes.{Scope, IsOver, AreWithin, StaysWithin}
use Rattle.ml_image.specs.Images.{sort_image, injection_image}
use Rattle.ml_image.specs.Sentences.{inject as inject_symbol}
use Rattle.prove_term.specs.Contexts.{Context, HasContext, HasGrown, StaysIn}
use Rattle.prove_term.specs.Numbered.{inject, HasEnds}
use Rattle.prove_term.specs.OpenAxioms.{SaysSubsortFrom, SaysCollapseFrom}
use Rattle.prove_term.proofs.ContextLaws.{image_grown, stays_grown}
use Rattle.prove_term.proofs.KeptLaws.{sorts_grown}
use Rattle.prove_term.proofs.InjectionShapes.{head_made}
use Rattle.prove_open.specs.Values.{at_values, values_from}
use Rattle.prove_open.specs.Instances.{IsForPatterns, HoldsOfPatterns, IsSomeUnder, IsOneUnder}
use Rattle.prove_open.specs.Instances.{AreCarried, IsCarriedUnder}
use Rattle.prove_open.specs.Elements.{IsElementAt, IsInjectedAt, RaisesTo, IsRaised, RaisesFurther}
use Rattle.prove_open.proofs.ValueLaws.{absent-below, value_here, value_later}

some_same : {A : Type 0} (a b : A) → Some a ≡ Some b → a ≡ b
some_same a b e = cc

-- ---- grown contexts

pub sort_grown : (old new : Context) (s n : ℕ) → HasGrown old new
    → sort_image old.program.sig old.names s ≡ Some n
    → sort_image new.program.sig new.names s ≡ Some n
sort_grown old new s n g is = (sorts_grown old new (s ∷ []) (n ∷ []) g (is, tt)).0

pub head_grown : (old new : Context) (a b : ℕ) (p : Pattern) → HasGrown old new
    → injection_image old.program.sig old.names a b ≡ Some p
    → injection_image new.program.sig new.names a b ≡ Some p
head_grown old new a b p g is = image_grown old new (inject_symbol a b) p g is

pub element_grown : (old new : Context) (h : Pattern) (k a : ℕ) (q : Pattern) (t : Theorem)
    → HasGrown old new → IsElementAt old h k a q t → IsElementAt new h k a q t
element_grown old new h k a q t g e = record {
  number = e.number;
  is_number = sort_grown old new a e.number g e.is_number;
  says = e.says;
  below = e.below;
  stays = stays_grown old new t g e.stays;
}

pub injected_grown : (old new : Context) (h : Pattern) (k a b : ℕ) (q : Pattern) (t : Theorem)
    → HasGrown old new → IsInjectedAt old h k a b q t → IsInjectedAt new h k a b q t
injected_grown old new h k a b q t g i = record {
  head = i.head;
  is_head = head_grown old new a b i.head g i.is_head;
  injected = element_grown old new h k b (app i.head q) t g i.injected;
}

-- the hypothesis is over each scope that has the context
hypothesis_over : (cx : Context) (h : Pattern) (k a : ℕ) (q : Pattern) (t : Theorem) (s : Scope)
    → IsElementAt cx h k a q t → HasContext s cx → IsOver s h
hypothesis_over cx h k a q t s e has =
    (subst (IsOver s) e.says (e.stays s has).conclusion).0

-- ---- one declared pair

subsort_for : (cx : Context) (h : Pattern) (k a b : ℕ) (q p : Pattern) (fact : Theorem)
    → SaysSubsortFrom cx a b k p → IsElementAt cx h k a q fact
    → IsForPatterns h p (fact.conclusion ∷ [])
subsort_for cx h k a b q p fact says e =
    let same : e.number ≡ says.ends.lower =
    some_same e.number says.ends.lower (sym e.is_number ∙ says.ends.is_lower) in
    record {
      k = k;
      numbers = says.ends.lower ∷ [];
      body =
          ex (k + 1) says.ends.upper
          (equal (var (k + 1)) (inject says.ends.symbol says.ends.lower says.ends.upper (var k)));
      qs = q ∷ [];
      is = says.says;
      binds = (omega arith, (tt, (tt, tt)));
      facts_are =
          ap (λ (r : Pattern). r ∷ []) (e.says ∙ ap (λ (n : ℕ). imp h (fun q n)) same);
      many = refl;
      below = (e.below, tt);
    }

two_same : (f : Pattern → Pattern → Pattern) (p q r t : Pattern) → p ≡ r → q ≡ t → f p q ≡ f r t
two_same f p q r t e i = ap (λ (a : Pattern). f a q) e ∙ ap (f r) i

later : (k : ℕ) (q : Pattern) → values_from k (q ∷ []) (k + 1) ≡ var (k + 1)
later k q = value_later k (k + 1) q [] (omega arith)

subsort_made : (k c s u : ℕ) (q : Pattern)
    → at_values (values_from k (q ∷ [])) (ex (k + 1) u (equal (var (k + 1)) (inject c s u (var k))))
    ≡ ex (k + 1) u (equal (var (k + 1)) (inject c s u q))
subsort_made k c s u q =
    ap (ex (k + 1) u)
    (two_same equal (values_from k (q ∷ []) (k + 1)) (inject c s u (values_from k (q ∷ []) k))
    (var (k + 1)) (inject c s u q) (later k q)
    (ap (inject c s u) (value_here k q [])))

-- what is known after the axiom was taken at the pattern
pub record IsTaken (cx : Context) (h : Pattern) (k a b : ℕ) (total fact some : Theorem)
    (facts : List Theorem) : Type 0 where
  pub says : SaysSubsortFrom cx a b k total.conclusion
  pub total_stays : StaysIn cx total
  pub only : facts ≡ fact ∷ []
  pub holds : HoldsOfPatterns h total.conclusion (conclusions facts) some.conclusion
  pub stays : StaysWithin (h ∷ []) (total ∷ facts) some

pub subsort_fits : (cx : Context) (h : Pattern) (k a b : ℕ) (q p : Pattern) (fact : Theorem)
    (facts : List Theorem) → facts ≡ fact ∷ [] → SaysSubsortFrom cx a b k p
    → IsElementAt cx h k a q fact → IsForPatterns h p (conclusions facts)
subsort_fits cx h k a b q p fact facts only says e =
    subst (λ (ts : List Theorem). IsForPatterns h p (conclusions ts)) (sym only)
    (subsort_for cx h k a b q p fact says e)

pub taken_some : (cx : Context) (h : Pattern) (k a b : ℕ) (q : Pattern)
    (total fact some : Theorem) (facts : List Theorem) → IsTaken cx h k a b total fact some facts
    → IsElementAt cx h k a q fact → IsSomeUnder some.conclusion
unfolding subsort_for
taken_some cx h k a b q total fact some facts t e =
    let holds : HoldsOfPatterns h total.conclusion (fact.conclusion ∷ []) some.conclusion =
    subst
    (λ (ts : List Theorem). HoldsOfPatterns h total.conclusion (conclusions ts) some.conclusion)
    t.only t.holds in
    record {
      h = h;
      variable = k + 1;
      sort = t.says.ends.upper;
      made = inject t.says.ends.symbol t.says.ends.lower t.says.ends.upper q;
      is =
          holds (subsort_for cx h k a b q total.conclusion fact t.says e)
          ∙ ap (imp h) (subsort_made k t.says.ends.symbol t.says.ends.lower t.says.ends.upper q);
      absent =
          absent-below k (k + 1) (inject t.says.ends.symbol t.says.ends.lower t.says.ends.upper q)
          (tt, e.below) (omega arith);
    }

pub taken_raises : (old cx : Context) (h : Pattern) (k a b : ℕ) (total fact some made : Theorem)
    (facts : List Theorem) → HasGrown old cx → IsTaken cx h k a b total fact some facts
    → IsOneUnder some.conclusion made.conclusion → StaysWithin [] (some ∷ []) made
    → RaisesTo old cx h k a b fact made
unfolding taken_some
taken_raises old cx h k a b total fact some made facts g t one stays = λ q before.
    let e : IsElementAt cx h k a q fact = element_grown old cx h k a q fact g before in
    record {
      head =
          at_sort (at_sort (constant t.says.ends.symbol) t.says.ends.lower) t.says.ends.upper;
      is_head = head_made cx.program.sig cx.names a b t.says.ends;
      injected = record {
        number = t.says.ends.upper;
        is_number = t.says.ends.is_upper;
        says = one (taken_some cx h k a b q total fact some facts t e);
        below = (tt, e.below);
        stays =
            λ s has. stays s tt (
              t.stays s (hypothesis_over cx h k a q fact s e has, tt) (
                t.total_stays s has,
                subst (λ (ts : List Theorem). AreWithin s ts)
                    (sym t.only) (e.stays s has, tt),
              ),
              tt,
            );
      };
    }

-- ---- a further pair

pub collapse_for : (cx : Context) (h : Pattern) (k a b d : ℕ) (q p : Pattern) (fact : Theorem)
    → SaysCollapseFrom cx a b d k p → IsElementAt cx h k a q fact
    → IsForPatterns h p (fact.conclusion ∷ [])
collapse_for cx h k a b d q p fact says e =
    let same : e.number ≡ says.ends.lower =
    some_same e.number says.ends.lower (sym e.is_number ∙ says.ends.is_lower) in
    record {
      k = k;
      numbers = says.ends.lower ∷ [];
      body =
          equal
          (inject says.ends.symbol says.ends.upper says.last
          (inject says.ends.symbol says.ends.lower says.ends.upper (var k)))
          (inject says.ends.symbol says.ends.lower says.last (var k));
      qs = q ∷ [];
      is = says.says;
      binds = ((tt, (tt, tt)), (tt, tt));
      facts_are =
          ap (λ (r : Pattern). r ∷ []) (e.says ∙ ap (λ (n : ℕ). imp h (fun q n)) same);
      many = refl;
      below = (e.below, tt);
    }

pub collapse_fits : (cx : Context) (h : Pattern) (k a b d : ℕ) (q p : Pattern) (fact : Theorem)
    (facts : List Theorem) → facts ≡ fact ∷ [] → SaysCollapseFrom cx a b d k p
    → IsElementAt cx h k a q fact → IsForPatterns h p (conclusions facts)
collapse_fits cx h k a b d q p fact facts only says e =
    subst (λ (ts : List Theorem). IsForPatterns h p (conclusions ts)) (sym only)
    (collapse_for cx h k a b d q p fact says e)

collapse_made : (k c s t u : ℕ) (q : Pattern) → at_values (values_from k (q ∷ []))
    (equal (inject c t u (inject c s t (var k))) (inject c s u (var k)))
    ≡ equal (inject c t u (inject c s t q)) (inject c s u q)
collapse_made k c s t u q =
    ap (λ (r : Pattern). equal (inject c t u (inject c s t r)) (inject c s u r)) (value_here k q [])

-- what is known after the axiom on both injections was taken at the pattern
pub record IsCollapsed (cx : Context) (h : Pattern) (k a b d : ℕ)
    (collapse fact upper equality : Theorem) (facts : List Theorem) : Type 0 where
  pub says : SaysCollapseFrom cx a b d k collapse.conclusion
  pub collapse_stays : StaysIn cx collapse
  pub only : facts ≡ fact ∷ []
  pub holds : HoldsOfPatterns h collapse.conclusion (conclusions facts) equality.conclusion
  pub stays : StaysWithin (h ∷ []) (collapse ∷ facts) equality

-- the pattern, its injection, and the injection of that
pub record IsTwice (cx : Context) (h : Pattern) (k a b d : ℕ) (fact upper : Theorem) (q : Pattern)
    : Type 0 where
  pub element : IsElementAt cx h k a q fact
  pub inner : Pattern
  pub is_inner : injection_image cx.program.sig cx.names a b ≡ Some inner
  pub outer : Pattern
  pub is_outer : injection_image cx.program.sig cx.names b d ≡ Some outer
  pub twice : IsElementAt cx h k d (app outer (app inner q)) upper

pub raised_twice : (old mid cx : Context) (h : Pattern) (k a b d : ℕ) (fact lower upper : Theorem)
    → HasGrown old mid → HasGrown mid cx → (r : IsRaised old h k a b fact lower)
    → RaisesTo old mid h k b d lower upper
    → IsTwice cx h k a b d fact upper r.q
raised_twice old mid cx h k a b d fact lower upper g i r raises =
    let up : IsInjectedAt mid h k b d (app r.injected.head r.q) upper =
    raises (app r.injected.head r.q) r.injected.injected in
    record {
      element =
          element_grown mid cx h k a r.q fact i (element_grown old mid h k a r.q fact g r.element);
      inner = r.injected.head;
      is_inner =
          head_grown mid cx a b r.injected.head i
          (head_grown old mid a b r.injected.head g r.injected.is_head);
      outer = up.head;
      is_outer = head_grown mid cx b d up.head i up.is_head;
      twice =
          element_grown mid cx h k d (app up.head (app r.injected.head r.q)) upper i up.injected;
    }

-- the ends of the upper injection
upper_ends : (cx : Context) (a b d k : ℕ) (p : Pattern) → SaysCollapseFrom cx a b d k p
    → HasEnds cx.program.sig cx.names b d
upper_ends cx a b d k p says = record {
  symbol = says.ends.symbol;
  is_symbol = says.ends.is_symbol;
  lower = says.ends.upper;
  is_lower = says.ends.is_upper;
  upper = says.last;
  is_upper = says.is_last;
}

whole_ends : (cx : Context) (a b d k : ℕ) (p : Pattern) → SaysCollapseFrom cx a b d k p
    → HasEnds cx.program.sig cx.names a d
whole_ends cx a b d k p says = record {
  symbol = says.ends.symbol;
  is_symbol = says.ends.is_symbol;
  lower = says.ends.lower;
  is_lower = says.ends.is_lower;
  upper = says.last;
  is_upper = says.is_last;
}

pub collapsed_carries : (cx : Context) (h : Pattern) (k a b d : ℕ)
    (collapse fact upper equality : Theorem) (facts : List Theorem) (q : Pattern)
    → IsCollapsed cx h k a b d collapse fact upper equality facts
    → IsTwice cx h k a b d fact upper q
    → AreCarried h equality.conclusion upper.conclusion
unfolding upper_ends collapse_for
collapsed_carries cx h k a b d collapse fact upper equality facts q c t =
    let says : SaysCollapseFrom cx a b d k collapse.conclusion = c.says in
    let holds : HoldsOfPatterns h collapse.conclusion (fact.conclusion ∷ []) equality.conclusion =
    subst
    (λ (ts : List Theorem). HoldsOfPatterns h collapse.conclusion (conclusions ts)
    equality.conclusion) c.only c.holds in
    let inner : t.inner
    ≡ at_sort (at_sort (constant c.says.ends.symbol) c.says.ends.lower) c.says.ends.upper =
    some_same t.inner
    (at_sort (at_sort (constant c.says.ends.symbol) c.says.ends.lower) c.says.ends.upper)
    (sym t.is_inner ∙ head_made cx.program.sig cx.names a b c.says.ends) in
    let outer : t.outer
    ≡ at_sort (at_sort (constant c.says.ends.symbol) c.says.ends.upper) c.says.last =
    some_same t.outer
    (at_sort (at_sort (constant c.says.ends.symbol) c.says.ends.upper) c.says.last)
    (sym t.is_outer
    ∙ head_made cx.program.sig cx.names b d
    (upper_ends cx a b d k collapse.conclusion c.says)) in
    record {
      left =
          inject c.says.ends.symbol c.says.ends.upper c.says.last
          (inject c.says.ends.symbol c.says.ends.lower c.says.ends.upper q);
      right = inject c.says.ends.symbol c.says.ends.lower c.says.last q;
      sort = t.twice.number;
      equals =
          holds (collapse_for cx h k a b d q collapse.conclusion fact c.says t.element)
          ∙ ap (imp h)
          (collapse_made k c.says.ends.symbol c.says.ends.lower c.says.ends.upper c.says.last q);
      says =
          t.twice.says
          ∙ ap (λ (r : Pattern). imp h (fun r t.twice.number))
          (two_same (λ (x y : Pattern). app x (app y q)) t.outer t.inner
          (at_sort (at_sort (constant c.says.ends.symbol) c.says.ends.upper) c.says.last)
          (at_sort (at_sort (constant c.says.ends.symbol) c.says.ends.lower) c.says.ends.upper)
          outer inner);
    }

pub collapsed_raises : (cx : Context) (h : Pattern) (k a b d : ℕ)
    (collapse fact upper equality made : Theorem) (facts : List Theorem) (q : Pattern)
    → IsCollapsed cx h k a b d collapse fact upper equality facts
    → IsTwice cx h k a b d fact upper q
    → IsCarriedUnder h equality.conclusion upper.conclusion made.conclusion
    → StaysWithin (var k ∷ []) (equality ∷ upper ∷ []) made
    → IsInjectedAt cx h k a d q made
unfolding collapsed_carries whole_ends
collapsed_raises cx h k a b d collapse fact upper equality made facts q c t carried stays = record {
  head = at_sort (at_sort (constant c.says.ends.symbol) c.says.ends.lower) c.says.last;
  is_head =
      head_made cx.program.sig cx.names a d (whole_ends cx a b d k collapse.conclusion c.says);
  injected = record {
    number = t.twice.number;
    is_number = t.twice.is_number;
    says =
        carried (collapsed_carries cx h k a b d collapse fact upper equality facts q c t);
    below = (tt, t.element.below);
    stays =
        λ s has. stays s (has.objects k, tt) (
          c.stays s (hypothesis_over cx h k a q fact s t.element has, tt) (
            c.collapse_stays s has,
            subst (λ (ts : List Theorem). AreWithin s ts)
                (sym c.only) (t.element.stays s has, tt),
          ),
          (t.twice.stays s has, tt),
        );
  };
}

pub further_raises : (old mid new : Context) (h : Pattern) (k a b d : ℕ) (fact lower made : Theorem)
    → HasGrown old mid → RaisesTo old mid h k a b fact lower
    → RaisesFurther mid new h k a b d fact lower made → RaisesTo old new h k a d fact made
further_raises old mid new h k a b d fact lower made g raises further = λ q e.
    further (record {
      q = q;
      element = element_grown old mid h k a q fact g e;
      injected = raises q e;
    })
