-- Matching with names, from matching without them.
use Rattle.std.proofs.Common.{◌≡◌, ◌≢◌, ◌<◌, ◌≤◌, ◌⊎◌, inl, inr, ⊎_elim, ℕ, zero, suc, List, []}
use Rattle.std.proofs.Common.{◌∷◌, length, map, set, get_or, Option, option_map, Some, None, refl, sym}
use Rattle.std.proofs.Common.{◌∙◌, ap, subst, slice_get, arith}
use Rattle.std.specs.Prelude.{All, IsSome}
use Rattle.std.specs.Option.{option_and_then}
use Rattle.std.proofs.lemmas.List.{length-set, get_or-set_same, get_or-set_other}
use Rattle.std.proofs.lemmas.Option.{slice_get_within}
use Rattle.term_core.specs.Terms.{Tree, node, Forest, injected, height, heights, IsNormal}
use Rattle.term_core.specs.Patterns.{Pattern, Patterns, variable, domain_value, application}
use Rattle.term_core.specs.Patterns.{injection, call, no_pattern, more_patterns, binding}
use Rattle.term_core.specs.Patterns.{with_first, instance_of, instances_of}
use Rattle.term_core.proofs.Forests.{height-injected_le}
use Rattle.rule_core.specs.NamedParts.{Name, IsNamed, pattern_at, parts, part_at, part_of}
use Rattle.rule_core.specs.NamedParts.{part_instance}
use Rattle.rule_core.specs.Matching.{OccursIn, OccursInSome, RespectsSorts, MatchAll, MatchNamed}
use Rattle.rule_core.specs.Matching.{NoneMatches}
use Rattle.rule_core.specs.NamedLaws.{AddsNames, NamesMatch, NoneMatchesNamed}
use Rattle.rule_core.specs.Sorting.{HasSort, IsTermOf}
use Rattle.rule_core.specs.WellSorted.{HaveNames, AreDifferent}
use Rattle.rule_core.specs.declared.signature.Signature.{Signature}
use Rattle.rule_core.proofs.Bindings.{given, IsSome-of, same_or_other, same_bindings}
use Rattle.rule_core.proofs.SortedInstances.{mapped, both_there, instance_is_sorted}
use Rattle.rule_core.proofs.EvaluationUnique.{all_first, all_rest}

-- ---- whether a variable occurs

abbrev Decided : Type 0 → Type 0
Decided P = P ⊎ (P → ⊥)

either : {P Q : Type 0} → Decided P → Decided Q → Decided (P ⊎ Q)
either (inl p) q = inl (inl p)
either (inr np) (inl q) = inl (inr q)
either (inr np) (inr nq) = inr (λ h. ⊎_elim np nq h)

mutual
  pub occurs_or_not : (x : ℕ) (p : Pattern) → Decided (OccursIn x p)
  occurs_or_not x (variable y) = same_or_other x y
  occurs_or_not x (domain_value s v) = inr (λ no. no)
  occurs_or_not x (application f ps) = occurs_in_some_or_not x ps
  occurs_or_not x (injection a b p) = occurs_or_not x p
  occurs_or_not x (call f sorts ps) = occurs_in_some_or_not x ps

  pub occurs_in_some_or_not : (x : ℕ) (ps : Patterns) → Decided (OccursInSome x ps)
  occurs_in_some_or_not x no_pattern = inr (λ no. no)
  occurs_in_some_or_not x (more_patterns p ps) =
      either (occurs_or_not x p) (occurs_in_some_or_not x ps)

pub named_or_not : (names : List Name) (x : ℕ) → Decided (IsNamed names x)
named_or_not [] x = inr (λ no. no)
named_or_not (n ∷ names) x = either (same_or_other n.variable x) (named_or_not names x)

-- ---- instances depend on the variables that occur

mutual
  pub same_instance : (theta sigma : List (Option Tree)) (p : Pattern)
      → ((x : ℕ) → OccursIn x p → binding theta x ≡ binding sigma x)
      → instance_of theta p ≡ instance_of sigma p
  same_instance theta sigma (variable x) same = same x refl
  same_instance theta sigma (domain_value s v) same = refl
  same_instance theta sigma (application f ps) same =
      ap (option_map (node f)) (same_instances theta sigma ps same)
  same_instance theta sigma (injection a b p) same =
      ap (option_map (injected a b)) (same_instance theta sigma p same)
  same_instance theta sigma (call f sorts ps) same = refl

  pub same_instances : (theta sigma : List (Option Tree)) (ps : Patterns)
      → ((x : ℕ) → OccursInSome x ps → binding theta x ≡ binding sigma x)
      → instances_of theta ps ≡ instances_of sigma ps
  same_instances theta sigma no_pattern same = refl
  same_instances theta sigma (more_patterns p ps) same =
      rw (
        same_instance theta sigma p (λ x h. same x (inl h)),
        same_instances theta sigma ps (λ x h. same x (inr h)),
      ) refl

-- ---- what occurs in a part occurs in the patterns

pub occurs_at : (ps : Patterns) (i x : ℕ) (q : Pattern) → pattern_at ps i ≡ Some q → OccursIn x q
    → OccursInSome x ps
occurs_at no_pattern i x q e h = let no : ⊥ = cc in absurd no
occurs_at (more_patterns p ps) zero x q e h =
    let same : q ≡ p = cc in inl (subst (OccursIn x) same h)
occurs_at (more_patterns p ps) (suc i) x q e h = inr (occurs_at ps i x q e h)

occurs_above : (p : Pattern) (x : ℕ) → OccursInSome x (parts p) → OccursIn x p
occurs_above (variable y) x h = absurd h
occurs_above (domain_value s v) x h = absurd h
occurs_above (application f ps) x h = h
occurs_above (injection a b p) x h = ⊎_elim (λ k. k) (λ no. absurd no) h
occurs_above (call f sorts ps) x h = absurd h

-- the intermediate result of two searches in a row
pub between : {A B : Type 0} (f : A → Option B) (o : Option A) (y : B)
    → option_and_then f o ≡ Some y → (x : A) × (o ≡ Some x) × (f x ≡ Some y)
between f None y e = let no : ⊥ = cc in absurd no
between f (Some x) y e = (x, refl, e)

occurs_down : (way : List ℕ) (p q : Pattern) (x : ℕ) → part_at way p ≡ Some q → OccursIn x q
    → OccursIn x p
occurs_down [] p q x e h = let same : q ≡ p = cc in subst (OccursIn x) same h
occurs_down (i ∷ way) p q x e h =
    let step = between (part_at way) (pattern_at (parts p) i) q e in
    occurs_above p x
    (occurs_at (parts p) i x step.0 step.1 (occurs_down way step.0 q x step.2 h))

pub occurs_in_part : (ps : Patterns) (place : List ℕ) (q : Pattern) (x : ℕ)
    → part_of ps place ≡ Some q → OccursIn x q → OccursInSome x ps
occurs_in_part ps [] q x e h = let no : ⊥ = cc in absurd no
occurs_in_part ps (i ∷ way) q x e h =
    let step = between (part_at way) (pattern_at ps i) q e in
    occurs_at ps i x step.0 step.1 (occurs_down way step.0 q x step.2 h)

pub same_part_instance : (theta sigma : List (Option Tree)) (ps : Patterns) (place : List ℕ)
    → ((x : ℕ) → OccursInSome x ps → binding theta x ≡ binding sigma x)
    → part_instance theta ps place ≡ part_instance sigma ps place
same_part_instance theta sigma ps place same = found (part_of ps place) refl where
  found : (o : Option Pattern) → part_of ps place ≡ o
      → option_and_then (instance_of theta) o ≡ option_and_then (instance_of sigma) o
  found None e = refl
  found (Some q) e =
      same_instance theta sigma q (λ x h. same x (occurs_in_part ps place q x e h))

-- ---- the substitution without the names

-- a list changed by its indexes
abbrev with_index : (ℕ → Option Tree → Option Tree) → List (Option Tree) → List (Option Tree)
with_index f [] = []
with_index f (o ∷ os) = f 0 o ∷ with_index (λ i. f (suc i)) os

length-with_index : (f : ℕ → Option Tree → Option Tree) (os : List (Option Tree))
    → length (with_index f os) ≡ length os
length-with_index f [] = refl
length-with_index f (o ∷ os) = ap suc (length-with_index (λ i. f (suc i)) os)

binding-with_index : (f : ℕ → Option Tree → Option Tree) (os : List (Option Tree)) (x : ℕ)
    → ((i : ℕ) → f i None ≡ None) → binding (with_index f os) x ≡ f x (binding os x)
binding-with_index f [] x none = sym (none x)
binding-with_index f (o ∷ os) zero none = refl
binding-with_index f (o ∷ os) (suc x) none =
    binding-with_index (λ i. f (suc i)) os x (λ i. none (suc i))

abbrev kept_if : {P : Type 0} → Decided P → Option Tree → Option Tree
kept_if (inl p) o = o
kept_if (inr np) o = None

kept_if-none : {P : Type 0} (d : Decided P) → kept_if d None ≡ None
kept_if-none (inl p) = refl
kept_if-none (inr np) = refl

kept_if-yes : {P : Type 0} (d : Decided P) (o : Option Tree) → P → kept_if d o ≡ o
kept_if-yes (inl p) o h = refl
kept_if-yes (inr np) o h = absurd (np h)

kept_if-some : {P : Type 0} (d : Decided P) (o : Option Tree) (t : Tree) → kept_if d o ≡ Some t
    → P × (o ≡ Some t)
kept_if-some (inl p) o t e = (p, e)
kept_if-some (inr np) o t e = let no : ⊥ = cc in absurd no

-- only the variables of the patterns
abbrev pub without : Patterns → List (Option Tree) → List (Option Tree)
without ps theta = with_index (λ x o. kept_if (occurs_in_some_or_not x ps) o) theta

binding-without : (ps : Patterns) (theta : List (Option Tree)) (x : ℕ)
    → binding (without ps theta) x ≡ kept_if (occurs_in_some_or_not x ps) (binding theta x)
binding-without ps theta x =
    binding-with_index (λ y o. kept_if (occurs_in_some_or_not y ps) o) theta x
    (λ i. kept_if-none (occurs_in_some_or_not i ps))

pub without-same : (ps : Patterns) (theta : List (Option Tree)) (x : ℕ) → OccursInSome x ps
    → binding (without ps theta) x ≡ binding theta x
without-same ps theta x h =
    binding-without ps theta x ∙ kept_if-yes (occurs_in_some_or_not x ps) (binding theta x) h

pub match_without : (sig : Signature) (variables : List ℕ) (ps : Patterns) (names : List Name)
    (ts : Forest) (theta : List (Option Tree)) → MatchNamed sig variables ps names ts theta
    → MatchAll sig variables ps ts (without ps theta)
match_without sig variables ps names ts theta m = record {
  binds = record {
    room =
        length-with_index (λ x o. kept_if (occurs_in_some_or_not x ps) o) theta ∙ m.binds.room;
    just = λ x. (
      λ some. let is = given (binding (without ps theta) x) some in (from x is.0 is.1).0,
      λ h. subst IsSome (sym (without-same ps theta x h)) ((m.binds.just x).1 (inl h)),
    );
    sorted = λ x t e. m.binds.sorted x t (from x t e).1;
  };
  makes =
      same_instances (without ps theta) theta ps (λ x h. without-same ps theta x h) ∙ m.makes;
} where
  from : (x : ℕ) (t : Tree) → binding (without ps theta) x ≡ Some t
      → OccursInSome x ps × (binding theta x ≡ Some t)
  from x t e =
      kept_if-some (occurs_in_some_or_not x ps) (binding theta x) t
      (sym (binding-without ps theta x) ∙ e)

pub none_matches_named : NoneMatchesNamed
none_matches_named sig variables ps names ts theta never m =
    never (without ps theta) (match_without sig variables ps names ts theta m)

-- without names both are the same
pub match_unnamed : (sig : Signature) (variables : List ℕ) (ps : Patterns) (ts : Forest)
    (theta : List (Option Tree)) → MatchAll sig variables ps ts theta
    → MatchNamed sig variables ps [] ts theta
match_unnamed sig variables ps ts theta m = record {
  binds = record {
    room = m.binds.room;
    just = λ x. (
      λ some. inl ((m.binds.just x).0 some),
      λ h. ⊎_elim (m.binds.just x).1 (λ (never : ⊥). absurd never) h,
    );
    sorted = m.binds.sorted;
  };
  makes = m.makes;
  named = λ i d lt. absurd (omega arith);
}

-- ---- at most one match

-- what holds of the name that a variable is
pub at_name : (P : Name → Type 0) (names : List Name) (x : ℕ) → All P names → IsNamed names x
    → (n : Name) × (n.variable ≡ x) × P n
at_name P [] x each is = absurd is
at_name P (n ∷ names) x each (inl same) = (n, same, all_first P n names each)
at_name P (n ∷ names) x each (inr later) = at_name P names x (all_rest P n names each) later

nothing_bound : (o : Option Tree) → (IsSome o → ⊥) → o ≡ None
nothing_bound None h = refl
nothing_bound (Some t) h = absurd (h (IsSome-of (Some t) t refl))

pub match_named_once : (sig : Signature) (variables : List ℕ) (ps : Patterns) (names : List Name)
    (ts : Forest) (theta sigma : List (Option Tree))
    → ((xs ys : List (Option Tree)) → MatchAll sig variables ps ts xs
    → MatchAll sig variables ps ts ys → xs ≡ ys)
    → MatchNamed sig variables ps names ts theta → MatchNamed sig variables ps names ts sigma
    → theta ≡ sigma
match_named_once sig variables ps names ts theta sigma once m k =
    same_bindings theta sigma (m.binds.room ∙ sym k.binds.room) bindings
  where
    one : without ps theta ≡ without ps sigma
    one = once (without ps theta) (without ps sigma)
        (match_without sig variables ps names ts theta m)
        (match_without sig variables ps names ts sigma k)

    occurring : (x : ℕ) → OccursInSome x ps → binding theta x ≡ binding sigma x
    occurring x h =
        sym (without-same ps theta x h) ∙ ap (λ xs. binding xs x) one ∙ without-same ps sigma x h

    at_names : (x : ℕ) → IsNamed names x → binding theta x ≡ binding sigma x
    at_names x h =
        let P : Name → Type 0 = λ n. binding theta n.variable ≡ part_instance theta ps n.place in
        let Q : Name → Type 0 = λ n. binding sigma n.variable ≡ part_instance sigma ps n.place in
        let here =
        at_name (λ n. P n × Q n) names x
        (λ i d lt. (m.named i d lt, k.named i d lt)) h in
        let parts_agree = same_part_instance theta sigma ps here.0.place occurring in
        let both : binding theta here.0.variable ≡ binding sigma here.0.variable =
        here.2.0 ∙ parts_agree ∙ sym here.2.1 in
        subst (λ y. binding theta y ≡ binding sigma y) here.1 both

    bindings : (x : ℕ) → binding theta x ≡ binding sigma x
    bindings x =
        ⊎_elim (occurring x) (λ no.
        ⊎_elim (at_names x) (λ none.
        nothing_bound (binding theta x) (λ some. ⊎_elim no none ((m.binds.just x).0 some))
        ∙ sym (nothing_bound (binding sigma x) (λ some. ⊎_elim no none ((k.binds.just x).0 some))))
        (named_or_not names x)) (occurs_in_some_or_not x ps)

-- ---- names of a match

-- the pattern has an instance, no higher than this
abbrev HasInstance : ℕ → List (Option Tree) → Pattern → Type 0
HasInstance n theta p = (t : Tree) × (instance_of theta p ≡ Some t) × (height t ≤ n)

instance_at : (theta : List (Option Tree)) (ps : Patterns) (ts : Forest) (i : ℕ) (q : Pattern)
    → instances_of theta ps ≡ Some ts → pattern_at ps i ≡ Some q → HasInstance (heights ts) theta q
instance_at theta no_pattern ts i q makes e = let no : ⊥ = cc in absurd no
instance_at theta (more_patterns p ps) ts zero q makes e =
    let there = both_there (instance_of theta p) (instances_of theta ps) ts makes in
    let same : p ≡ q = cc in
    let low : height there.0 ≤ heights ts =
    subst (λ w. height there.0 ≤ heights w) (sym there.1.1.0) (omega arith) in
    (there.0, subst (λ r. instance_of theta r ≡ Some there.0) same there.1.1.1.0, low)
instance_at theta (more_patterns p ps) ts (suc i) q makes e =
    let there = both_there (instance_of theta p) (instances_of theta ps) ts makes in
    let rest = instance_at theta ps there.1.0 i q there.1.1.1.1 e in
    let low : height rest.0 ≤ heights ts =
    subst (λ w. height rest.0 ≤ heights w) (sym there.1.1.0) (omega (arith, rest.2)) in
    (rest.0, rest.1, low)

instance_below : (theta : List (Option Tree)) (p : Pattern) (t : Tree) (i : ℕ) (q : Pattern)
    → instance_of theta p ≡ Some t → pattern_at (parts p) i ≡ Some q
    → HasInstance (height t) theta q
instance_below theta (variable x) t i q makes e = let no : ⊥ = cc in absurd no
instance_below theta (domain_value s v) t i q makes e = let no : ⊥ = cc in absurd no
instance_below theta (application f ps) t i q makes e =
    let from = mapped (node f) (instances_of theta ps) t makes in
    let inside = instance_at theta ps from.0 i q from.1.0 e in
    let low : height inside.0 ≤ height t =
    subst (λ w. height inside.0 ≤ height w) from.1.1 (omega (arith, inside.2)) in
    (inside.0, inside.1, low)
instance_below theta (injection a b p) t zero q makes e =
    let from = mapped (injected a b) (instance_of theta p) t makes in
    let same : p ≡ q = cc in
    let low : height from.0 ≤ height t =
    subst (λ w. height from.0 ≤ height w) from.1.1 (height-injected_le a b from.0) in
    (from.0, subst (λ r. instance_of theta r ≡ Some from.0) same from.1.0, low)
instance_below theta (injection a b p) t (suc i) q makes e = let no : ⊥ = cc in absurd no
instance_below theta (call f sorts ps) t i q makes e = let no : ⊥ = cc in absurd no

instance_down : (n : ℕ) (theta : List (Option Tree)) (way : List ℕ) (p q : Pattern)
    → HasInstance n theta p → part_at way p ≡ Some q → HasInstance n theta q
instance_down n theta [] p q has e =
    let same : p ≡ q = cc in subst (HasInstance n theta) same has
instance_down n theta (i ∷ way) p q has e =
    let step = between (part_at way) (pattern_at (parts p) i) q e in
    let below = instance_below theta p has.0 i step.0 has.1 step.1 in
    instance_down n theta way step.0 q (below.0, below.1, omega (arith, below.2, has.2)) step.2

pub part_has_instance : (theta : List (Option Tree)) (ps : Patterns) (ts : Forest)
    (place : List ℕ) (q : Pattern) → instances_of theta ps ≡ Some ts
    → part_of ps place ≡ Some q → HasInstance (heights ts) theta q
part_has_instance theta ps ts [] q makes e = let no : ⊥ = cc in absurd no
part_has_instance theta ps ts (i ∷ way) q makes e =
    let step = between (part_at way) (pattern_at ps i) q e in
    instance_down (heights ts) theta way step.0 q
    (instance_at theta ps ts i step.0 makes step.1) step.2

-- a named part is no higher than the terms
pub part_low : (theta : List (Option Tree)) (ps : Patterns) (ts : Forest) (place : List ℕ) (t : Tree)
    → instances_of theta ps ≡ Some ts → part_instance theta ps place ≡ Some t
    → height t ≤ heights ts
part_low theta ps ts place t makes e =
    let step = between (instance_of theta) (part_of ps place) t e in
    let has = part_has_instance theta ps ts place step.0 makes step.1 in
    let both : Some has.0 ≡ Some t = sym has.1 ∙ step.2 in
    let same : has.0 ≡ t = cc in
    subst (λ u. height u ≤ heights ts) same has.2

-- what is known of a name, and the term of its part
record IsNamedPart (sig : Signature) (variables : List ℕ) (ps : Patterns)
    (theta sigma : List (Option Tree)) (x : ℕ) : Type 0 where
  term : Tree
  sort : ℕ
  bound : binding sigma x ≡ Some term
  typed : slice_get variables x ≡ Some sort
  has : IsTermOf sig term sort
  normal : IsNormal term

named_part : (sig : Signature) (variables : List ℕ) (ps : Patterns) (names : List Name)
    (ts : Forest) (theta sigma : List (Option Tree)) → HaveNames sig variables ps names
    → MatchAll sig variables ps ts theta → AddsNames ps names theta sigma → (x : ℕ)
    → IsNamed names x → IsNamedPart sig variables ps theta sigma x
named_part sig variables ps names ts theta sigma have m adds x is = of_name here where
  Known : Name → Type 0
  Known n =
      ((p : Pattern) × (sort : ℕ) × (part_of ps n.place ≡ Some p)
      × HasSort sig variables p sort × (slice_get variables n.variable ≡ Some sort))
      × (binding sigma n.variable ≡ part_instance theta ps n.place)

  here : (n : Name) × (n.variable ≡ x) × Known n
  here = at_name Known names x (λ i d lt. (have.sorted i d lt, adds.named i d lt)) is

  of_name : (n : Name) × (n.variable ≡ x) × Known n → IsNamedPart sig variables ps theta sigma x
  of_name (n, same, ((p, sort, at, sorted, typed), bound)) =
      let has = part_has_instance theta ps ts n.place p m.makes at in
      let told =
      instance_is_sorted sig variables p sort theta has.0 sorted m.binds.sorted has.1 in
      let is_part : part_instance theta ps n.place ≡ Some has.0 =
      ap (option_and_then (instance_of theta)) at ∙ has.1 in
      record {
        term = has.0;
        sort = sort;
        bound = subst (λ y. binding sigma y ≡ Some has.0) same (bound ∙ is_part);
        typed = subst (λ y. slice_get variables y ≡ Some sort) same typed;
        has = told.0;
        normal = told.1;
      }

-- no name occurs in the patterns
not_named : (sig : Signature) (variables : List ℕ) (ps : Patterns) (names : List Name) (x : ℕ)
    → HaveNames sig variables ps names → OccursInSome x ps → IsNamed names x → ⊥
not_named sig variables ps names x have occurs is =
    let here = at_name (λ n. OccursInSome n.variable ps → ⊥) names x have.elsewhere is in
    here.2 (subst (λ y. OccursInSome y ps) (sym here.1) occurs)

pub names_match : NamesMatch
names_match sig variables ps names ts theta sigma have m adds = record {
  binds = record {
    room = adds.room ∙ m.binds.room;
    just = λ x. (justified x, bound x);
    sorted = sorted;
  };
  makes = same_instances sigma theta ps same ∙ m.makes;
  named = λ i d lt. adds.named i d lt ∙ sym (same_part_instance sigma theta ps _ same);
} where
  same : (x : ℕ) → OccursInSome x ps → binding sigma x ≡ binding theta x
  same x h = adds.others x (not_named sig variables ps names x have h)

  part : (x : ℕ) → IsNamed names x → IsNamedPart sig variables ps theta sigma x
  part = named_part sig variables ps names ts theta sigma have m adds

  justified : (x : ℕ) → IsSome (binding sigma x) → OccursInSome x ps ⊎ IsNamed names x
  justified x some =
      ⊎_elim (λ (is : IsNamed names x). inr is) (λ (no : IsNamed names x → ⊥).
      inl ((m.binds.just x).0 (subst IsSome (adds.others x no) some))) (named_or_not names x)

  bound : (x : ℕ) → OccursInSome x ps ⊎ IsNamed names x → IsSome (binding sigma x)
  bound x (inl h) = subst IsSome (sym (same x h)) ((m.binds.just x).1 h)
  bound x (inr is) = let p = part x is in IsSome-of (binding sigma x) p.term p.bound

  sorted : RespectsSorts sig variables sigma
  sorted x t e =
      ⊎_elim (λ (is : IsNamed names x).
      let p = part x is in
      let both : Some p.term ≡ Some t = sym p.bound ∙ e in
      let one : p.term ≡ t = cc in
      (subst IsNormal one p.normal, (p.sort, p.typed, subst (λ u. IsTermOf sig u p.sort) one p.has)))
      (λ (no : IsNamed names x → ⊥). m.binds.sorted x t (sym (adds.others x no) ∙ e))
      (named_or_not names x)

-- ---- whether a match with names exists

abbrev added : Patterns → List (Option Tree) → List Name → List (Option Tree)
added ps theta [] = theta
added ps theta (n ∷ names) =
    set (added ps theta names) n.variable (part_instance theta ps n.place)

length-added : (ps : Patterns) (theta : List (Option Tree)) (names : List Name)
    → length (added ps theta names) ≡ length theta
length-added ps theta [] = refl
length-added ps theta (n ∷ names) =
    length-set (added ps theta names) n.variable (part_instance theta ps n.place)
    ∙ length-added ps theta names

all_more : {X : Type 0} (P : X → Type 0) (x : X) (xs : List X) → P x → All P xs → All P (x ∷ xs)
all_more P x xs first rest = each where
  each : All P (x ∷ xs)
  each zero d lt = first
  each (suc i) d lt = rest i d (omega arith)

-- one name more
pub adds_first : (ps : Patterns) (theta : List (Option Tree)) (n : Name) (names : List Name)
    (before : List (Option Tree))
    → All (λ y. n.variable ≢ y) (map (λ (m : Name). m.variable) names)
    → n.variable < length theta → AddsNames ps names theta before
    → AddsNames ps (n ∷ names) theta (set before n.variable (part_instance theta ps n.place))
adds_first ps theta n names before other within rest = record {
  room = length-set before n.variable value ∙ rest.room;
  others = λ x no. get_or-set_other before n.variable x value None
      (λ same. no (inl (sym same))) ∙ rest.others x (λ later. no (inr later));
  named = all_more
      (λ (m : Name). binding (set before n.variable value) m.variable
      ≡ part_instance theta ps m.place) n names
      (get_or-set_same before n.variable value None
      (subst (λ k. n.variable < k) (sym rest.room) within))
      (λ i d lt. get_or-set_other before n.variable _ value None
      (λ same. other_variable names other i d lt (sym same)) ∙ rest.named i d lt);
} where
  value : Option Tree
  value = part_instance theta ps n.place

  other_variable : (ms : List Name) → All (λ y. n.variable ≢ y) (map (λ (m : Name). m.variable) ms)
      → (i : ℕ) (d : Name) → i < length ms → n.variable ≢ (get_or ms i d).variable
  other_variable [] each i d lt = absurd (omega arith)
  other_variable (m ∷ ms) each zero d lt = each 0 m.variable (omega arith)
  other_variable (m ∷ ms) each (suc i) d lt =
      other_variable ms
      (all_rest (λ y. n.variable ≢ y) m.variable (map (λ (k : Name). k.variable) ms) each) i d
      (omega arith)

pub adds_names : (ps : Patterns) (theta : List (Option Tree)) (names : List Name)
    → AreDifferent (map (λ (n : Name). n.variable) names)
    → All (λ (n : Name). n.variable < length theta) names
    → AddsNames ps names theta (added ps theta names)
adds_names ps theta [] different within =
    record { room = refl; others = λ x no. refl; named = λ i d lt. absurd (omega arith) }
adds_names ps theta (n ∷ names) different within =
    let rest = adds_names ps theta names different.1
    (all_rest (λ (m : Name). m.variable < length theta) n names within) in
    adds_first ps theta n names (added ps theta names) different.0
    (all_first (λ (m : Name). m.variable < length theta) n names within) rest

abbrev pub NamedIsDecided : Signature → List ℕ → Patterns → List Name → Forest → Type 0
NamedIsDecided sig variables ps names ts =
    ((theta : List (Option Tree)) × MatchNamed sig variables ps names ts theta)
    ⊎ ((theta : List (Option Tree)) → MatchNamed sig variables ps names ts theta → ⊥)

pub match_named_is_decidable : (sig : Signature) (variables : List ℕ) (ps : Patterns)
    (names : List Name) (ts : Forest) → HaveNames sig variables ps names
    → ((theta : List (Option Tree)) × MatchAll sig variables ps ts theta)
    ⊎ NoneMatches sig variables ps ts → NamedIsDecided sig variables ps names ts
match_named_is_decidable sig variables ps names ts have (inl (theta, m)) =
    let within : All (λ (n : Name). n.variable < length theta) names =
    λ i d lt. let told = have.sorted i d lt in
    subst (λ k. (get_or names i d).variable < k) (sym m.binds.room)
    (slice_get_within variables (get_or names i d).variable told.1 told.4) in
    inl (
      added ps theta names,
      names_match sig variables ps names ts theta
          (added ps theta names) have m (adds_names ps theta names have.different within),
    )
match_named_is_decidable sig variables ps names ts have (inr never) =
    inr (λ theta m. none_matches_named sig variables ps names ts theta never m)
