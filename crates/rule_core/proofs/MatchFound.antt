-- With the bindings that matching adds, the pattern becomes the term.
use Rattle.std.proofs.Common.{◌≡◌, ◌≢◌, ◌<◌, ◌↔◌, ◌⊎◌, inl, inr, ℕ, Bool, true, false, List, []}
use Rattle.std.proofs.Common.{◌∷◌, length, set, slice_get, Option, option_map, Some, None, refl}
use Rattle.std.proofs.Common.{sym, ◌∙◌, ap, subst, ⊎_elim}
use Rattle.std.specs.Prelude.{IsSome, ◌==◌, ◌&&◌, ◌||◌, if◌then◌else◌}
use Rattle.std.specs.Option.{option_and_then}
use Rattle.std.proofs.lemmas.Bool.{eqb-true}
use Rattle.std.proofs.lemmas.List.{length-set}
use Rattle.std.proofs.lemmas.Option.{slice_get_within}
use Rattle.term_core.specs.Terms.{Tree, leaf, node, inj, Forest, no_tree, more_trees, injected}
use Rattle.term_core.specs.Terms.{IsNoInjection, IsNormal, AreNormal}
use Rattle.term_core.specs.TreeTest.{tree_eq}
use Rattle.term_core.specs.Patterns.{Pattern, Patterns, variable, domain_value, application}
use Rattle.term_core.specs.Patterns.{injection, call, no_pattern, more_patterns, binding}
use Rattle.term_core.specs.Patterns.{instance_of, instances_of}
use Rattle.term_core.proofs.Forests.{injected-other}
use Rattle.term_core.proofs.TreeTests.{Decides-tree_eq}
use Rattle.rule_core.specs.Sorting.{HasSort, HaveSorts, IsTermOf, IsSymbol, HasInjection}
use Rattle.rule_core.specs.Matching.{OccursIn, OccursInSome, RespectsSorts}
use Rattle.rule_core.specs.MatchLaws.{AreTermsOf}
use Rattle.rule_core.specs.MatchSteps.{lowered, bound_to, matched, all_matched}
use Rattle.rule_core.specs.Subsorts.{is_below}
use Rattle.rule_core.specs.declared.signature.Signature.{Signature}
use Rattle.rule_core.specs.declared.signature.SymInfo.{SymInfo}
use Rattle.rule_core.specs.declared.signature.SortRef.{SortRef}
use Rattle.rule_core.proofs.Belows.{both_true, is_below-true}
use Rattle.rule_core.proofs.Bindings.{Extends, Extends-refl, Extends-trans, same_or_other}
use Rattle.rule_core.proofs.Bindings.{binding-set_same, binding-set_other, IsSome-of}
use Rattle.rule_core.proofs.SortedInstances.{mapped, both_there}

-- the sources of a guarded option, and of an option that was found after another
pub guarded : {A : Type 0} (b : Bool) (o : Option A) (y : A) → (if b then o else None) ≡ Some y
    → (b ≡ true) × (o ≡ Some y)
guarded true o y e = (refl, e)
guarded false o y e = absurd (let no : ⊥ = cc in no)

pub after : {A B : Type 0} (f : A → Option B) (o : Option A) (y : B) → option_and_then f o ≡ Some y
    → (x : A) × ((o ≡ Some x) × (f x ≡ Some y))
after f None y e = absurd (let no : ⊥ = cc in no)
after f (Some x) y e = (x, (refl, e))

-- more bindings do not change an instance
mutual
  pub instance_of-extends : (more theta : List (Option Tree)) (p : Pattern) (t : Tree)
      → Extends more theta → instance_of theta p ≡ Some t → instance_of more p ≡ Some t
  instance_of-extends more theta (variable x) t h e = h x t e
  instance_of-extends more theta (domain_value s v) t h e = e
  instance_of-extends more theta (application f ps) t h e =
      let from = mapped (node f) (instances_of theta ps) t e in
      ap (option_map (node f)) (instances_of-extends more theta ps from.0 h from.1.0)
      ∙ ap (λ (u : Tree). Some u) from.1.1
  instance_of-extends more theta (injection a b p) t h e =
      let from = mapped (injected a b) (instance_of theta p) t e in
      ap (option_map (injected a b)) (instance_of-extends more theta p from.0 h from.1.0)
      ∙ ap (λ (u : Tree). Some u) from.1.1
  instance_of-extends more theta (call f ss ps) t h e = absurd (let no : ⊥ = cc in no)

  pub instances_of-extends : (more theta : List (Option Tree)) (ps : Patterns) (ts : Forest)
      → Extends more theta → instances_of theta ps ≡ Some ts → instances_of more ps ≡ Some ts
  instances_of-extends more theta no_pattern ts h e = e
  instances_of-extends more theta (more_patterns p ps) ts h e =
      let parts = both_there (instance_of theta p) (instances_of theta ps) ts e in
      rw (
        instance_of-extends more theta p parts.0 h parts.1.1.1.0,
        instances_of-extends more theta ps parts.1.0 h parts.1.1.1.1,
      )
      (ap (λ (us : Forest). Some us) (sym parts.1.1.0))

-- the effect of a search that begins with `old` and ends with `new`, if these variables occur in
-- the pattern
pub record Found (sig : Signature) (variables : List ℕ) (old new : List (Option Tree))
    (Stands : ℕ → Type 0) : Type 0 where
  pub extends : Extends new old
  pub room : length new ≡ length variables
  pub sorted : RespectsSorts sig variables new
  pub just : (x : ℕ) → IsSome (binding new x) ↔ (IsSome (binding old x) ⊎ Stands x)

-- no variable was bound
unchanged : (sig : Signature) (variables : List ℕ) (theta new : List (Option Tree))
    (Stands : ℕ → Type 0) → length theta ≡ length variables → RespectsSorts sig variables theta
    → theta ≡ new → ((x : ℕ) → Stands x → IsSome (binding theta x))
    → Found sig variables theta new Stands
unchanged sig variables theta new Stands room sorted same there =
    let P : List (Option Tree) → Type 0 = λ th. Found sig variables theta th Stands in
    subst P same (record {
      extends = Extends-refl theta;
      room = room;
      sorted = sorted;
      just = λ x. (λ h. inl h, λ h. ⊎_elim (λ some. some) (λ stands. there x stands) h);
    })

-- a variable may be bound to the tree
abbrev FitsAt : Signature → List ℕ → ℕ → Tree → Type 0
FitsAt sig variables y u =
    IsNormal u × ((s : ℕ) × (slice_get variables y ≡ Some s) × IsTermOf sig u s)

-- a variable was bound
bound : (sig : Signature) (variables : List ℕ) (theta : List (Option Tree)) (x : ℕ) (t : Tree)
    (sort : ℕ) → slice_get variables x ≡ Some sort → IsTermOf sig t sort → IsNormal t
    → length theta ≡ length variables → RespectsSorts sig variables theta → binding theta x ≡ None
    → Found sig variables theta (set theta x (Some t)) (λ y. y ≡ x)
    × (binding (set theta x (Some t)) x ≡ Some t)
bound sig variables theta x t sort at is normal room sorted free = (
  record {
    extends = extends;
    room = length-set theta x (Some t) ∙ room;
    sorted = respects;
    just = just;
  },
  here,
) where
  here : binding (set theta x (Some t)) x ≡ Some t
  here =
      let P : ℕ → Type 0 = λ n. x < n in
      binding-set_same theta x t (subst P (sym room) (slice_get_within variables x sort at))

  extends_at : (y : ℕ) (u : Tree) → binding theta y ≡ Some u → (y ≡ x) ⊎ (y ≢ x)
      → binding (set theta x (Some t)) y ≡ Some u
  extends_at y u e (inl same) =
      let no : None ≡ Some u = sym free ∙ ap (binding theta) (sym same) ∙ e in absurd (cc)
  extends_at y u e (inr other) = binding-set_other theta x y t other ∙ e

  extends : Extends (set theta x (Some t)) theta
  extends y u e = extends_at y u e (same_or_other y x)

  respects_at : (y : ℕ) (u : Tree) → binding (set theta x (Some t)) y ≡ Some u → (y ≡ x) ⊎ (y ≢ x)
      → FitsAt sig variables y u
  respects_at y u e (inl same) =
      let both : Some t ≡ Some u = sym here ∙ ap (binding (set theta x (Some t))) (sym same) ∙ e in
      let one : t ≡ u = cc in
      let P : Tree → Type 0 = FitsAt sig variables y in
      let Q : ℕ → Type 0 = λ z. FitsAt sig variables z t in
      subst P one (subst Q (sym same) (normal, (sort, at, is)))
  respects_at y u e (inr other) = sorted y u (sym (binding-set_other theta x y t other) ∙ e)

  respects : RespectsSorts sig variables (set theta x (Some t))
  respects y u e = respects_at y u e (same_or_other y x)

  to_at : (y : ℕ) → IsSome (binding (set theta x (Some t)) y) → (y ≡ x) ⊎ (y ≢ x)
      → IsSome (binding theta y) ⊎ (y ≡ x)
  to_at y some (inl same) = inr same
  to_at y some (inr other) =
      let P : Option Tree → Type 0 = IsSome in
      inl (subst P (binding-set_other theta x y t other) some)

  from_at : (y : ℕ) → IsSome (binding theta y) → (y ≡ x) ⊎ (y ≢ x)
      → IsSome (binding (set theta x (Some t)) y)
  from_at y some (inl same) = IsSome-of _ t (ap (binding (set theta x (Some t))) same ∙ here)
  from_at y some (inr other) =
      let P : Option Tree → Type 0 = IsSome in
      subst P (sym (binding-set_other theta x y t other)) some

  just : (y : ℕ) → IsSome (binding (set theta x (Some t)) y) ↔ (IsSome (binding theta y) ⊎ (y ≡ x))
  just y = (
    λ some. to_at y some (same_or_other y x),
    λ h. ⊎_elim (λ some. from_at y some (same_or_other y x))
        (λ same. IsSome-of _ t (ap (binding (set theta x (Some t))) same ∙ here)) h,
  )

-- a variable is bound now, or was bound to the same tree
found_variable : (sig : Signature) (variables : List ℕ) (theta new : List (Option Tree)) (x : ℕ)
    (t : Tree) (sort : ℕ) (o : Option Tree) → slice_get variables x ≡ Some sort
    → IsTermOf sig t sort → IsNormal t → length theta ≡ length variables
    → RespectsSorts sig variables theta → binding theta x ≡ o → bound_to t x theta o ≡ Some new
    → Found sig variables theta new (λ y. y ≡ x) × (binding new x ≡ Some t)
found_variable sig variables theta new x t sort None at is normal room sorted e found =
    let same : set theta x (Some t) ≡ new = cc in
    let P : List (Option Tree) → Type 0 =
    λ th. Found sig variables theta th (λ y. y ≡ x) × (binding th x ≡ Some t) in
    subst P same (bound sig variables theta x t sort at is normal room sorted e)
found_variable sig variables theta new x t sort (Some u) at is normal room sorted e found =
    let test = guarded (tree_eq u t) (Some theta) new found in
    let equal : u ≡ t = (Decides-tree_eq u t).0 test.0 in
    let same : theta ≡ new = cc in
    let there : binding theta x ≡ Some t = e ∙ ap (λ (v : Tree). Some v) equal in (
      unchanged sig variables theta new (λ y. y ≡ x) room sorted same
          (λ y eq. IsSome-of _ t (ap (binding theta) eq ∙ there)),
      ap (λ (th : List (Option Tree)). binding th x) (sym same) ∙ there,
    )

some_same : {A : Type 0} (x y : A) → Some x ≡ Some y → x ≡ y
some_same x y e = cc

-- a symbol has one declaration
pub same_symbol : (sig : Signature) (f g : ℕ) (info other : SymInfo) → f ≡ g → IsSymbol sig f info
    → IsSymbol sig g other → info ≡ other
same_symbol sig f g info other same (name, is) (again, at) =
    ap (λ (entry : List ℕ × SymInfo). entry.1) (some_same (name, info) (again, other)
    (sym is ∙ ap (λ i. slice_get sig.symbols i) same ∙ at))

-- the tree for a pattern under an injection is a well-sorted term
lowered_term : (sig : Signature) (a b c : ℕ) (t : Tree)
    → (a == b || is_below sig.subsorts a b) ≡ true → HasInjection sig → IsTermOf sig t a
    → IsNoInjection t → IsNormal t
    → IsTermOf sig (lowered a b t) b
    × (IsNormal (lowered a b t) × (injected b c (lowered a b t) ≡ inj a c t))
lowered_term sig a b c t test has is other normal = told (a == b) refl where
  told : (same : Bool) → (a == b) ≡ same
      → IsTermOf sig (lowered a b t) b
      × (IsNormal (lowered a b t) × (injected b c (lowered a b t) ≡ inj a c t))
  told true e =
      let one : a ≡ b = eqb-true a b e in
      let P : ℕ → Type 0 = λ s. IsTermOf sig t s in
      rw e (subst P one is, (normal, injected-other b c t other ∙ ap (λ s. inj s c t) (sym one)))
  told false e =
      let below : is_below sig.subsorts a b ≡ true = rw e at test in
      rw e ((has, refl, is_below-true sig.subsorts a b below, is), ((other, normal), refl))

mutual
  pub matched_found : (sig : Signature) (variables : List ℕ) (p : Pattern) (sort : ℕ) (t : Tree)
      (theta new : List (Option Tree)) → HasSort sig variables p sort → IsTermOf sig t sort
      → IsNormal t → length theta ≡ length variables → RespectsSorts sig variables theta
      → matched sig.subsorts p t theta ≡ Some new
      → Found sig variables theta new (λ x. OccursIn x p) × (instance_of new p ≡ Some t)
  matched_found sig variables (variable x) sort t theta new h is normal room sorted e =
      found_variable sig variables theta new x t sort (binding theta x) h is normal room sorted refl
      e
  matched_found sig variables (domain_value s v) sort t theta new h is normal room sorted e =
      let test = guarded (tree_eq t (leaf s v)) (Some theta) new e in
      let same : theta ≡ new = cc in (
        unchanged sig variables theta new (λ x. ⊥) room sorted same (λ x stands. absurd stands),
        ap (λ (u : Tree). Some u) (sym ((Decides-tree_eq t (leaf s v)).0 test.0)),
      )
  matched_found sig variables (application f ps) sort (leaf s v) theta new h is normal room sorted
      e =
      absurd (let no : ⊥ = cc in no)
  matched_found sig variables (application f ps) sort (inj a b t) theta new h is normal room sorted
      e =
      absurd (let no : ⊥ = cc in no)
  matched_found sig variables (application f ps) sort (node g ts) theta new
      (info, at, ctor, result, args) (info2, at2, ctor2, result2, args2) normal room sorted e =
      let test = guarded (f == g) (all_matched sig.subsorts ps ts theta) new e in
      let same : f ≡ g = eqb-true f g test.0 in
      let P : SymInfo → Type 0 = λ i. AreTermsOf sig [] ts i.args.items in
      let given : AreTermsOf sig [] ts info.args.items =
      subst P (sym (same_symbol sig f g info info2 same at at2)) args2 in
      let inside =
      all_found sig variables [] ps info.args.items ts theta new args given normal room sorted
      test.1 in
      (inside.0, ap (option_map (node f)) inside.1 ∙ ap (λ k. Some (node k ts)) same)
  matched_found sig variables (injection b c p) sort (leaf s v) theta new h is normal room sorted
      e =
      absurd (let no : ⊥ = cc in no)
  matched_found sig variables (injection b c p) sort (node g ts) theta new h is normal room sorted
      e =
      absurd (let no : ⊥ = cc in no)
  matched_found sig variables (injection b c p) sort (inj a d t) theta new (has, to, below, within)
      (has2, to2, below2, within2) normal room sorted e =
      let test =
      guarded ((c == d) && (a == b || is_below sig.subsorts a b))
      (matched sig.subsorts p (lowered a b t) theta) new e in
      let tests = both_true _ _ test.0 in
      let low = lowered_term sig a b c t tests.1 has within2 normal.0 normal.1 in
      let inside =
      matched_found sig variables p b (lowered a b t) theta new within low.0 low.1.0 room sorted
      test.1 in (
        inside.0,
        ap (option_map (injected b c)) inside.1
            ∙ ap (λ (u : Tree). Some u) (low.1.1 ∙ ap (λ k. inj a k t) (eqb-true c d tests.0)),
      )
  matched_found sig variables (call f sorts ps) sort t theta new h is normal room sorted e =
      absurd (let no : ⊥ = cc in no)

  pub all_found : (sig : Signature) (variables sorts : List ℕ) (ps : Patterns) (refs : List SortRef)
      (ts : Forest) (theta new : List (Option Tree)) → HaveSorts sig variables sorts ps refs
      → AreTermsOf sig sorts ts refs → AreNormal ts → length theta ≡ length variables
      → RespectsSorts sig variables theta → all_matched sig.subsorts ps ts theta ≡ Some new
      → Found sig variables theta new (λ x. OccursInSome x ps) × (instances_of new ps ≡ Some ts)
  all_found sig variables sorts no_pattern refs no_tree theta new h is normal room sorted e =
      let same : theta ≡ new = cc in (
        unchanged sig variables theta new (λ x. ⊥) room sorted same (λ x stands. absurd stands),
        refl,
      )
  all_found sig variables sorts no_pattern refs (more_trees t ts) theta new h is normal room sorted
      e =
      absurd (let no : ⊥ = cc in no)
  all_found sig variables sorts (more_patterns p ps) refs no_tree theta new h is normal room sorted
      e =
      absurd (let no : ⊥ = cc in no)
  all_found sig variables sorts (more_patterns p ps) [] (more_trees t ts) theta new h is normal room
      sorted e =
      absurd h
  all_found sig variables sorts (more_patterns p ps) (of ∷ refs) (more_trees t ts) theta new
      (sort, at, first, others) (sort2, at2, first2, others2) normal room sorted e =
      let mid = after (all_matched sig.subsorts ps ts) (matched sig.subsorts p t theta) new e in
      let both : Some sort2 ≡ Some sort = sym at2 ∙ at in
      let same : sort2 ≡ sort = cc in
      let P : ℕ → Type 0 = λ s. IsTermOf sig t s in
      let one =
      matched_found sig variables p sort t theta mid.0 first (subst P same first2) normal.0 room
      sorted mid.1.0 in
      let rest =
      all_found sig variables sorts ps refs ts mid.0 new others others2 normal.1 one.0.room
      one.0.sorted mid.1.1 in (
        record {
          extends = Extends-trans new mid.0 theta rest.0.extends one.0.extends;
          room = rest.0.room;
          sorted = rest.0.sorted;
          just = λ x. (
            λ some. ⊎_elim (λ before.
                ⊎_elim (λ old. inl old) (λ here. inr (inl here)) ((one.0.just x).0 before))
                (λ later. inr (inr later)) ((rest.0.just x).0 some),
            λ h. (rest.0.just x).1 (⊎_elim (λ old. inl ((one.0.just x).1 (inl old)))
                (λ stands.
                ⊎_elim (λ here. inl ((one.0.just x).1 (inr here))) (λ later. inr later) stands)
                h),
          );
        },
        rw (instance_of-extends new mid.0 p t rest.0.extends one.1, rest.1) refl,
      )
