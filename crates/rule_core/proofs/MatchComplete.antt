-- If the pattern becomes the term under a substitution, matching adds only bindings of that
-- substitution.
use Rattle.std.proofs.Common.{◌≡◌, ◌≢◌, ◌<◌, ◌⊎◌, inl, inr, ℕ, List, [], ◌∷◌, length, set}
use Rattle.std.proofs.Common.{slice_get, Option, Some, None, refl, sym, ◌∙◌, ap, subst, eq-eqb}
use Rattle.std.proofs.lemmas.List.{length-set}
use Rattle.std.proofs.lemmas.Option.{slice_get_within}
use Rattle.term_core.specs.Terms.{Tree, leaf, node, inj, Forest, no_tree, more_trees, injected}
use Rattle.term_core.specs.Patterns.{Pattern, Patterns, variable, domain_value, application}
use Rattle.term_core.specs.Patterns.{injection, call, no_pattern, more_patterns, binding}
use Rattle.term_core.specs.Patterns.{instance_of, instances_of}
use Rattle.term_core.proofs.TreeTests.{Decides-tree_eq}
use Rattle.rule_core.specs.Subsorts.{IsBelow, HasNoCycle}
use Rattle.rule_core.specs.Sorting.{HasSort, HaveSorts, IsTermOf}
use Rattle.rule_core.specs.Matching.{RespectsSorts}
use Rattle.rule_core.specs.MatchSteps.{bound_to, matched, all_matched}
use Rattle.rule_core.specs.declared.signature.Signature.{Signature}
use Rattle.rule_core.specs.declared.signature.SortRef.{SortRef}
use Rattle.rule_core.proofs.Belows.{true-is_below, no_loop}
use Rattle.rule_core.proofs.Bindings.{Extends, same_or_other, binding-set_same, binding-set_other}
use Rattle.rule_core.proofs.SortedInstances.{mapped, both_there, instance_is_sorted}

-- matching finds a substitution, whose bindings are all bindings of sigma
abbrev pub FindsWithin : List ℕ → List (Option Tree) → Option (List (Option Tree)) → Type 0
FindsWithin variables sigma found =
    (new : List (Option Tree)) × (found ≡ Some new) × Extends sigma new
    × (length new ≡ length variables)

extends-set_at : (sigma theta : List (Option Tree)) (x : ℕ) (t : Tree) (y : ℕ) (u : Tree)
    → x < length theta → Extends sigma theta → binding sigma x ≡ Some t
    → binding (set theta x (Some t)) y ≡ Some u → (y ≡ x) ⊎ (y ≢ x) → binding sigma y ≡ Some u
extends-set_at sigma theta x t y u lt extends given e (inl same) =
    ap (binding sigma) same ∙ given ∙ sym (binding-set_same theta x t lt)
    ∙ ap (binding (set theta x (Some t))) (sym same) ∙ e
extends-set_at sigma theta x t y u lt extends given e (inr other) =
    extends y u (sym (binding-set_other theta x y t other) ∙ e)

variable_complete : (variables : List ℕ) (sigma theta : List (Option Tree)) (x sort : ℕ) (t : Tree)
    (o : Option Tree) → slice_get variables x ≡ Some sort → length theta ≡ length variables
    → Extends sigma theta → binding sigma x ≡ Some t → binding theta x ≡ o
    → FindsWithin variables sigma (bound_to t x theta o)
variable_complete variables sigma theta x sort t None at room extends given e =
    let P : ℕ → Type 0 = λ n. x < n in
    let lt : x < length theta = subst P (sym room) (slice_get_within variables x sort at) in (
      set theta x (Some t),
      refl,
      λ y u known. extends-set_at sigma theta x t y u lt extends given
          known (same_or_other y x),
      length-set theta x (Some t) ∙ room,
    )
variable_complete variables sigma theta x sort t (Some u) at room extends given e =
    let both : Some u ≡ Some t = sym (extends x u e) ∙ given in
    let same : u ≡ t = cc in
    (theta, rw ((Decides-tree_eq u t).1 same) refl, extends, room)

-- matching continues with the arguments of a constructor, and with the next pattern
node_complete : (pairs : List (ℕ × ℕ)) (f : ℕ) (ps : Patterns) (us : Forest) (t : Tree)
    (theta new : List (Option Tree)) → node f us ≡ t → all_matched pairs ps us theta ≡ Some new
    → matched pairs (application f ps) t theta ≡ Some new
node_complete pairs f ps us t theta new is e =
    let same : t ≡ node f us = sym is in rw (same, eq-eqb f f refl) e

list_complete : (pairs : List (ℕ × ℕ)) (p : Pattern) (ps : Patterns) (t : Tree) (us ts : Forest)
    (theta mid new : List (Option Tree)) → ts ≡ more_trees t us
    → matched pairs p t theta ≡ Some mid → all_matched pairs ps us mid ≡ Some new
    → all_matched pairs (more_patterns p ps) ts theta ≡ Some new
list_complete pairs p ps t us ts theta mid new is first rest = rw (is, first) rest

-- matching continues below an injection
injection_complete : (pairs : List (ℕ × ℕ)) (sig : Signature) (b c : ℕ) (p : Pattern) (u t : Tree)
    (theta new : List (Option Tree)) → sig.subsorts ≡ pairs → HasNoCycle pairs
    → IsTermOf sig u b → injected b c u ≡ t → matched pairs p u theta ≡ Some new
    → matched pairs (injection b c p) t theta ≡ Some new
injection_complete pairs sig b c p (leaf s v) t theta new is none sorted makes e =
    let same : t ≡ inj b c (leaf s v) = sym makes in rw (same, eq-eqb c c refl, eq-eqb b b refl) e
injection_complete pairs sig b c p (node f ts) t theta new is none sorted makes e =
    let same : t ≡ inj b c (node f ts) = sym makes in rw (same, eq-eqb c c refl, eq-eqb b b refl) e
injection_complete pairs sig b c p (inj a d v) t theta new is none (has, to, below, within) makes
    e =
    let same : t ≡ inj a c v = sym makes in
    let P : ℕ → Type 0 = λ s. IsBelow pairs a s in
    let Q : List (ℕ × ℕ) → Type 0 = λ ps. IsBelow ps a d in
    let under : IsBelow pairs a b = subst P to (subst Q is below) in
    rw (same, eq-eqb c c refl, no_loop pairs a b none under, true-is_below pairs a b under)
    (rw to at e)

mutual
  pub matched_complete : (sig : Signature) (variables : List ℕ) (p : Pattern) (sort : ℕ) (t : Tree)
      (sigma theta : List (Option Tree)) → HasNoCycle sig.subsorts
      → HasSort sig variables p sort → RespectsSorts sig variables sigma
      → length theta ≡ length variables → Extends sigma theta → instance_of sigma p ≡ Some t
      → FindsWithin variables sigma (matched sig.subsorts p t theta)
  matched_complete sig variables (variable x) sort t sigma theta none h respects room extends e =
      variable_complete variables sigma theta x sort t (binding theta x) h room extends e refl
  matched_complete sig variables (domain_value s v) sort t sigma theta none h respects room extends
      e =
      let same : t ≡ leaf s v = cc in
      (theta, rw ((Decides-tree_eq t (leaf s v)).1 same) refl, extends, room)
  matched_complete sig variables (application f ps) sort t sigma theta none
      (info, at, ctor, result, args) respects room extends e =
      let from = mapped (node f) (instances_of sigma ps) t e in
      let inside =
      all_complete sig variables [] ps info.args.items from.0 sigma theta none args respects
      room extends from.1.0 in (
        inside.0,
        node_complete sig.subsorts f ps from.0 t theta inside.0 from.1.1 inside.1,
        inside.2,
        inside.3,
      )
  matched_complete sig variables (injection b c p) sort t sigma theta none (has, to, below, within)
      respects room extends e =
      let from = mapped (injected b c) (instance_of sigma p) t e in
      let inside =
      matched_complete sig variables p b from.0 sigma theta none within respects room extends
      from.1.0 in
      let sorted = instance_is_sorted sig variables p b sigma from.0 within respects from.1.0 in (
        inside.0,
        injection_complete sig.subsorts sig b c p from.0 t theta inside.0 refl none sorted.0
            from.1.1 inside.1,
        inside.2,
        inside.3,
      )
  matched_complete sig variables (call f sorts ps) sort t sigma theta none h respects room extends
      e =
      absurd (let no : ⊥ = cc in no)

  pub all_complete : (sig : Signature) (variables sorts : List ℕ) (ps : Patterns)
      (refs : List SortRef) (ts : Forest) (sigma theta : List (Option Tree))
      → HasNoCycle sig.subsorts → HaveSorts sig variables sorts ps refs
      → RespectsSorts sig variables sigma → length theta ≡ length variables → Extends sigma theta
      → instances_of sigma ps ≡ Some ts
      → FindsWithin variables sigma (all_matched sig.subsorts ps ts theta)
  all_complete sig variables sorts no_pattern refs ts sigma theta none h respects room extends e =
      let same : ts ≡ no_tree = cc in (theta, rw same refl, extends, room)
  all_complete sig variables sorts (more_patterns p ps) [] ts sigma theta none h respects room
      extends e =
      absurd h
  all_complete sig variables sorts (more_patterns p ps) (of ∷ refs) ts sigma theta none
      (sort, at, first, others) respects room extends e =
      let parts = both_there (instance_of sigma p) (instances_of sigma ps) ts e in
      let one =
      matched_complete sig variables p sort parts.0 sigma theta none first respects room extends
      parts.1.1.1.0 in
      let rest =
      all_complete sig variables sorts ps refs parts.1.0 sigma one.0 none others respects one.3
      one.2 parts.1.1.1.1 in (
        rest.0,
        list_complete sig.subsorts p ps parts.0 parts.1.0 ts theta one.0 rest.0 parts.1.1.0 one.1
            rest.1,
        rest.2,
        rest.3,
      )
