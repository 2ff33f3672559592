-- What fails to match has no instance that is the term.
use Rattle.std.proofs.Common.{◌≡◌, ◌≢◌, inl, inr, ℕ, Bool, true, false, List, [], ◌∷◌, Option}
use Rattle.std.proofs.Common.{Some, refl, sym, ◌∙◌, ap, subst, eq-eqb}
use Rattle.std.specs.Prelude.{◌==◌, if◌then◌else◌}
use Rattle.std.proofs.lemmas.Bool.{eqb-true}
use Rattle.term_core.specs.Terms.{DomainValue, Tree, leaf, node, inj, Forest, no_tree, more_trees}
use Rattle.term_core.specs.Terms.{injected}
use Rattle.term_core.specs.Patterns.{Pattern, Patterns, variable, domain_value, application}
use Rattle.term_core.specs.Patterns.{injection, call, no_pattern, more_patterns}
use Rattle.term_core.specs.Patterns.{instance_of, instances_of}
use Rattle.rule_core.specs.Sorting.{HasSort, HaveSorts, IsTermOf}
use Rattle.rule_core.specs.Matching.{RespectsSorts}
use Rattle.rule_core.specs.MatchSteps.{lowered}
use Rattle.rule_core.specs.Subsorts.{IsBelow, HasNoCycle}
use Rattle.rule_core.specs.declared.signature.Signature.{Signature}
use Rattle.rule_core.specs.declared.signature.SortRef.{SortRef}
use Rattle.rule_core.proofs.SortedInstances.{mapped, both_there, instance_is_sorted}
use Rattle.refute.specs.Clashes.{IsUpTo, StandTogether, ComesTo, here, argument, below, Clash}
use Rattle.refute.specs.Clashes.{clash, two_bindings}
use Rattle.refute.specs.ClashLaws.{FailureIsFinal}

some_same : {A : Type 0} (a b : A) → Some a ≡ Some b → a ≡ b
some_same a b h = cc

-- ---- injections

lowered_same : (a b : ℕ) (t : Tree) → a ≡ b → lowered a b t ≡ t
lowered_same a b t same = ap (λ (k : Bool). if k then t else inj a b t) (eq-eqb a b same)

lowered_other : (a b : ℕ) (t : Tree) → a ≢ b → lowered a b t ≡ inj a b t
lowered_other a b t other = go (a == b) refl
  where
    go : (k : Bool) → (a == b) ≡ k → (if k then t else inj a b t) ≡ inj a b t
    go true is = absurd (other (eqb-true a b is))
    go false is = refl

-- what an injected term was before
pub came_from : (sig : Signature) (a b c d : ℕ) (w t : Tree) → HasNoCycle sig.subsorts
    → IsTermOf sig w b → injected b c w ≡ inj a d t
    → IsUpTo sig.subsorts a b × (w ≡ lowered a b t)
came_from sig a b c d (leaf s v) t acyclic is e =
    let same : a ≡ b = cc in
    let what : leaf s v ≡ t = cc in
    (inl same, what ∙ sym (lowered_same a b t same))
came_from sig a b c d (node f ts) t acyclic is e =
    let same : a ≡ b = cc in
    let what : node f ts ≡ t = cc in
    (inl same, what ∙ sym (lowered_same a b t same))
came_from sig a b c d (inj k to u) t acyclic (has, at, under, inside) e =
    let from : k ≡ a = cc in
    let what : u ≡ t = cc in
    let low : IsBelow sig.subsorts a b =
    subst (λ (n : ℕ). IsBelow sig.subsorts n b) from
    (subst (λ (n : ℕ). IsBelow sig.subsorts k n) at under) in
    let other : a ≢ b =
    λ same. acyclic a (subst (λ (n : ℕ). IsBelow sig.subsorts a n) (sym same) low) in (
      inr low,
      ap (λ (n : ℕ). inj n to u) from ∙ ap (λ (n : ℕ). inj a n u) at ∙ ap (inj a b) what
          ∙ sym (lowered_other a b t other),
    )

-- ---- what comparing comes to

-- a well-sorted pattern whose instance is the term
abbrev IsInstance : Signature → List ℕ → List (Option Tree) → Pattern → Tree → Type 0
IsInstance sig variables theta p t =
    (sort : ℕ) × (HasSort sig variables p sort × (instance_of theta p ≡ Some t))

together_instance : (sig : Signature) (variables sorts : List ℕ) (theta : List (Option Tree))
    (p : Pattern) (t : Tree) (ps : Patterns) (refs : List SortRef) (ts : Forest)
    → StandTogether p t ps ts → HaveSorts sig variables sorts ps refs
    → instances_of theta ps ≡ Some ts → IsInstance sig variables theta p t
together_instance sig variables sorts theta p t no_pattern refs ts together h e = absurd together
together_instance sig variables sorts theta p t (more_patterns q qs) [] ts together h e = absurd h
together_instance sig variables sorts theta p t (more_patterns q qs) (of ∷ refs) no_tree together h
    e = absurd together
together_instance sig variables sorts theta p t (more_patterns q qs) (of ∷ refs) (more_trees u us)
    (inl (one, other)) (sort, at, first, others) e =
    let parts = both_there (instance_of theta q) (instances_of theta qs) (more_trees u us) e in
    let same : parts.0 ≡ u = cc in (
      sort,
      (
        subst (λ (r : Pattern). HasSort sig variables r sort) (sym one) first,
        ap (instance_of theta) one ∙ parts.1.1.1.0
            ∙ ap (λ (w : Tree). Some w) (same ∙ sym other),
      ),
    )
together_instance sig variables sorts theta p t (more_patterns q qs) (of ∷ refs) (more_trees u us)
    (inr later) (sort, at, first, others) e =
    let parts = both_there (instance_of theta q) (instances_of theta qs) (more_trees u us) e in
    let same : parts.1.0 ≡ us = cc in
    together_instance sig variables sorts theta p t qs refs us later others
    (parts.1.1.1.1 ∙ ap (λ (ws : Forest). Some ws) same)

comes_to_instance : (sig : Signature) (variables : List ℕ) (theta : List (Option Tree))
    (q : Pattern) (u : Tree) {p : Pattern} {t : Tree} → HasNoCycle sig.subsorts
    → RespectsSorts sig variables theta → ComesTo sig.subsorts q u p t
    → IsInstance sig variables theta p t → IsInstance sig variables theta q u
comes_to_instance sig variables theta q u acyclic respects here is = is
comes_to_instance sig variables theta q u acyclic respects
    (argument {f = f} {ps = ps} {ts = ts} p t together inside)
    (sort, ((info, at, ctor, result, args), e)) =
    let made = mapped (node f) (instances_of theta ps) (node f ts) e in
    let same : made.0 ≡ ts = cc in
    comes_to_instance sig variables theta q u acyclic respects inside
    (together_instance sig variables [] theta p t ps info.args.items ts together args
    (made.1.0 ∙ ap (λ (ws : Forest). Some ws) same))
comes_to_instance sig variables theta q u acyclic respects
    (below {a = a} {b = b} {c = c} {p = p} {t = t} up inside)
    (sort, ((has, to, under, within), e)) =
    let made = mapped (injected b c) (instance_of theta p) (inj a c t) e in
    let sorted : IsTermOf sig made.0 b =
    (instance_is_sorted sig variables p b theta made.0 within respects made.1.0).0 in
    let came : made.0 ≡ lowered a b t =
    (came_from sig a b c c made.0 t acyclic sorted made.1.1).1 in
    comes_to_instance sig variables theta q u acyclic respects inside
    (b, (within, made.1.0 ∙ ap (λ (w : Tree). Some w) came))

-- ---- clashes

clash_never : (sig : Signature) (variables : List ℕ) (theta : List (Option Tree)) (q : Pattern)
    (u : Tree) → HasNoCycle sig.subsorts → RespectsSorts sig variables theta
    → Clash sig.subsorts q u → IsInstance sig variables theta q u → ⊥
clash_never sig variables theta (variable x) u acyclic respects h is = h
clash_never sig variables theta (domain_value s v) (leaf r w) acyclic respects h (sort, (of, e)) =
    let same : v ≡ w = cc in h same
clash_never sig variables theta (domain_value s v) (node g ts) acyclic respects h (sort, (of, e)) =
    cc
clash_never sig variables theta (domain_value s v) (inj a d t) acyclic respects h (sort, (of, e)) =
    cc
clash_never sig variables theta (application f ps) (leaf r w) acyclic respects h (sort, (of, e)) =
    let made = mapped (node f) (instances_of theta ps) (leaf r w) e in
    let bad : node f made.0 ≡ leaf r w = made.1.1 in cc
clash_never sig variables theta (application f ps) (node g ts) acyclic respects h (sort, (of, e)) =
    let made = mapped (node f) (instances_of theta ps) (node g ts) e in
    let both : node f made.0 ≡ node g ts = made.1.1 in
    let same : f ≡ g = cc in h same
clash_never sig variables theta (application f ps) (inj a d t) acyclic respects h (sort, (of, e)) =
    let made = mapped (node f) (instances_of theta ps) (inj a d t) e in
    let bad : node f made.0 ≡ inj a d t = made.1.1 in cc
clash_never sig variables theta (injection b c p) u acyclic respects h
    (sort, ((has, to, under, within), e)) =
    let made = mapped (injected b c) (instance_of theta p) u e in
    let sorted : IsTermOf sig made.0 b =
    (instance_is_sorted sig variables p b theta made.0 within respects made.1.0).0 in
    go u h made.0 sorted made.1.1
  where
    no_leaf : (w : Tree) (r : ℕ) (v : DomainValue) → injected b c w ≡ leaf r v → ⊥
    no_leaf (leaf s x) r v same = cc
    no_leaf (node f ts) r v same = cc
    no_leaf (inj k d t) r v same = cc

    no_node : (w : Tree) (g : ℕ) (us : Forest) → injected b c w ≡ node g us → ⊥
    no_node (leaf s x) g us same = cc
    no_node (node f ts) g us same = cc
    no_node (inj k d t) g us same = cc

    go : (u : Tree) → Clash sig.subsorts (injection b c p) u → (w : Tree) → IsTermOf sig w b
        → injected b c w ≡ u → ⊥
    go (leaf r v) h w is same = no_leaf w r v same
    go (node g us) h w is same = no_node w g us same
    go (inj a d t) h w is same = h (came_from sig a b c d w t acyclic is same).0
clash_never sig variables theta (call f sorts ps) u acyclic respects h is = h

pub failure_is_final : FailureIsFinal
failure_is_final sig variables p sort t theta acyclic h respects (clash q u comes clashes) e =
    clash_never sig variables theta q u acyclic respects clashes
    (comes_to_instance sig variables theta q u acyclic respects comes (sort, (h, e)))
failure_is_final sig variables p sort t theta acyclic h respects (two_bindings x u w one two other)
    e =
    let first =
    comes_to_instance sig variables theta (variable x) u acyclic respects one (sort, (h, e)) in
    let second =
    comes_to_instance sig variables theta (variable x) w acyclic respects two (sort, (h, e)) in
    other (some_same u w (sym first.1.1 ∙ second.1.1))
