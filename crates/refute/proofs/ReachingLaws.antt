-- If the instance of a pattern is the term, comparing comes to each variable that occurs in it.
use Rattle.std.proofs.Common.{◌≡◌, inl, inr, ℕ, List, [], ◌∷◌, Option, Some, refl, sym, ◌∙◌, ap, subst}
use Rattle.term_core.specs.Terms.{Tree, leaf, node, inj, Forest, injected}
use Rattle.term_core.specs.Patterns.{Pattern, Patterns, variable, domain_value, application}
use Rattle.term_core.specs.Patterns.{injection, call, no_pattern, more_patterns, binding}
use Rattle.term_core.specs.Patterns.{instance_of, instances_of}
use Rattle.rule_core.specs.Matching.{OccursIn, OccursInSome, RespectsSorts}
use Rattle.rule_core.specs.MatchSteps.{lowered}
use Rattle.rule_core.specs.Sorting.{HasSort, HaveSorts, IsTermOf}
use Rattle.rule_core.specs.Subsorts.{HasNoCycle}
use Rattle.rule_core.specs.declared.signature.Signature.{Signature}
use Rattle.rule_core.specs.declared.signature.SortRef.{SortRef}
use Rattle.rule_core.proofs.SortedInstances.{mapped, both_there, instance_is_sorted}
use Rattle.refute.specs.Clashes.{IsUpTo, StandTogether, ComesTo, here, argument, below}
use Rattle.refute.proofs.Finality.{came_from}

-- the variable is bound, and comparing comes to it and its binding
abbrev pub IsCome : List (ℕ × ℕ) → List (Option Tree) → ℕ → Pattern → Tree → Type 0
IsCome pairs theta x p t =
    (u : Tree) × (binding theta x ≡ Some u) × ComesTo pairs (variable x) u p t

-- one of the patterns comes to it
record IsComeIn (pairs : List (ℕ × ℕ)) (theta : List (Option Tree)) (x : ℕ) (ps : Patterns)
    (ts : Forest) : Type 0 where
  pattern : Pattern
  term : Tree
  together : StandTogether pattern term ps ts
  come : IsCome pairs theta x pattern term

-- what an injection becomes
record IsInjected (a c : ℕ) (w : Tree) : Type 0 where
  from : ℕ
  below : Tree
  is : injected a c w ≡ inj from c below

injected_is : (a c : ℕ) (w : Tree) → IsInjected a c w
injected_is a c (leaf s v) = record { from = a; below = leaf s v; is = refl }
injected_is a c (node f ts) = record { from = a; below = node f ts; is = refl }
injected_is a c (inj k d t) = record { from = k; below = t; is = refl }

come_below : (sig : Signature) (theta : List (Option Tree)) (x b c : ℕ) (p : Pattern) (w t : Tree)
    → HasNoCycle sig.subsorts → IsTermOf sig w b → injected b c w ≡ t
    → IsCome sig.subsorts theta x p w → IsCome sig.subsorts theta x (injection b c p) t
come_below sig theta x b c p w t acyclic sorted is come =
    let made : IsInjected b c w = injected_is b c w in
    let came : IsUpTo sig.subsorts made.from b × (w ≡ lowered made.from b made.below) =
    came_from sig made.from b c c w made.below acyclic sorted made.is in (
      come.0,
      come.1,
      subst (ComesTo sig.subsorts (variable x) come.0 (injection b c p)) (sym made.is ∙ is)
          (below came.0
          (subst (ComesTo sig.subsorts (variable x) come.0 p) came.1 come.2)),
    )

mutual
  pub reached : (sig : Signature) (variables : List ℕ) (theta : List (Option Tree)) (x : ℕ)
      (p : Pattern) (sort : ℕ) (t : Tree) → HasNoCycle sig.subsorts
      → RespectsSorts sig variables theta → HasSort sig variables p sort
      → instance_of theta p ≡ Some t → OccursIn x p → IsCome sig.subsorts theta x p t
  reached sig variables theta x (variable y) sort t acyclic respects h is occurs = (
    t,
    ap (binding theta) occurs ∙ is,
    subst (λ (z : ℕ). ComesTo sig.subsorts (variable x) t (variable z) t) occurs here,
  )
  reached sig variables theta x (domain_value s v) sort t acyclic respects h is occurs =
      absurd occurs
  reached sig variables theta x (application f ps) sort t acyclic respects
      (info, at, ctor, result, args) is occurs =
      let made = mapped (node f) (instances_of theta ps) t is in
      let one : IsComeIn sig.subsorts theta x ps made.0 =
      reached_in sig variables theta x ps [] info.args.items made.0 acyclic respects args made.1.0
      occurs in (
        one.come.0,
        one.come.1,
        subst (ComesTo sig.subsorts (variable x) one.come.0 (application f ps)) made.1.1
            (argument one.pattern one.term one.together one.come.2),
      )
  reached sig variables theta x (injection b c p) sort t acyclic respects
      (has, to, under, within) is occurs =
      let made = mapped (injected b c) (instance_of theta p) t is in
      come_below sig theta x b c p made.0 t acyclic
      (instance_is_sorted sig variables p b theta made.0 within respects made.1.0).0 made.1.1
      (reached sig variables theta x p b made.0 acyclic respects within made.1.0 occurs)
  reached sig variables theta x (call f ss ps) sort t acyclic respects h is occurs =
      absurd (let no : ⊥ = cc in no)

  reached_in : (sig : Signature) (variables : List ℕ) (theta : List (Option Tree)) (x : ℕ)
      (ps : Patterns) (sorts : List ℕ) (refs : List SortRef) (ts : Forest)
      → HasNoCycle sig.subsorts → RespectsSorts sig variables theta
      → HaveSorts sig variables sorts ps refs → instances_of theta ps ≡ Some ts
      → OccursInSome x ps → IsComeIn sig.subsorts theta x ps ts
  reached_in sig variables theta x no_pattern sorts refs ts acyclic respects h is occurs =
      absurd occurs
  reached_in sig variables theta x (more_patterns p ps) sorts [] ts acyclic respects h is occurs =
      absurd h
  reached_in sig variables theta x (more_patterns p ps) sorts (of ∷ refs) ts acyclic respects
      (sort, at, first, others) is (inl occurs) =
      let parts = both_there (instance_of theta p) (instances_of theta ps) ts is in
      record {
        pattern = p;
        term = parts.0;
        together =
            subst (StandTogether p parts.0 (more_patterns p ps)) (sym parts.1.1.0)
            (inl (refl, refl));
        come =
            reached sig variables theta x p sort parts.0 acyclic respects first parts.1.1.1.0
            occurs;
      }
  reached_in sig variables theta x (more_patterns p ps) sorts (of ∷ refs) ts acyclic respects
      (sort, at, first, others) is (inr occurs) =
      let parts = both_there (instance_of theta p) (instances_of theta ps) ts is in
      let one : IsComeIn sig.subsorts theta x ps parts.1.0 =
      reached_in sig variables theta x ps sorts refs parts.1.0 acyclic respects others
      parts.1.1.1.1 occurs in
      record {
        pattern = one.pattern;
        term = one.term;
        together =
            subst (StandTogether one.pattern one.term (more_patterns p ps)) (sym parts.1.1.0)
            (inr one.together);
        come = one.come;
      }
