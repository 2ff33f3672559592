-- Parts of a pattern and a term of one sort, over given subsorts.
use Rattle.std.proofs.Common.{◌≡◌, ℕ, zero, suc, Bool, true, false, List, [], ◌∷◌, Some, None}
use Rattle.std.proofs.Common.{slice_get, length, refl, sym, ◌∙◌, ap, subst}
use Rattle.std.specs.Prelude.{◌==◌, if◌then◌else◌}
use Rattle.term_core.specs.Terms.{Tree, node, inj, Forest, IsNormal}
use Rattle.term_core.specs.Terms.{IsNoInjection, injected}
use Rattle.term_core.specs.Forests.{forest, children}
use Rattle.term_core.specs.Patterns.{Pattern, Patterns, application, injection}
use Rattle.term_core.specs.Patterns.{ground_pattern, ground_patterns}
use Rattle.term_core.specs.RulePatterns.{plain_pattern}
use Rattle.term_core.specs.PatternLists.{plain_patterns}
use Rattle.term_core.specs.declared.rule_patterns.RulePat.{RulePat}
use Rattle.term_core.proofs.Forests.{forest-trees, injected-other}
use Rattle.rule_core.specs.MatchSteps.{lowered}
use Rattle.rule_core.specs.Sorting.{HasSort, HaveSorts, IsTermOf}
use Rattle.rule_core.specs.declared.signature.SymInfo.{SymInfo}
use Rattle.rule_core.specs.declared.signature.Signature.{Signature}
use Rattle.refute.specs.Bindings.{IsSortedPair, IsPairOver}
use Rattle.refute.specs.Clashes.{IsUpTo, StandTogether}
use Rattle.refute.proofs.Pairs.{as_many_sorted}
use Rattle.refute.proofs.PlaceSorts.{argument_sorted, below_sorted}

some_same : {A : Type 0} (a b : A) → Some a ≡ Some b → a ≡ b
some_same a b h = cc

-- ---- injected terms

pub lowered_kept : (a b : ℕ) (t u : Tree) → (a == b) ≡ true → t ≡ u → t ≡ lowered a b u
lowered_kept a b t u same is = is ∙ sym (ap (λ (k : Bool). if k then u else inj a b u) same)

pub lowered_made : (a b : ℕ) (t u w : Tree) → IsNoInjection u → (a == b) ≡ false → t ≡ u
    → w ≡ injected a b t → w ≡ lowered a b u
lowered_made a b t u w other differ is made =
    made ∙ ap (injected a b) is ∙ injected-other a b u other
    ∙ sym (ap (λ (k : Bool). if k then u else inj a b u) differ)

pub child_is : (a c : ℕ) (t u r : Tree) → t ≡ inj a c u → slice_get (children t) 0 ≡ Some r
    → r ≡ u
child_is a c t u r is at =
    some_same r u (sym at ∙ ap (λ (s : Tree). slice_get (children s) 0) is)

pub normal_inside : (pairs : List (ℕ × ℕ)) (a c : ℕ) (p : Pattern) (t u : Tree)
    → IsPairOver pairs p t → t ≡ inj a c u → IsNoInjection u
normal_inside pairs a c p t u is inside =
    let normal : IsNormal (inj a c u) = subst IsNormal inside is.pair.normal in normal.0

pub below_over : (pairs : List (ℕ × ℕ)) (a b c : ℕ) (p q : Pattern) (t u w : Tree)
    → IsPairOver pairs p t → p ≡ injection b c q → t ≡ inj a c u → IsUpTo pairs a b
    → w ≡ lowered a b u → IsPairOver pairs q w
below_over pairs a b c p q t u w is one other up made =
    let moved : IsSortedPair is.sig is.variables (injection b c q) (inj a c u) =
    subst (λ (r : Pattern). IsSortedPair is.sig is.variables r (inj a c u)) one
    (subst (λ (s : Tree). IsSortedPair is.sig is.variables p s) other is.pair) in
    record {
      sig = is.sig;
      variables = is.variables;
      subsorts = is.subsorts;
      pair =
          subst (IsSortedPair is.sig is.variables q) (sym made)
          (below_sorted is.sig is.variables a b c q u moved
          (subst (λ (s : List (ℕ × ℕ)). IsUpTo s a b) (sym is.subsorts) up));
    }

-- ---- arguments

pub whole_node : (f : ℕ) (ts : Forest) (t : Tree) → t ≡ node f ts
    → t ≡ node f (forest (children t))
whole_node f ts t is =
    is ∙ ap (node f) (sym (forest-trees ts) ∙ ap (λ (u : Tree). forest (children u)) (sym is))

pub wholes_are : (f : ℕ) (ts : Forest) (t : Tree) (ws : List RulePat) → t ≡ node f ts
    → plain_patterns ws ≡ ground_patterns ts
    → plain_patterns ws ≡ ground_patterns (forest (children t))
wholes_are f ts t ws is whole =
    whole ∙ ap ground_patterns (sym (forest-trees ts)
    ∙ ap (λ (u : Tree). forest (children u)) (sym is))

pub same_pattern_over : (pairs : List (ℕ × ℕ)) (p q : Pattern) (t : Tree) → p ≡ q
    → IsPairOver pairs p t → IsPairOver pairs q t
same_pattern_over pairs p q t same is = subst (λ (r : Pattern). IsPairOver pairs r t) same is

pub argument_over : (pairs : List (ℕ × ℕ)) (f : ℕ) (ps : Patterns) (ts : Forest) (p : Pattern)
    (t whole : Tree) → IsPairOver pairs (application f ps) whole → whole ≡ node f ts
    → StandTogether p t ps ts → IsPairOver pairs p t
argument_over pairs f ps ts p t whole is whole_is together = record {
  sig = is.sig;
  variables = is.variables;
  subsorts = is.subsorts;
  pair =
      argument_sorted is.sig is.variables f ps ts p t
      (subst (IsSortedPair is.sig is.variables (application f ps)) whole_is is.pair) together;
}

same_info : (sig : Signature) (f : ℕ) (n m : List ℕ) (i j : SymInfo)
    → slice_get sig.symbols f ≡ Some (n, i) → slice_get sig.symbols f ≡ Some (m, j) → i ≡ j
same_info sig f n m i j one other =
    ap (λ (e : List ℕ × SymInfo). e.1) (some_same (n, i) (m, j) (sym one ∙ other))

-- there are as many arguments as patterns of terms
as_many : (sig : Signature) (variables : List ℕ) (f : ℕ) (ps ws : List RulePat) (ts : Forest)
    → IsSortedPair sig variables (application f (plain_patterns ps)) (node f ts)
    → plain_patterns ws ≡ ground_patterns ts → length ps ≡ length ws
as_many sig variables f ps ws ts is wholes =
    let left : HasSort sig variables (application f (plain_patterns ps)) is.sort = is.left in
    let right : IsTermOf sig (node f ts) is.sort = is.right in
    let same : right.0 ≡ left.0 =
    same_info sig f right.1.0 left.1.0 right.0 left.0 right.1.1 left.1.1 in
    let moved : HaveSorts sig [] [] (plain_patterns ws) left.0.args.items =
    subst (λ (qs : Patterns). HaveSorts sig [] [] qs left.0.args.items) (sym wholes)
    (subst (λ (i : SymInfo). HaveSorts sig [] [] (ground_patterns ts) i.args.items) same right.4) in
    as_many_sorted sig variables ps left.0.args.items left.4
    ∙ sym (as_many_sorted sig [] ws left.0.args.items moved)

pub as_many_wholes : (pairs : List (ℕ × ℕ)) (f : ℕ) (ps ws : List RulePat) (t : Tree)
    → IsPairOver pairs (application f (plain_patterns ps)) t → t ≡ node f (forest (children t))
    → plain_patterns ws ≡ ground_patterns (forest (children t)) → length ps ≡ length ws
as_many_wholes pairs f ps ws t is whole wholes =
    as_many is.sig is.variables f ps ws (forest (children t))
    (subst (IsSortedPair is.sig is.variables (application f (plain_patterns ps))) whole is.pair)
    wholes

none_some : {A : Type 0} (a : A) → None ≡ Some a → ⊥
none_some a h = cc

pub whole_at : (ws : List RulePat) (ts : List Tree) (i : ℕ) (w : RulePat) (t : Tree)
    → plain_patterns ws ≡ ground_patterns (forest ts) → slice_get ws i ≡ Some w
    → slice_get ts i ≡ Some t → plain_pattern w ≡ ground_pattern t
whole_at [] ts i w t same one other = absurd (none_some w one)
whole_at (r ∷ ws) [] i w t same one other = absurd (none_some t other)
whole_at (r ∷ ws) (u ∷ ts) zero w t same one other =
    let first : plain_pattern r ≡ ground_pattern u = cc in
    ap plain_pattern (sym (some_same r w one)) ∙ first ∙ ap ground_pattern (some_same u t other)
whole_at (r ∷ ws) (u ∷ ts) (suc i) w t same one other =
    let rest : plain_patterns ws ≡ ground_patterns (forest ts) = cc in
    whole_at ws ts i w t rest one other

pub as_many_terms : (ws : List RulePat) (ts : List Tree)
    → plain_patterns ws ≡ ground_patterns (forest ts) → length ws ≡ length ts
as_many_terms [] [] same = refl
as_many_terms [] (u ∷ ts) same = cc
as_many_terms (r ∷ ws) [] same = cc
as_many_terms (r ∷ ws) (u ∷ ts) same =
    let rest : plain_patterns ws ≡ ground_patterns (forest ts) = cc in
    ap suc (as_many_terms ws ts rest)
